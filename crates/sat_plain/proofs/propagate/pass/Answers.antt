use Rattle.std.proofs.Common.{[], ◌∙◌, ap, arith}
use Rattle.std.proofs.lemmas.List.{get_or_default}
use Rattle.ja_base.specs.Trails.{open_lits}
use Rattle.refute_check.specs.Lines.{found_of}
use Rattle.sat_plain.proofs.propagate.pass.Goals as goal

pub returns-else-len-before-clause-step : goal.returns-else-len-before-clause-step
returns-else-len-before-clause-step c = λ k d less.
    ap (λ v. found_of c.loop-at.trail.values (open_lits c.loop-at.trail.values v))
    (get_or_default c.args.clauses.now.list k d [] less)
    ∙ c.loop-at.invariant.quiet (omega arith) k (omega arith)
