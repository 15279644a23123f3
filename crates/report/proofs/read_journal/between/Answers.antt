use Rattle.std.proofs.Common.{List, ℕ, [], ◌∷◌, ◌++◌, ap, ◌∙◌}
use Rattle.report.proofs.JournalLemmas.{between_more}
use Rattle.report.proofs.read_journal.between.Goals as goal

pub loop-at-preserved : goal.loop-at-preserved
loop-at-preserved c =
    between_more c.args.clauses.now c.args.from c.loop-at.at c.get.result.now c.loop-at.auto.at c.get.ensures c.loop-at.added
    c.push.new.self c.loop-at.invariant
    (c.in_ok-push.ensures.ok ∙ ap (λ (clause : List ℕ). c.loop-at.added ++ clause ∷ []) c.in_ok-copy.ensures)
