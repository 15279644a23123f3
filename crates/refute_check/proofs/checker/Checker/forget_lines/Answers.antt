use Rattle.refute_check.proofs.ListLemmas.{IsKept, kept_by_cut}
use Rattle.refute_check.proofs.checker.Checker.forget_lines.Goals as goal

pub invariant_of-self : goal.invariant_of-self
invariant_of-self c =
    let before : IsKept c.self.inside.vars c.self.inside.clauses =
    record { below = c.self.invariant.1; follow = c.self.invariant.2 } in
    let after = kept_by_cut c.self.inside.vars c.self.inside.clauses c.forget_lines.new.self c.forget_lines.ensures before in
    (c.self.invariant.0, after.below, after.follow)
