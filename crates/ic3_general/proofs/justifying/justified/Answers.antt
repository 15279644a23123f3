use Rattle.std.proofs.Common.{ℕ, List, subst}
use Rattle.std.specs.Prelude.{Contains}
use Rattle.ic3_general.proofs.justifying.justified.Goals as goal

pub returns-clause-among : goal.returns-clause-among
returns-clause-among c l h =
    c.loop-at.invariant l
    (subst (λ (xs : List ℕ). Contains xs l) c.as_slice.ensures.value ((c.in_ok-clause.ensures.set.members l).0 h))
