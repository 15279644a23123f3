use Rattle.std.proofs.Common.{◌≡◌, ◌==◌, ℕ, List, not, length, sym, ap, ◌∙◌, subst, arith}
use Rattle.std.specs.List.Sorted.{IsStrictlyIncreasing}
use Rattle.std.proofs.lemmas.List.{take_all}
use Rattle.std.proofs.lemmas.List.Kept.{IsStrictlyIncreasing-filter}
use Rattle.ic3_general.specs.Lifting.{without}
use Rattle.ic3_general.proofs.cutting.without.Goals as goal

pub returns : goal.returns
returns c =
    let clause : List ℕ = c.args.clause.now in
    let lit : ℕ = c.args.lit in
    let whole : c.loop-other.lits ≡ without lit clause =
    c.loop-other.invariant
    ∙ ap (without lit) (take_all c.loop-other.other-index clause
    (omega (arith, ap length c.lits-other-items.ensures.value, c.loop-other-test.false))) in
    let slice : c.as_slice.result.now ≡ without lit clause = c.as_slice.ensures.value ∙ whole in
    c.in_ok-part.ensures.ascending
    (subst IsStrictlyIncreasing (sym slice)
    (IsStrictlyIncreasing-filter (λ m. not (m == lit)) clause c.lits-other-items.ensures.ascends))
    ∙ slice
