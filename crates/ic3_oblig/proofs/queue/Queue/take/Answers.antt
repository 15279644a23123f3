use Rattle.std.proofs.Common.{◌≡◌, ℕ, List, length, slice_get, Some, sym, ap, subst, ◌∙◌}
use Rattle.std.proofs.lemmas.Option.{slice_get-get_or}
use Rattle.ic3_oblig.specs.declared.obligation.Obligation.{Obligation}
use Rattle.ic3_oblig.specs.Lowest.{IsLowestOf, IsTaken}
use Rattle.ic3_oblig.proofs.LowestLemmas.{IsTaken-lowest}
use Rattle.ic3_oblig.proofs.queue.Queue.take.Goals as goal

pub returns-clause-taken : goal.returns-clause-taken
returns-clause-taken c =
    let waiting : List Obligation = c.self.inside.waiting.items in
    let at : ℕ = c.in_ok-at.at in
    let P : List Obligation → Type 0 = λ w. IsLowestOf w (length w) at in
    let h : IsLowestOf waiting (length waiting) at = subst P c.as_slice.ensures.value c.in_ok-at.ensures.found in
    let is : slice_get waiting at ≡ Some c.remove.result =
    slice_get-get_or waiting at c.remove.result h.within ∙ ap (λ (o : Obligation). Some o) (sym c.remove.ensures.value) in
    let Q : List Obligation → Type 0 = λ w. IsTaken w c.remove.result c.remove.new.self.items in
    subst Q c.self.view_is (IsTaken-lowest waiting c.remove.new.self.items c.remove.result at h is c.remove.ensures.by_index.2)
