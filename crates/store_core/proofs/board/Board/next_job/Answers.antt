use Rattle.std.proofs.Common.{◌<◌, ℕ, List, length, subst}
use Rattle.std.specs.Prelude.{Contains}
use Rattle.std.proofs.lemmas.Option.{slice_get_within, get_or_from_slice_get}
use Rattle.store_core.specs.Boards.{BoardValue}
use Rattle.store_core.proofs.board.Board.next_job.Goals as goal

pub returns-clause-within : goal.returns-clause-within
returns-clause-within g c =
    let opens = c.self.invariant.opens in
    let p : ℕ = c.get.result.now in
    let plan : List ℕ = c.self.inside.opening.plan in
    let k : ℕ = c.self.inside.place in
    let has : Contains plan p = (k, slice_get_within plan k p c.get.ensures, get_or_from_slice_get plan k p p c.get.ensures) in
    let below : p < length c.self.inside.opening.assumed = rw opens.width ((opens.plan.members p).0 has) in
    let P : BoardValue _ _ → Type 0 = λ v. p < length v.opening.assumed in
    subst P c.self.view_is below
