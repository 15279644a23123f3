use Rattle.std.proofs.Common.{rules, ◌≡◌, slice_get, Some, get_or}
use Rattle.std.proofs.lemmas.Option.{slice_get-get_or}
use Rattle.ic3_oblig.specs.declared.obligation.Obligation.{Obligation}
use Rattle.ic3_oblig.proofs.LowestLemmas.{IsLowestOf-some, IsLowestOf-more}
use Rattle.ic3_oblig.proofs.queue.lowest.Goals as goal

pub loop-next-init : goal.loop-next-init
loop-next-init c = IsLowestOf-some c.args.waiting.now (search rules)

pub loop-next-preserved : goal.loop-next-preserved
loop-next-preserved c =
    let waiting = c.args.waiting.now in
    let h = c.loop-next.invariant in
    let n : Obligation = get_or waiting c.loop-next.next h.obligation in
    let is : slice_get waiting c.loop-next.next ≡ Some n =
    slice_get-get_or waiting c.loop-next.next h.obligation c.loop-next-test.true in
    IsLowestOf-more waiting c.loop-next.at c.loop-next.next n is h c.lower-at.result (c.lower-at.ensures h.obligation n h.is is)
