use Rattle.ic3_oblig.specs.Lowest.{IsLowestOf}
use Rattle.ic3_oblig.proofs.queue.lowest.Given as goal

abbrev pub invariant-loop-next : goal.invariant-loop-next
invariant-loop-next l = IsLowestOf l.waiting l.next l.at
