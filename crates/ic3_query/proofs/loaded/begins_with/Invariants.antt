use Rattle.std.proofs.Common.{◌≡◌, take}
use Rattle.ic3_query.proofs.loaded.begins_with.Given as goal

abbrev pub invariant-loop-at : goal.invariant-loop-at
invariant-loop-at l = take l.at l.list.clauses ≡ take l.at l.held
