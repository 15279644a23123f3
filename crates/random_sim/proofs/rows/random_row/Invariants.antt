use Rattle.std.proofs.Common.{◌≡◌, length}
use Rattle.random_sim.proofs.rows.random_row.Given as goal

abbrev pub invariant-loop-at : goal.invariant-loop-at
invariant-loop-at l = length l.row ≡ l.len
