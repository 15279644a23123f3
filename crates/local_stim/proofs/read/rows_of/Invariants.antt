-- the rows so far, and those that are still read, are all rows
use Rattle.std.proofs.Common.{◌≡◌, ◌+◌, ◌-◌, [], ◌∷◌}
use Rattle.local_stim.specs.StimulusReading.{rows_at, with_rows}
use Rattle.local_stim.proofs.read.rows_of.Given as goal

abbrev pub invariant-loop-done : goal.invariant-loop-done
invariant-loop-done l =
    with_rows l.rows (rows_at l.width (l.most - l.done) (5 + l.done) l.rest) ≡ with_rows (l.fn.first ∷ [])
    (rows_at l.width l.most 5 l.fn.bytes)
