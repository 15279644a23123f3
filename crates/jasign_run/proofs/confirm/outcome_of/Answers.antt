use Rattle.std.proofs.Common.{arith}
use Rattle.jasign_run.proofs.Stops.{stops_at_stimulus, stops_at_expectations}
use Rattle.jasign_run.proofs.confirm.outcome_of.Goals as goal

pub returns-in-Err-stimulus_of-clause-means : goal.returns-in-Err-stimulus_of-clause-means
returns-in-Err-stimulus_of-clause-means g c =
    stops_at_stimulus _ _ (g.F.Shelf.faults c.design_of.new.shelf) _ _ _ _ c.in-Ok.ensures.later c.in-Ok.ensures.cases
    (rw c.in-Ok.ensures.kept at c.in-Err-stimulus_of.ensures.cases)

pub returns-in-Err-expected_of-clause-means : goal.returns-in-Err-expected_of-clause-means
returns-in-Err-expected_of-clause-means g c =
    stops_at_expectations _ _ (g.F.Shelf.faults c.stimulus_of.new.shelf) _ _ _ _ _ _
    (omega (arith, c.in-Ok.ensures.later, c.in-Ok-stimulus_of.ensures.later))
    c.in-Ok.ensures.cases
    (rw c.in-Ok.ensures.kept at c.in-Ok-stimulus_of.ensures.cases)
    (rw (c.in-Ok-stimulus_of.ensures.kept, c.in-Ok.ensures.kept) at c.in-Err-expected_of.ensures.cases)
