use Rattle.jasign_run.proofs.Stops.{stops_before_signing}
use Rattle.jasign_run.proofs.sign.outcome_of.Goals as goal

pub returns-in-Err-expected_of-clause-means : goal.returns-in-Err-expected_of-clause-means
returns-in-Err-expected_of-clause-means g c =
    stops_before_signing _ _ (g.F.Shelf.faults c.design_of.new.shelf) _ _ _ _ c.in-Ok.ensures.later c.in-Ok.ensures.cases
    (rw c.in-Ok.ensures.kept at c.in-Err-expected_of.ensures.cases)
