use Rattle.sign_task.proofs.PlaceLemmas.{ArePlacesBelow}
use Rattle.sign_task.proofs.stimuli.places.Given as goal

abbrev pub invariant-loop-place : goal.invariant-loop-place
invariant-loop-place l = ArePlacesBelow l.failures l.props l.place l.places.items
