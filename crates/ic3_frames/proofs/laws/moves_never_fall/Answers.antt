use Rattle.ic3_frames.proofs.BoundLemmas.{moves_never_fall}
use Rattle.ic3_frames.proofs.laws.moves_never_fall.Goals as goal

pub returns : goal.returns
returns g = λ vars kept at e level is up. moves_never_fall vars kept at e level is up
