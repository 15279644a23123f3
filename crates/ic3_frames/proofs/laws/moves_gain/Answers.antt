use Rattle.ic3_frames.proofs.GainLemmas.{moves_gain}
use Rattle.ic3_frames.proofs.laws.moves_gain.Goals as goal

pub returns : goal.returns
returns g = λ c kept at e level is up. moves_gain c kept at e level is up
