use Rattle.ic3_frames.proofs.GainLemmas.{additions_gain}
use Rattle.ic3_frames.proofs.laws.additions_gain.Goals as goal

pub returns : goal.returns
returns g = λ c kept clause level. additions_gain c kept clause level
