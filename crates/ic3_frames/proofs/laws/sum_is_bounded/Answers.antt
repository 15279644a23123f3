use Rattle.ic3_frames.proofs.TopLemmas.{sum_is_bounded}
use Rattle.ic3_frames.proofs.laws.sum_is_bounded.Goals as goal

pub returns : goal.returns
returns g = λ vars f levels. sum_is_bounded vars f levels
