use Rattle.ic3_frames.proofs.TopLemmas.{top_is_bounded}
use Rattle.ic3_frames.proofs.laws.top_is_bounded.Goals as goal

pub returns : goal.returns
returns g = λ vars f over apart own. top_is_bounded vars f over apart own
