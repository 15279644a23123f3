use Rattle.ic3_frames.proofs.BoundLemmas.{greatest_within}
use Rattle.ic3_frames.proofs.laws.greatest_is_within.Goals as goal

pub returns : goal.returns
returns g = λ f clause levels. greatest_within f.kept f.top clause levels
