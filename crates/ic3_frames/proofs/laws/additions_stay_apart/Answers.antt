use Rattle.ic3_frames.proofs.ApartLemmas.{additions_stay_apart}
use Rattle.ic3_frames.proofs.laws.additions_stay_apart.Goals as goal

pub returns : goal.returns
returns g = λ clause level kept apart free. additions_stay_apart clause level kept apart free
