use Rattle.ic3_frames.proofs.ApartLemmas.{moves_stay_apart}
use Rattle.ic3_frames.proofs.laws.moves_stay_apart.Goals as goal

pub returns : goal.returns
returns g = λ kept at e level apart is. moves_stay_apart kept at e level apart is
