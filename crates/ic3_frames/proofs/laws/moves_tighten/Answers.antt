use Rattle.ic3_frames.proofs.BoundLemmas.{moves_never_lower}
use Rattle.ic3_frames.proofs.GainLemmas.{moves_gain}
use Rattle.ic3_frames.proofs.laws.moves_tighten.Goals as goal

pub returns : goal.returns
returns g = λ c kept at e level is up. record {
  rises = λ clause. moves_never_lower kept at e level clause is up;
  back = (moves_gain c kept at e level is up).back;
}
