use Rattle.ic3_frames.proofs.GainLemmas.{additions_gain}
use Rattle.ic3_frames.proofs.SumLemmas.{additions_never_lower}
use Rattle.ic3_frames.proofs.laws.additions_tighten.Goals as goal

pub returns : goal.returns
returns g = λ c kept clause level. record {
  rises = additions_never_lower clause level kept;
  back = (additions_gain c kept clause level).back;
}
