use Rattle.ic3_frames.proofs.SoundLemmas.{gains_are_sound}
use Rattle.ic3_frames.proofs.laws.gains_are_sound.Goals as goal

pub returns : goal.returns
returns g = λ c set known old new k clause sound blocked gains. gains_are_sound c set known old new k clause sound blocked gains
