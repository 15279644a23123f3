use Rattle.ic3_frames.proofs.SoundLemmas.{fixed_is_inductive}
use Rattle.ic3_frames.proofs.laws.fixed_is_inductive.Goals as goal

pub returns : goal.returns
returns g = λ c set known kept k inductive sound low same.
    fixed_is_inductive c set known kept k inductive sound low same
