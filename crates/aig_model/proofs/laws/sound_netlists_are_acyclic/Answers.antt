use Rattle.aig_model.proofs.GateHeights.{acyclic_from_sound}
use Rattle.aig_model.proofs.laws.sound_netlists_are_acyclic.Goals as goal

pub returns : goal.returns
returns c = acyclic_from_sound
