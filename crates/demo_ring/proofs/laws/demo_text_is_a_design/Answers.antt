use Rattle.demo_ring.proofs.SpellLemmas.{text_is_a_design}
use Rattle.demo_ring.proofs.laws.demo_text_is_a_design.Goals as goal

pub returns : goal.returns
returns c = text_is_a_design
