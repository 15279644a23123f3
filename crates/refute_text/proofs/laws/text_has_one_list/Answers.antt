use Rattle.refute_text.proofs.TextLemmas.{text_one}
use Rattle.refute_text.proofs.laws.text_has_one_list.Goals as goal

pub returns : goal.returns
returns c = text_one
