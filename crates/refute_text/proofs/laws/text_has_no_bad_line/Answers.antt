use Rattle.refute_text.proofs.TextLemmas.{not_bad}
use Rattle.refute_text.proofs.laws.text_has_no_bad_line.Goals as goal

pub returns : goal.returns
returns c = not_bad
