use Rattle.refute_text.proofs.TextLemmas.{bad_one}
use Rattle.refute_text.proofs.laws.bad_places_agree.Goals as goal

pub returns : goal.returns
returns c = bad_one
