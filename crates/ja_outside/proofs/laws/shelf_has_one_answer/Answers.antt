use Rattle.ja_outside.proofs.ShelfLemmas.{one_answer}
use Rattle.ja_outside.proofs.laws.shelf_has_one_answer.Goals as goal

pub returns : goal.returns
returns c = one_answer
