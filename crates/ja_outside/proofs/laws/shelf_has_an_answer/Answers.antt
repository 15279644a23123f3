use Rattle.ja_outside.proofs.ShelfLemmas.{some_answer}
use Rattle.ja_outside.proofs.laws.shelf_has_an_answer.Goals as goal

pub returns : goal.returns
returns c = some_answer
