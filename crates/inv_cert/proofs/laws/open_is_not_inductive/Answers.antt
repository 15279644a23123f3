use Rattle.inv_cert.proofs.TakenLemmas.{open_is_not_inductive}
use Rattle.inv_cert.proofs.laws.open_is_not_inductive.Goals as goal

pub returns : goal.returns
returns c = λ t base candidates clause row sound expected own has left inductive.
    open_is_not_inductive t base candidates clause row sound expected own has left inductive
