use Rattle.local_stim.proofs.VerdictLemmas.{verdicts_agree}
use Rattle.local_stim.proofs.laws.verdicts_exclude.Goals as goal

pub returns : goal.returns
returns c = λ t p m a b acyclic x y. verdicts_agree t m acyclic p a b x y
