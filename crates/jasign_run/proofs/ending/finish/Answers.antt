use Rattle.std.proofs.Common.{inr, refl}
use Rattle.jasign_run.specs.declared.outcome.Outcome.TheVariants.{Stopped}
use Rattle.jasign_run.specs.declared.outcome.Stop.TheVariants.{Memory}
use Rattle.jasign_run.proofs.ending.finish.Goals as goal

pub returns-in-Err-clause-ends : goal.returns-in-Err-clause-ends
returns-in-Err-clause-ends g c = (Stopped Memory, inr refl, refl, c.memory_run.ensures.ends)
