use Rattle.store_core.proofs.ExampleLemmas.{fails}
use Rattle.desk.proofs.fakes.OneStepShown.prop.Goals as goal

pub returns-clause-fails : goal.returns-clause-fails
returns-clause-fails c = fails c.args.self.now.prop c.args.self.now.within
