use Rattle.std.specs.Prelude.{IfSome}
use Rattle.random_sim.specs.Seen.{IsBroken}
use Rattle.random_sim.proofs.judging.assumed_broken.Given as goal

abbrev pub invariant-loop-prop : goal.invariant-loop-prop
invariant-loop-prop l = IfSome l.broken (IsBroken l.task)
