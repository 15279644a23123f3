use Rattle.sign_task.specs.Underway.{AreMarked}
use Rattle.sign_task.proofs.finishing.is_over.Given as goal

abbrev pub invariant-loop-prop : goal.invariant-loop-prop
invariant-loop-prop l = AreMarked l.board l.prop
