use Rattle.std.proofs.Common.{drop}
use Rattle.ja_project.specs.Resets.{HasResets}
use Rattle.ja_project.proofs.start.resets.Given as goal

abbrev pub invariant-loop-at : goal.invariant-loop-at
invariant-loop-at l = HasResets (drop l.at l.design.latches) l.design.vars l.resets.items
