use Rattle.std.proofs.Common.{◌≡◌, drop}
use Rattle.refute_check.specs.Lines.{outcome}
use Rattle.refute_check.proofs.propagate.follow.Given as goal

abbrev pub invariant-loop-at : goal.invariant-loop-at
invariant-loop-at l = outcome l.clauses.list l.hints l.fn.values 0 ≡ outcome l.clauses.list (drop l.at l.hints) l.values l.at
