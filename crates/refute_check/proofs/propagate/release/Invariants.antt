use Rattle.std.proofs.Common.{◌≡◌, drop}
use Rattle.refute_check.specs.Lines.{released}
use Rattle.refute_check.proofs.propagate.release.Given as goal

abbrev pub invariant-loop-hint : goal.invariant-loop-hint
invariant-loop-hint l = released l.clauses.list l.hints l.fn.values ≡ released l.clauses.list (drop l.hint-index l.hints) l.values
