use Rattle.std.proofs.Common.{◌≡◌, ◌++◌, drop}
use Rattle.refute_check.proofs.lines.copy_lines.Given as goal

abbrev pub invariant-loop-line : goal.invariant-loop-line
invariant-loop-line l = l.copy ++ drop l.line-index l.lines ≡ l.lines
