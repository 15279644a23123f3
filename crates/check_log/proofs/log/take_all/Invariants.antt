use Rattle.std.proofs.Common.{◌≤◌, length}
use Rattle.check_log.proofs.log.take_all.Given as goal

-- there is room for the lines that are left
abbrev pub invariant-loop-line : goal.invariant-loop-line
invariant-loop-line l = length l.line-iterator.rest.items ≤ l.checker.spare
