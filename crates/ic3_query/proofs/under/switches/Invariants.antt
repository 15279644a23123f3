use Rattle.std.proofs.Common.{◌≡◌, ◌+◌, ◌-◌, ◌≤◌, map}
use Rattle.std.specs.List.{range_with_len}
use Rattle.ic3_query.specs.Switches.{switch}
use Rattle.ic3_query.proofs.under.switches.Given as goal

abbrev pub invariant-loop-at : goal.invariant-loop-at
invariant-loop-at l = record {
  from : l.level ≤ l.at;
  to : l.at - l.level ≤ l.top + 1 - l.level;
  lits : l.lits ≡ map (switch l.coded.design) (range_with_len l.level (l.at - l.level));
}
