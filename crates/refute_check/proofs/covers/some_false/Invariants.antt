use Rattle.std.proofs.Common.{◌≡◌, take}
use Rattle.std.specs.List.{list_any}
use Rattle.refute_check.specs.Refuted.{is_false_under}
use Rattle.refute_check.proofs.covers.some_false.Given as goal

abbrev pub invariant-loop-at : goal.invariant-loop-at
invariant-loop-at l = list_any (is_false_under l.under) l.clauses ≡ list_any (is_false_under l.under) (take l.at l.clauses)
