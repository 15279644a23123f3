use Rattle.std.proofs.Common.{◌≡◌, ◌++◌, take}
use Rattle.std.specs.List.{flat_map}
use Rattle.report.specs.Reports.{member_words}
use Rattle.jasign_run.proofs.summary.put_members.Given as goal

abbrev pub invariant-loop-prop : goal.invariant-loop-prop
invariant-loop-prop l = l.text ≡ l.fn.text ++ flat_map member_words (take l.prop-index l.set)
