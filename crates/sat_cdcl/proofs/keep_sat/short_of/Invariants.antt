use Rattle.std.proofs.Common.{List, ℕ}
use Rattle.std.specs.List.{All}
use Rattle.refute_check.specs.Checked.{Follows}
use Rattle.sat_cdcl.specs.Files.{list_of}
use Rattle.sat_cdcl.specs.Questions.{IsKeepable}
use Rattle.sat_cdcl.proofs.keep_sat.short_of.Given as goal

abbrev pub invariant-loop-number : goal.invariant-loop-number
invariant-loop-number l =
    (added : List (List ℕ)) → Follows added (list_of l.db)
    → All (IsKeepable l.db.watched.trail.vars added) l.question.kept.items
