use Rattle.std.proofs.Common.{◌≡◌, ℕ, List, length}
use Rattle.std.specs.List.{All}
use Rattle.ja_base.specs.Clauses.{IsBelow}
use Rattle.refute_check.specs.Checked.{Follows, FollowsOne}
use Rattle.sat_cdcl.specs.Files.{IsKept, list_of}
use Rattle.sat_cdcl.proofs.keep_sat.recall.Given as goal

abbrev pub invariant-loop-clause : goal.invariant-loop-clause
invariant-loop-clause l =
    record {
      kept : IsKept l.initial.db l.db;
      trail : l.db.watched.trail ≡ l.initial.db.watched.trail;
      below : All (IsBelow l.db.watched.trail.vars) l.clauses.items;
      follows : (added : List (List ℕ)) → All (FollowsOne added) l.initial.clauses.items
          → Follows added (list_of l.initial.db) → All (FollowsOne added) l.clauses.items × Follows added (list_of l.db);
    }

abbrev pub decreases-loop-clause : goal.decreases-loop-clause
decreases-loop-clause l = length l.clauses.items
