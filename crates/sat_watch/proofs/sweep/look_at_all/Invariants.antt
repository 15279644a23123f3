use Rattle.std.proofs.Common.{◌≡◌, ◌*◌, ◌<◌, ◌≤◌, ℕ, List, length}
use Rattle.std.specs.List.{All}
use Rattle.ja_base.specs.Clauses.{IsBelow}
use Rattle.sat_plain.specs.Trails.{IsAssigned, lits_of}
use Rattle.sat_watch.specs.Stores.{IsHeld, IsThere, over}
use Rattle.sat_watch.specs.Steps.{IsForcedOn}
use Rattle.sat_watch.specs.Watching.{ArePaired, Keeps}
use Rattle.sat_watch.specs.Visits.{IsSafe}
use Rattle.sat_watch.proofs.sweep.look_at_all.Given as goal

abbrev pub invariant-loop-slot : goal.invariant-loop-slot
invariant-loop-slot l =
    record {
      vars : l.trail.vars ≡ l.initial.trail.vars;
      below : All (IsBelow l.trail.vars) l.store.clauses;
      grown : IsForcedOn l.initial.trail.places l.trail.places;
      held : IsHeld (over l.trail l.store);
      is : IsAssigned l.trail;
      wide : 2 * l.trail.vars ≤ length l.watches.lists;
      long : length l.store.clauses ≤ length l.watches.pairs;
      paired : ArePaired l.store l.watches;
      keeps : Keeps l.store (lits_of l.initial.trail.places) l.initial.watches l.watches;
      safe : (k : ℕ) (clause : List ℕ) → k < l.slot → IsThere l.store k clause
          → IsSafe l.watches (lits_of l.trail.places) (lits_of l.initial.trail.places) k clause;
    }
