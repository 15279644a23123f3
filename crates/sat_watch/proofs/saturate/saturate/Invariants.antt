use Rattle.std.proofs.Common.{◌≡◌, ◌-◌, length}
use Rattle.std.specs.List.{All}
use Rattle.ja_base.specs.Clauses.{IsBelow}
use Rattle.sat_watch.specs.Stores.{IsHeld, over}
use Rattle.sat_watch.specs.Steps.{IsForcedOn}
use Rattle.sat_watch.proofs.saturate.saturate.Given as goal

abbrev pub invariant-loop-at : goal.invariant-loop-at
invariant-loop-at l =
    record {
      vars : l.trail.vars ≡ l.initial.trail.vars;
      below : All (IsBelow l.trail.vars) l.store.clauses;
      grown : IsForcedOn l.initial.trail.places l.trail.places;
      held : IsHeld (over l.trail l.store);
    }

abbrev pub decreases-loop-at : goal.decreases-loop-at
decreases-loop-at l = l.trail.vars - length l.trail.places
