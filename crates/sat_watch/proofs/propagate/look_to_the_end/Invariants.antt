use Rattle.std.proofs.Common.{◌≡◌, ◌-◌}
use Rattle.std.specs.List.{All}
use Rattle.ja_base.specs.Clauses.{IsBelow}
use Rattle.sat_plain.specs.Trails.{lits_of, IsAssigned}
use Rattle.sat_watch.specs.Stores.{IsHeld, over}
use Rattle.sat_watch.specs.Steps.{IsForcedOn}
use Rattle.sat_watch.specs.Fronts.{IsReady, IsTended}
use Rattle.sat_watch.proofs.propagate.look_to_the_end.Given as goal

abbrev pub invariant-loop-front : goal.invariant-loop-front
invariant-loop-front l =
    record {
      vars : l.trail.vars ≡ l.initial.trail.vars;
      is : IsAssigned l.trail;
      below : All (IsBelow l.trail.vars) l.store.clauses;
      grown : IsForcedOn l.initial.trail.places l.trail.places;
      held : IsHeld (over l.trail l.store);
      ready : IsReady l.front;
      tended : IsTended l.initial.trail.vars l.store (lits_of l.trail.places) l.watches l.front;
    }

abbrev pub decreases-loop-front : goal.decreases-loop-front
decreases-loop-front l = l.trail.vars - l.front.head
