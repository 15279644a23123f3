use Rattle.std.proofs.Common.{◌≡◌, ◌*◌, ◌-◌, ◌<◌, ◌≤◌, ℕ, true, length}
use Rattle.std.specs.List.{All}
use Rattle.ja_base.specs.Literals.{bit, negated}
use Rattle.ja_base.specs.Clauses.{IsBelow}
use Rattle.sat_plain.specs.Trails.{IsAssigned, lits_of}
use Rattle.sat_watch.specs.Stores.{IsHeld, over}
use Rattle.sat_watch.specs.Steps.{IsForcedOn}
use Rattle.sat_watch.specs.Watching.{slots_at, Keeps}
use Rattle.sat_watch.specs.Visits.{IsBased, AreSwept}
use Rattle.sat_watch.proofs.sweep.sweep.Given as goal

abbrev pub invariant-loop-at : goal.invariant-loop-at
invariant-loop-at l =
    record {
      vars : l.trail.vars ≡ l.initial.trail.vars;
      below : All (IsBelow l.trail.vars) l.store.clauses;
      grown : IsForcedOn l.initial.trail.places l.trail.places;
      held : IsHeld (over l.trail l.store);
      is : IsAssigned l.trail;
      wide : 2 * l.trail.vars ≤ length l.watches.lists;
      long : length l.store.clauses ≤ length l.watches.pairs;
      within : l.lit < length l.watches.lists;
      wrong : bit l.trail.values (negated l.lit) ≡ true;
      based : (k : ℕ) → IsBased l.store (lits_of l.trail.places) l.watches k;
      keeps : Keeps l.store (lits_of l.initial.trail.places) l.initial.watches l.watches;
      swept : AreSwept l.store (lits_of l.initial.trail.places) l.initial.watches (lits_of l.trail.places) l.watches l.lit l.at;
    }

abbrev pub decreases-loop-at : goal.decreases-loop-at
decreases-loop-at l = length (slots_at l.watches l.lit) - l.at
