-- What a contract sees of clauses that come and go, and of a trail over them.
use Rattle.std.specs.Prelude.{◌≡◌, ◌≢◌, ℕ, ◌≤◌, Bool, true, false, List, [], ◌∷◌, ◌++◌, length, nat_lt, slice_get, slice_set, Option, Some, None, if◌then◌else◌}
use Rattle.ja_base.specs.Literals.{bit, negated}
use Rattle.sat_plain.specs.declared.place.Place.{Place}
use Rattle.sat_plain.specs.Trails.{Assigned, AreForced}
use Rattle.sat_watch.specs.declared.tag.Tag.{Tag}

-- by slot: a clause, whether it is still there, and what it carries
pub record Stored : Type 0 where
  pub clauses : List (List ℕ)
  pub live : List Bool
  pub tags : List Tag

-- the trail, and the clauses that force its places
pub record Watched : Type 0 where
  pub trail : Assigned
  pub store : Stored

-- the trail over these clauses
abbrev pub over : Assigned → Stored → Watched
over trail store = record { trail = trail; store = store }

-- the element takes this slot, or comes behind the last one
abbrev pub put_at : {X : Type 0} → List X → ℕ → X → List X
put_at xs k x = if nat_lt k (length xs) then slice_set xs k x else xs ++ x ∷ []

-- the clause took a slot that was free
pub record IsPut (before : Stored) (clause : List ℕ) (tag : Tag) (after : Stored) (at : ℕ) : Type 0 where
  pub within : at ≤ length before.clauses
  pub free : bit before.live at ≡ false
  pub clauses : after.clauses ≡ put_at before.clauses at clause
  pub live : after.live ≡ put_at before.live at true
  pub tags : after.tags ≡ put_at before.tags at tag

-- the clause of this slot is there
pub record IsThere (store : Stored) (k : ℕ) (clause : List ℕ) : Type 0 where
  pub live : bit store.live k ≡ true
  pub is : slice_get store.clauses k ≡ Some clause

-- each place that was not decided is forced by a clause that is there, and by the places before it
pub record IsHeld (watched : Watched) : Type 0 where
  pub forced : AreForced watched.store.clauses watched.trail.places
  pub live : (p n : ℕ) (place : Place) → slice_get watched.trail.places p ≡ Some place → place.reason ≡ Some n
      → bit watched.store.live n ≡ true

-- no place is forced by the clause of this slot
abbrev pub IsIdle : List Place → ℕ → Type 0
IsIdle places k = (p : ℕ) (place : Place) → slice_get places p ≡ Some place → place.reason ≢ Some k

-- what the bits say of a literal: nothing where neither of its signs is true
abbrev pub value_of : List Bool → ℕ → Option Bool
value_of values l = if bit values l then Some true else (if bit values (negated l) then Some false else None)
