-- The places of a trail, and the clauses that force them.
use Rattle.std.specs.Prelude.{◌≡◌, ℕ, ◌++◌, Bool, List, All, map, take, slice_get, Some, is_none}
use Rattle.ja_base.specs.Trails.{IsTrail, IsForcedBy, open_lits}
use Rattle.refute_check.specs.Lines.{found_of}
use Rattle.refute_check.specs.declared.found.Found.TheVariants.{Other}
use Rattle.sat_plain.specs.declared.place.Place.{Place}

-- a bit for each literal, set where it is true, and the places in order
pub record Assigned : Type 0 where
  pub vars : ℕ
  pub values : List Bool
  pub places : List Place

-- the literals of these places
abbrev pub lits_of : List Place → List ℕ
lits_of places = map (λ place. place.lit) places

-- which of these places were decided
abbrev pub kinds_of : List Place → List Bool
kinds_of places = map (λ place. is_none place.reason) places

-- the bits are those of the places
abbrev pub IsAssigned : Assigned → Type 0
IsAssigned a = IsTrail a.vars a.values (lits_of a.places)

-- each place that was not decided is forced by its clause and the places before it
pub record AreForced (clauses : List (List ℕ)) (places : List Place) : Type 0 where
  pub at : (p n : ℕ) (place : Place) → slice_get places p ≡ Some place → place.reason ≡ Some n
      → IsForcedBy clauses (take p (lits_of places)) place.lit n

-- more places came after these
pub record IsGrown (before after : List Place) : Type 0 where
  pub more : List Place
  pub is : after ≡ before ++ more

-- no clause is false, or forces a literal
abbrev pub IsQuiet : List (List ℕ) → List Bool → Type 0
IsQuiet clauses values = All (λ clause. found_of values (open_lits values clause) ≡ Other) clauses
