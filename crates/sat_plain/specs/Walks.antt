-- A walk that keeps decisions and resolves the other places.
use Rattle.std.specs.Prelude.{◌≡◌, ℕ, ◌≤◌, ◌<◌, List, [], take, slice_get, Option, Some, None}
use Rattle.ja_base.specs.Literals.{negated}
use Rattle.sat_plain.specs.declared.place.Place.{Place}
use Rattle.ja_base.specs.Trails.{IsReason}
use Rattle.sat_plain.specs.Trails.{lits_of}
use Rattle.sat_plain.specs.Derive.{Derived, IsDerived}

-- q is the place of a decision, and the clause of these literals forces the negation of its literal by the places before
pub record IsCut (places : List Place) (q : ℕ) (lits : List ℕ) : Type 0 where
  pub place : Place
  pub is : slice_get places q ≡ Some place
  pub decided : place.reason ≡ None
  pub reason : IsReason (take q (lits_of places)) (negated place.lit) lits

-- the highest decision that was kept, which stands at p or above; none where no literal was kept
abbrev pub IsLast : List Place → ℕ → List ℕ → Option ℕ → Type 0
IsLast places p lits None = lits ≡ []
IsLast places p lits (Some q) = (p ≤ q) × IsCut places q lits

-- the walk stands at place p
pub record IsWalking (vars : ℕ) (clauses : List (List ℕ)) (places : List Place) (p : ℕ)
    (d : Derived) (last : Option ℕ) : Type 0 where
  pub derived : IsDerived vars clauses (lits_of places) p d
  pub highest : IsLast places p d.lits last

-- whether the highest decision that was kept stands above the lowest places, `assumed` many
abbrev pub IsChoice : Option ℕ → ℕ → Option ℕ → Type 0
IsChoice last assumed None = (q : ℕ) → last ≡ Some q → q < assumed
IsChoice last assumed (Some q) = (last ≡ Some q) × (assumed ≤ q)
