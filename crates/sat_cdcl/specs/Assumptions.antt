-- What is known of decisions: they are assumed literals, or came when all of these were true.
use Rattle.std.specs.Prelude.{◌≡◌, ℕ, ◌<◌, ◌≤◌, Bool, List, length, take, All, Contains, slice_get, Option, Some, None, ⊤}
use Rattle.ja_base.specs.Literals.{negated}
use Rattle.ja_base.specs.Trails.{IsFull}
use Rattle.sat_plain.specs.declared.place.Place.{Place}
use Rattle.sat_plain.specs.Trails.{Assigned, lits_of}
use Rattle.sat_watch.specs.Stores.{value_of}
use Rattle.sat_cdcl.specs.declared.assume.Next.{Next}
use Rattle.sat_cdcl.specs.declared.assume.Next.TheVariants.{True, Open, False}

-- below place n only literals of `under` were decided
abbrev pub DecidesUnder : List ℕ → List Place → ℕ → Type 0
DecidesUnder under places n = (p : ℕ) (place : Place) → p < n → slice_get places p ≡ Some place → place.reason ≡ None
    → Contains under place.lit

-- only literals of `under` were decided; or only those below place f, before which all of them are true
abbrev pub IsFreeFrom : List ℕ → List Place → Option ℕ → Type 0
IsFreeFrom under places None = DecidesUnder under places (length places)
IsFreeFrom under places (Some f) =
    (f ≤ length places) × DecidesUnder under places f × All (Contains (take f (lits_of places))) under

-- the same, and the first literals of `under`, so many, are true
pub record IsAssuming (under : List ℕ) (places : List Place) (free : Option ℕ) (cursor : ℕ) : Type 0 where
  pub decisions : IsFreeFrom under places free
  pub first : All (Contains (lits_of places)) (take cursor under)

-- all literals of `under` are true, or one is false, or has no value
abbrev pub IsNext : Assigned → List ℕ → Next → Type 0
IsNext trail under True = All (Contains (lits_of trail.places)) under
IsNext trail under (Open l) = Contains under l × (value_of trail.values l ≡ None)
IsNext trail under (False l) = Contains under l × Contains (lits_of trail.places) (negated l)

-- the negation of each literal is one of `under`
abbrev pub AreNegatedIn : List ℕ → List ℕ → Type 0
AreNegatedIn under lits = (m : ℕ) → Contains lits m → Contains under (negated m)

-- nothing is known once the place from which on other literals were decided is gone; else all is as it was
abbrev pub IsRetreated : ℕ → Option ℕ → ℕ → Option ℕ → ℕ → Type 0
IsRetreated to free cursor None cursor' = (cursor' ≡ 0) × ((f : ℕ) → free ≡ Some f → to ≤ f)
IsRetreated to free cursor (Some f) cursor' = (free ≡ Some f) × (f < to) × (cursor' ≡ cursor)

-- each variable has a value; nothing is said where the variables to be decided are given
abbrev pub IsDecidedFor : Option (List ℕ) → ℕ → List Bool → Type 0
IsDecidedFor None vars values = IsFull vars values
IsDecidedFor (Some among) vars values = ⊤
