-- How a query starts.
use Rattle.std.specs.Prelude.{◌≡◌, ℕ, true, List, [], length, slice_get, Option, Some, None, Contains, ⊤}
use Rattle.ja_base.specs.Literals.{negated}
use Rattle.ja_base.specs.Clauses.{is_part}
use Rattle.refute_check.specs.Refuted.{has_both_signs}
use Rattle.refute_check.specs.declared.lines.Refuted.{Refuted}
use Rattle.sat_plain.specs.declared.place.Place.{Place}
use Rattle.sat_plain.specs.declared.query.Query.{Query}
use Rattle.sat_plain.specs.declared.start.Opening.{Opening}
use Rattle.sat_plain.specs.declared.start.Opening.TheVariants.{Ready, Contradicts, Memory}
use Rattle.sat_plain.specs.Trails.{lits_of}

-- the places are decided, and have just the literals of `under`
pub record AreAssumed (under : List ℕ) (places : List Place) : Type 0 where
  pub decided : (p : ℕ) (place : Place) → slice_get places p ≡ Some place → place.reason ≡ None
  pub all : (l : ℕ) → Contains under l → Contains (lits_of places) l
  pub only : (l : ℕ) → Contains (lits_of places) l → Contains under l

-- both signs of a literal are assumed, or the places are those of `under`
abbrev pub IsAssumed : List ℕ → List Place → Option ℕ → Type 0
IsAssumed under places None = AreAssumed under places
IsAssumed under places (Some l) = Contains under l × Contains under (negated l)

-- the trail has the literals of `under` and no other, and there is no line
pub record IsReadyFor (vars : ℕ) (under : List ℕ) (query : Query) : Type 0 where
  pub vars_are : query.trail.vars ≡ vars
  pub lines : query.lines ≡ []
  pub assumed : query.assumed ≡ length query.trail.places
  pub places : AreAssumed under query.trail.places

-- both signs of a literal of `under`, with no line
pub record IsContradiction (under : List ℕ) (refuted : Refuted) : Type 0 where
  pub part : is_part refuted.core under ≡ true
  pub both : has_both_signs refuted.core ≡ true
  pub lines : refuted.lines ≡ []

-- the search may begin, or the literals of `under` contradict each other
abbrev pub IsOpened : ℕ → List ℕ → Opening → Type 0
IsOpened vars under (Ready query) = IsReadyFor vars under query
IsOpened vars under (Contradicts refuted) = IsContradiction under refuted
IsOpened vars under Memory = ⊤

-- a fact, where the search may begin
abbrev pub OnReady : Opening → Type 0 → Type 0
OnReady (Ready query) P = P
OnReady (Contradicts refuted) P = ⊤
OnReady Memory P = ⊤
