-- What a walk down the trail finds of a conflict.
use Rattle.std.specs.Prelude.{◌≡◌, ◌≢◌, ℕ, ◌<◌, ◌≤◌, false, List, [], ◌∷◌, take, drop, Contains, slice_get, Option, Some, None, ⊤, ◌+◌}
use Rattle.ja_base.specs.Literals.{bit, negated}
use Rattle.ja_base.specs.Trails.{IsReason}
use Rattle.sat_plain.specs.declared.place.Place.{Place}
use Rattle.sat_plain.specs.Trails.{lits_of}
use Rattle.sat_plain.specs.Derive.{Derived, IsDerived, IsWalked}
use Rattle.sat_watch.specs.Stores.{IsThere}
use Rattle.sat_cdcl.specs.Files.{Filed, places_of}
use Rattle.sat_cdcl.specs.declared.analyze.Met.{Met}
use Rattle.sat_cdcl.specs.declared.analyze.Met.TheVariants.{Marked, Decision, Ground}
use Rattle.sat_cdcl.specs.declared.analyze.Point.{Point}
use Rattle.sat_cdcl.specs.declared.analyze.Walk.{Walk}

-- the literal of place p was decided
pub record IsDecided (places : List Place) (p : ℕ) : Type 0 where
  pub place : Place
  pub is : slice_get places p ≡ Some place
  pub decided : place.reason ≡ None

-- the literal of place p has the clause of this slot as its reason
pub record HasReason (places : List Place) (p slot : ℕ) : Type 0 where
  pub place : Place
  pub is : slice_get places p ≡ Some place
  pub reason : place.reason ≡ Some slot

-- no literal at a place from k up to p is marked
abbrev pub AreUnmarked : List Place → Derived → ℕ → ℕ → Type 0
AreUnmarked places d k p = (q l : ℕ) → k ≤ q → q < p → slice_get (lits_of places) q ≡ Some l → bit d.marks l ≡ false

-- down from place p: a literal is marked, or none is down to a decision; nothing is said where there is none
abbrev pub IsMet : List Place → Derived → ℕ → Met → Type 0
IsMet places d p (Marked k) = ⊤
IsMet places d p (Decision k) = (k < p) × IsDecided places k × AreUnmarked places d k p
IsMet places d p Ground = ⊤

-- the walk goes on below place p, over the same trail up to there
abbrev pub GoesOn : ℕ → List (List ℕ) → List Place → ℕ → Derived → Derived → Type 0
GoesOn vars list places p before after = (trail : List ℕ) → take (p + 1) trail ≡ take (p + 1) (lits_of places)
    → IsWalked vars trail → IsDerived vars list trail (p + 1) before → IsDerived vars list trail p after

-- one literal was kept, at a place from that of a decision on, and the walk stands at the decision
pub record IsPoint (vars : ℕ) (list : List (List ℕ)) (places : List Place) (d : Derived) (point : Point) : Type 0 where
  pub derived : IsDerived vars list (lits_of places) point.back d
  pub one : d.lits ≡ negated point.lit ∷ []
  pub back : IsDecided places point.back
  pub above : Contains (drop point.back (lits_of places)) point.lit

-- one literal was kept; or none is, and the walk stands at place p
abbrev pub IsPointedAt : ℕ → List (List ℕ) → List Place → ℕ → Derived → Option Point → Type 0
IsPointedAt vars list places p d (Some point) = IsPoint vars list places d point
IsPointedAt vars list places p d None = IsDerived vars list (lits_of places) p d × (d.lits ≡ [])

-- the walk stands at place p: l stands at a place from that of the decision `back` on, and the other literals that were kept
-- stand before it
pub record IsLowering (vars : ℕ) (list : List (List ℕ)) (places : List Place) (l p : ℕ) (walk : Walk) : Type 0 where
  pub derived : IsDerived vars list (lits_of places) p walk.derivation
  pub low : p ≤ walk.back
  pub back : IsDecided places walk.back
  pub above : Contains (drop walk.back (lits_of places)) l
  pub has : Contains walk.derivation.lits (negated l)
  pub others : (m : ℕ) → Contains walk.derivation.lits m → m ≢ negated l → Contains (take walk.back (lits_of places)) (negated m)
  pub alone : walk.closed ≡ false → walk.derivation.lits ≡ negated l ∷ []

-- once the places from that of a decision on are gone, the clause forces the literal, which has no value then
pub record IsAsserting (places : List Place) (clause : List ℕ) (back l : ℕ) : Type 0 where
  pub decided : IsDecided places back
  pub reason : IsReason (take back (lits_of places)) l clause
  pub above : Contains (drop back (lits_of places)) (negated l)

-- the clause forces a literal once some places are gone; or it has no literal
abbrev pub IsLearntAt : List Place → List ℕ → Option Point → Type 0
IsLearntAt places clause (Some point) = IsAsserting places clause point.back point.lit
IsLearntAt places clause None = clause ≡ []

-- the clause of this slot forces a literal once some places are gone
pub record IsAssertedBy (filed : Filed) (slot : ℕ) (point : Point) : Type 0 where
  pub clause : List ℕ
  pub there : IsThere filed.watched.store slot clause
  pub asserting : IsAsserting (places_of filed) clause point.back point.lit
