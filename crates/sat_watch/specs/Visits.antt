-- What a visit of a clause leaves, and a pass over clauses.
use Rattle.std.specs.Prelude.{◌≡◌, ◌≢◌, ℕ, ◌+◌, ◌⊎◌, ⊤, Bool, false, List, length, drop, Contains, slice_get, Some}
use Rattle.ja_base.specs.Literals.{bit, negated}
use Rattle.sat_plain.specs.Trails.{Assigned, lits_of}
use Rattle.sat_watch.specs.Stores.{Stored, IsThere, over}
use Rattle.sat_watch.specs.Steps.{IsConflict}
use Rattle.sat_watch.specs.Watching.{Watching, slots_at, IsKeptBut, IsPaired, IsWatchedBut, IsWatched}
use Rattle.sat_watch.specs.declared.pair.Pair.{Pair}
use Rattle.sat_watch.specs.declared.visit.Visit.{Visit}
use Rattle.sat_watch.specs.declared.visit.Visit.TheVariants.{Safe, Passed, False, Unsettled}

-- some literal of the clause is one of these
pub record IsTrueUnder (lits clause : List ℕ) : Type 0 where
  pub literal : ℕ
  pub has : Contains clause literal
  pub on : Contains lits literal

-- neither of the two literals that watch the clause of this slot is false
abbrev pub IsOpenPair : List Bool → Watching → ℕ → Type 0
IsOpenPair values w slot = (pair : Pair) → slice_get w.pairs slot ≡ Some pair
    → (bit values (negated pair.one) ≡ false) × (bit values (negated pair.two) ≡ false)

-- a literal of the clause is true, or two literals of it watch it that are not false under what is known
abbrev pub IsSafe : Watching → List ℕ → List ℕ → ℕ → List ℕ → Type 0
IsSafe w lits known slot clause = IsTrueUnder lits clause ⊎ IsWatched w known slot clause

-- a literal of the clause is true, or two literals of it watch it
abbrev pub IsBased : Stored → List ℕ → Watching → ℕ → Type 0
IsBased store lits w slot = (clause : List ℕ) → IsThere store slot clause → IsTrueUnder lits clause ⊎ IsPaired w slot clause

-- the clause of this slot is watched by another literal in place of l
pub record Moves (store : Stored) (lits : List ℕ) (before : Watching) (l at slot : ℕ) (after : Watching) : Type 0 where
  pub but : IsKeptBut slot before after
  pub rest : (k : ℕ) → k ≢ slot → Contains (drop at (slots_at before l)) k → Contains (drop at (slots_at after l)) k
  pub fewer : length (slots_at after l) + 1 ≡ length (slots_at before l)
  pub moves : (known clause : List ℕ) → ((m : ℕ) → Contains known m → Contains lits m) → IsThere store slot clause
      → IsWatchedBut before l known slot clause → IsWatched after known slot clause

-- what a visit leaves of the clause of a slot that stands at this place of the list of l
abbrev pub IsVisitedAt : Stored → Assigned → Assigned → Watching → Watching → ℕ → ℕ → ℕ → Visit → Type 0
IsVisitedAt store before trail old new l at slot Safe =
    (new ≡ old) × ((clause : List ℕ) → IsThere store slot clause → IsTrueUnder (lits_of trail.places) clause)
IsVisitedAt store before trail old new l at slot Passed = Moves store (lits_of before.places) old l at slot new
IsVisitedAt store before trail old new l at slot False = (new ≡ old) × IsConflict (over trail store) slot
IsVisitedAt store before trail old new l at slot Unsettled = new ≡ old

-- what a look at the clause of a slot finds
abbrev pub IsLookedAt : Stored → Assigned → Watching → ℕ → Visit → Type 0
IsLookedAt store trail w slot Safe =
    (clause : List ℕ) → IsThere store slot clause → IsSafe w (lits_of trail.places) (lits_of trail.places) slot clause
IsLookedAt store trail w slot Passed = ⊤
IsLookedAt store trail w slot False = IsConflict (over trail store) slot
IsLookedAt store trail w slot Unsettled = ⊤

-- of what is known more, only l can make a literal false that was not
pub record Narrows (l : ℕ) (lits known more : List ℕ) : Type 0 where
  pub within : (m : ℕ) → Contains more m → Contains lits m
  pub least : (m : ℕ) → Contains known m → Contains lits m
  pub one : (m : ℕ) → Contains more (negated m) → m ≢ l → Contains known (negated m)

-- what was safe before l was known to be false is safe, but for those slots in its list from this place on
abbrev pub AreSwept : Stored → List ℕ → Watching → List ℕ → Watching → ℕ → ℕ → Type 0
AreSwept store before old lits new l at =
    (known more : List ℕ) (k : ℕ) (clause : List ℕ) → Narrows l before known more → IsThere store k clause
    → (Contains (drop at (slots_at new l)) k → ⊥) → IsSafe old before known k clause → IsSafe new lits more k clause
