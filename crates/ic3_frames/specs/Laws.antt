-- Statements over the definitions alone.
use Rattle.std.specs.Prelude.{◌≡◌, ℕ, ◌+◌, ◌*◌, ◌^◌, ◌≤◌, ◌<◌, Bool, false, Some, List, ◌++◌, All, length, slice_get}
use Rattle.ja_base.specs.Circuit.{Circuit}
use Rattle.ja_base.specs.Invariants.{IsInductive}
use Rattle.ic3_frames.specs.Levels.{Entry, Levels, AreLevels, HasOwnBelow, at_level, is_blocked, added, moved}
use Rattle.ic3_frames.specs.Soundness.{AreSound, IsBlockedFrom, Gains}
use Rattle.ic3_frames.specs.Sums.{IsOver, greatest, potential}
use Rattle.ic3_frames.specs.Apart.{AreApart, IsTighter}

-- an addition gains the clause at its level
abbrev pub AdditionsGain : Type 0
AdditionsGain = (c : Circuit) (kept : List Entry) (clause : List ℕ) (level : ℕ)
    → Gains c level clause kept (added clause level kept)

-- a move up gains the clause at its new level
abbrev pub MovesGain : Type 0
MovesGain = (c : Circuit) (kept : List Entry) (at : ℕ) (e : Entry) (level : ℕ)
    → slice_get kept at ≡ Some e → e.level ≤ level
    → Gains c level e.clause kept (moved kept at e level)

-- levels that gain a clause which is blocked from the level below stay sound
abbrev pub GainsAreSound : Type 0
GainsAreSound = (c : Circuit) (set : List Bool) (known : List (List ℕ)) (old new : List Entry)
    (k : ℕ) (clause : List ℕ) → AreSound c set known old → IsBlockedFrom c set known old k clause
    → Gains c (k + 1) clause old new → AreSound c set known new

-- the clauses of a level that the next one has too are inductive with what is known
abbrev pub FixedIsInductive : Type 0
FixedIsInductive = (c : Circuit) (set : List Bool) (known : List (List ℕ)) (kept : List Entry)
    (k : ℕ) → IsInductive c set known → AreSound c set known kept → 1 ≤ k
    → at_level kept k ≡ at_level kept (k + 1) → IsInductive c set (known ++ at_level kept k)

-- a clause over the variables that was not blocked at its level makes the sum rise
abbrev pub AdditionsRaise : Type 0
AdditionsRaise = (vars clause : List ℕ) (level : ℕ) (kept : List Entry) → IsOver vars clause → 1 ≤ level
    → is_blocked kept level clause ≡ false
    → potential vars kept < potential vars (added clause level kept)

-- no addition makes the sum fall
abbrev pub AdditionsNeverFall : Type 0
AdditionsNeverFall = (vars clause : List ℕ) (level : ℕ) (kept : List Entry)
    → potential vars kept ≤ potential vars (added clause level kept)

-- no move up makes the sum fall
abbrev pub MovesNeverFall : Type 0
MovesNeverFall = (vars : List ℕ) (kept : List Entry) (at : ℕ) (e : Entry) (level : ℕ)
    → slice_get kept at ≡ Some e → e.level ≤ level
    → potential vars kept ≤ potential vars (moved kept at e level)

-- no clause is blocked above the top
abbrev pub GreatestIsWithin : Type 0
GreatestIsWithin = (f : Levels) (clause : List ℕ) → AreLevels f → greatest f.kept clause ≤ f.top

-- additions and moves make levels tighter
abbrev pub AdditionsTighten : Type 0
AdditionsTighten = (c : Circuit) (kept : List Entry) (clause : List ℕ) (level : ℕ)
    → IsTighter c kept (added clause level kept)

abbrev pub MovesTighten : Type 0
MovesTighten = (c : Circuit) (kept : List Entry) (at : ℕ) (e : Entry) (level : ℕ)
    → slice_get kept at ≡ Some e → e.level ≤ level → IsTighter c kept (moved kept at e level)

-- a clause that was not blocked at its level is none of those that stay kept
abbrev pub AdditionsStayApart : Type 0
AdditionsStayApart = (clause : List ℕ) (level : ℕ) (kept : List Entry) → AreApart kept
    → is_blocked kept level clause ≡ false → AreApart (added clause level kept)

-- a move changes no clause
abbrev pub MovesStayApart : Type 0
MovesStayApart = (kept : List Entry) (at : ℕ) (e : Entry) (level : ℕ) → AreApart kept
    → slice_get kept at ≡ Some e → AreApart (moved kept at e level)

-- the sum is at most the top for each clause over the variables
abbrev pub SumIsBounded : Type 0
SumIsBounded = (vars : List ℕ) (f : Levels) → AreLevels f
    → potential vars f.kept ≤ 3 ^ length vars * f.top

-- where each level below the top has a clause of its own, the top is bounded
abbrev pub TopIsBounded : Type 0
TopIsBounded = (vars : List ℕ) (f : Levels) → All (λ (e : Entry). IsOver vars e.clause) f.kept
    → AreApart f.kept → HasOwnBelow f.kept f.top → f.top ≤ 3 ^ length vars + 1
