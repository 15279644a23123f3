-- How a line is derived from a conflict: by a walk down the trail that resolves some of its places, and keeps others.
use Rattle.std.specs.Prelude.{◌≡◌, ℕ, ◌+◌, ◌*◌, ◌⊎◌, Bool, true, false, List, length, take, drop, reverse, slice_get, slice_set, Some, None, Contains}
use Rattle.ja_base.specs.Literals.{bit, negated}
use Rattle.ja_base.specs.Clauses.{IsBelow}
use Rattle.refute_check.specs.Lines.{outcome, refusal, assumed}
use Rattle.refute_check.specs.declared.lines.Line.{Line}
use Rattle.ja_base.specs.Trails.{AreApart, AreFalse, IsReason}

-- which literals are still to be explained, or were kept (one bit a literal), the literals of the clause so far, and the hints
-- so far, the last first
pub record Derived : Type 0 where
  pub marks : List Bool
  pub lits : List ℕ
  pub hints : List ℕ

-- the marks after l was resolved by a clause: the negations of the clause's literals came, and neither sign of l is marked
abbrev pub resolved_marks : List ℕ → ℕ → List Bool → List Bool
resolved_marks clause l marks =
    slice_set (slice_set (assumed clause marks) l false) (negated l) false

-- l stands below place p, or it was kept
abbrev pub IsKnown : List ℕ → ℕ → List ℕ → ℕ → Type 0
IsKnown trail p lits l = Contains (take p trail) l ⊎ Contains lits (negated l)

-- a row of a checker in which each marked literal is true, and no other than those that are known
pub record IsReady (trail : List ℕ) (p : ℕ) (d : Derived) (row : List Bool) : Type 0 where
  pub width : length row ≡ length d.marks
  pub marked : (l : ℕ) → bit d.marks l ≡ true → bit row l ≡ true
  pub only : (l : ℕ) → bit row l ≡ true → IsKnown trail p d.lits l

-- the walk stands at place p: what is marked is known, kept literals stand from p on, and the hints are accepted in each row that
-- is ready
pub record IsDerived (vars : ℕ) (clauses : List (List ℕ)) (trail : List ℕ) (p : ℕ)
    (d : Derived) : Type 0 where
  pub width : length d.marks ≡ 2 * vars
  pub known : (l : ℕ) → bit d.marks l ≡ true → IsKnown trail p d.lits l
  pub marked : (m : ℕ) → Contains d.lits m → bit d.marks (negated m) ≡ true
  pub from : (m : ℕ) → Contains d.lits m → Contains (drop p trail) (negated m)
  pub accepted : (row : List Bool) (at : ℕ) → IsReady trail p d row
      → (outcome clauses (reverse d.hints) row at).1 ≡ None

-- the trail of a walk
pub record IsWalked (vars : ℕ) (trail : List ℕ) : Type 0 where
  pub below : IsBelow vars trail
  pub apart : AreApart trail

-- the walk begins at the end of the trail, with a clause that is false
abbrev pub Begins : ℕ → ℕ → List ℕ → Derived → Type 0
Begins vars number clause after = (clauses : List (List ℕ)) (trail : List ℕ)
    → slice_get clauses number ≡ Some clause
    → AreFalse trail clause → IsDerived vars clauses trail (length trail) after

-- it goes on below a place whose literal is not marked
abbrev pub Skips : Derived → ℕ → Type 0
Skips before l = (vars : ℕ) (clauses : List (List ℕ)) (trail : List ℕ) (p : ℕ)
    → slice_get trail p ≡ Some l
    → IsDerived vars clauses trail (p + 1) before → IsDerived vars clauses trail p before

-- it goes on below a place whose literal is resolved by the clause that forces it
abbrev pub Resolves : Derived → ℕ → ℕ → List ℕ → Derived → Type 0
Resolves before l number clause after =
    (vars : ℕ) (clauses : List (List ℕ)) (trail : List ℕ) (p : ℕ)
    → slice_get trail p ≡ Some l → slice_get clauses number ≡ Some clause
    → IsReason (take p trail) l clause → IsWalked vars trail
    → IsDerived vars clauses trail (p + 1) before → IsDerived vars clauses trail p after

-- it goes on below a place whose literal is kept
abbrev pub Keeps : Derived → ℕ → Derived → Type 0
Keeps before l after = (vars : ℕ) (clauses : List (List ℕ)) (trail : List ℕ) (p : ℕ)
    → slice_get trail p ≡ Some l
    → IsDerived vars clauses trail (p + 1) before → IsDerived vars clauses trail p after

-- at the lowest place the line is accepted
abbrev pub Finishes : Derived → Line → Type 0
Finishes before line = (vars : ℕ) (clauses : List (List ℕ)) (trail : List ℕ) → IsWalked vars trail
    → IsDerived vars clauses trail 0 before → refusal vars clauses line.clause line.hints ≡ None
