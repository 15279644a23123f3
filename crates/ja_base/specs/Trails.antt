-- Literals in the order in which they became true, and clauses that are false or force a literal under them.
use Rattle.std.specs.Prelude.{◌≡◌, ℕ, ◌*◌, ◌<◌, ◌≤◌, Bool, true, false, not, List, length, filter, slice_get, Some, Contains, AllPairs}
use Rattle.ja_base.specs.Literals.{bit, variable, negated}
use Rattle.ja_base.specs.Clauses.{IsBelow}

-- no variable stands twice
abbrev pub AreApart : List ℕ → Type 0
AreApart lits = AllPairs (λ l m. variable l ≡ variable m → ⊥) lits

-- the row has a bit for each literal, set where the literal is one of these
pub record IsTrail (vars : ℕ) (values : List Bool) (lits : List ℕ) : Type 0 where
  pub width : length values ≡ 2 * vars
  pub below : IsBelow vars lits
  pub apart : AreApart lits
  pub short : length lits ≤ vars
  pub on : (l : ℕ) → Contains lits l → bit values l ≡ true
  pub only : (l : ℕ) → bit values l ≡ true → Contains lits l

-- each variable has a value: of its two literals one is true
pub record IsFull (vars : ℕ) (values : List Bool) : Type 0 where
  pub other : (l : ℕ) → variable l < vars → bit values l ≡ false → bit values (negated l) ≡ true

-- the literals of a clause that are not false; a literal is false where the bit of its negation is set
abbrev pub open_lits : List Bool → List ℕ → List ℕ
open_lits values clause = filter (λ l. not (bit values (negated l))) clause

-- the negation of each literal of the clause is one of these
pub record AreFalse (lits clause : List ℕ) : Type 0 where
  pub each : (m : ℕ) → Contains clause m → Contains lits (negated m)

-- the clause has l, and the negation of each other literal is one of these
pub record IsReason (lits : List ℕ) (l : ℕ) (clause : List ℕ) : Type 0 where
  pub has : Contains clause l
  pub others : (m : ℕ) → Contains clause m → (m ≡ l → ⊥) → Contains lits (negated m)

-- the clause of number n forces l
pub record IsForcedBy (clauses : List (List ℕ)) (lits : List ℕ) (l n : ℕ) : Type 0 where
  pub clause : List ℕ
  pub is : slice_get clauses n ≡ Some clause
  pub reason : IsReason lits l clause
