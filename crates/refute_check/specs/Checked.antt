-- What a contract sees of a checker, and of the list that it keeps.
use Rattle.std.specs.Prelude.{◌≡◌, ℕ, ◌+◌, ◌-◌, ◌≤◌, List, [], ◌∷◌, ◌++◌, Bool, length, map, take, slice_index_or}
use Rattle.ja_base.specs.Literals.{value, SatisfiedBy, AllSatisfiedBy}

-- the clauses by number, how many more find room, those of them that were added, and how many there were after the last
-- of these came
pub record Numbering : Type 0 where
  pub list : List (List ℕ)
  pub spare : ℕ
  pub added : List (List ℕ)
  pub kept : ℕ

-- the clause came last, as one that was added
pub record Adds (before : Numbering) (clause : List ℕ) (after : Numbering) : Type 0 where
  pub list : after.list ≡ before.list ++ clause ∷ []
  pub added : after.added ≡ before.added ++ clause ∷ []
  pub kept : after.kept ≡ length after.list
  pub room : before.spare ≤ after.spare + 1

-- the clauses at these places
abbrev pub clauses_at : List (List ℕ) → List ℕ → List (List ℕ)
clauses_at list places = map (λ k. slice_index_or list k []) places

-- the same with the number of variables
pub record Checked : Type 0 where
  pub vars : ℕ
  pub list : List (List ℕ)
  pub spare : ℕ
  pub added : List (List ℕ)
  pub kept : ℕ

-- each row under which all of the first list hold makes all of the second hold
abbrev pub Follows : List (List ℕ) → List (List ℕ) → Type 0
Follows added list = (row : List Bool) → AllSatisfiedBy (value row) added
    → AllSatisfiedBy (value row) list

-- each row under which all clauses of the list hold makes this one hold
abbrev pub FollowsOne : List (List ℕ) → List ℕ → Type 0
FollowsOne added clause = (row : List Bool) → AllSatisfiedBy (value row) added
    → SatisfiedBy (value row) clause

-- the clause came last, as one that was added
pub record IsAdded (before : Checked) (clause : List ℕ) (after : Checked) : Type 0 where
  pub vars : after.vars ≡ before.vars
  pub list : after.list ≡ before.list ++ clause ∷ []
  pub added : after.added ≡ before.added ++ clause ∷ []
  pub kept : after.kept ≡ length after.list
  pub room : before.spare ≤ after.spare + 1

-- the checker with one more accepted line
abbrev pub with_line : Checked → List ℕ → Checked
with_line before clause = record before {
  list = before.list ++ clause ∷ [];
  spare = before.spare - 1;
}

-- the checker without the lines that came after the last added clause
abbrev pub without_lines : Checked → Checked
without_lines before = record before {
  list = take before.kept before.list;
  spare = before.spare + (length before.list - before.kept);
}
