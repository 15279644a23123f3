-- What contracts see of the levels: the top, and each kept clause with the level up to which it stands.
use Rattle.std.specs.Prelude.{◌≡◌, ℕ, ◌+◌, ◌<◌, ◌≤◌, ◌&&◌, nat_le, Bool, not, Some, List, [], ◌∷◌, ◌++◌, map, filter, slice_get, slice_set, All}
use Rattle.std.specs.List.{list_any}
use Rattle.ja_base.specs.Clauses.{is_part}

-- a kept clause, and the highest level at which it stands
pub record Entry : Type 0 where
  pub clause : List ℕ
  pub level : ℕ

-- the top, and the kept clauses by place
pub record Levels : Type 0 where
  pub top : ℕ
  pub kept : List Entry

-- a fact of the entry at this place
abbrev pub IfEntry : List Entry → ℕ → (Entry → Type 0) → Type 0
IfEntry kept at P = (e : Entry) → slice_get kept at ≡ Some e → P e

-- the entry stands at this level: a clause of a level stands at each lower one too
abbrev pub stands_at : ℕ → Entry → Bool
stands_at level e = nat_le level e.level

-- the clauses that stand at the level, by place
abbrev pub at_level : List Entry → ℕ → List (List ℕ)
at_level kept level = map (λ (e : Entry). e.clause) (filter (stands_at level) kept)

-- the entry stands at the level, and its clause subsumes this one
abbrev pub is_blocked_by : ℕ → List ℕ → Entry → Bool
is_blocked_by level clause e = stands_at level e && is_part e.clause clause

-- some clause that stands at the level subsumes this one
abbrev pub is_blocked : List Entry → ℕ → List ℕ → Bool
is_blocked kept level clause = list_any (is_blocked_by level clause) kept

-- the first entry takes the place of the other: it subsumes it, and stands as high at least
abbrev pub takes_place : Entry → Entry → Bool
takes_place new e = nat_le e.level new.level && is_part new.clause e.clause

-- the clauses once one was added at the level: those whose place it takes are dropped, and it is the last
abbrev pub added : List ℕ → ℕ → List Entry → List Entry
added clause level kept =
    filter (λ e. not (takes_place (record { clause = clause; level = level }) e)) kept
    ++ record { clause = clause; level = level } ∷ []

-- the clauses once the entry at this place was moved to the level
abbrev pub moved : List Entry → ℕ → Entry → ℕ → List Entry
moved kept at e level = slice_set kept at (record { clause = e.clause; level = level })

-- each kept clause stands at a level from 1 to the top
abbrev pub AreLevels : Levels → Type 0
AreLevels f = All (λ (e : Entry). (1 ≤ e.level) × (e.level ≤ f.top)) f.kept

-- a clause stands at this level and at none above it
pub record HasOwn (kept : List Entry) (level : ℕ) : Type 0 where
  pub place : ℕ
  pub entry : Entry
  pub is : slice_get kept place ≡ Some entry
  pub level_is : entry.level ≡ level

-- each level from 1 to below this one has a clause of its own
abbrev pub HasOwnBelow : List Entry → ℕ → Type 0
HasOwnBelow kept level = (j : ℕ) → 1 ≤ j → j < level → HasOwn kept j

-- the level is the least that has the clauses of the one above it
pub record IsLeastFixed (f : Levels) (level : ℕ) : Type 0 where
  pub low : 1 ≤ level
  pub high : level < f.top
  pub same : at_level f.kept level ≡ at_level f.kept (level + 1)
  pub earlier : HasOwnBelow f.kept level
