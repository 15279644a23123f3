-- Literals as numbers, and what they say under a row of bits. Literal 2v is the variable v, 2v + 1 its negation (AIGER 1.9).
use Rattle.std.specs.Prelude.{◌≡◌, ℕ, ◌+◌, ◌-◌, ◌*◌, ◌/◌, ◌%◌, ◌==◌, Bool, true, false, not, if◌then◌else◌, List, All}
use Rattle.std.specs.Prelude.{slice_index_or}
use Rattle.std.specs.List.{list_any}

-- bit u of a row; a place past the end has bit 0
abbrev pub bit : List Bool → ℕ → Bool
bit row u = slice_index_or row u false

abbrev pub variable : ℕ → ℕ
variable l = l / 2

abbrev pub is_negated : ℕ → Bool
is_negated l = l % 2 == 1

-- the literal of a variable with a sign
abbrev pub literal_of : ℕ → Bool → ℕ
literal_of v neg = 2 * v + (if neg then 1 else 0)

-- the literal of the other sign
abbrev pub negated : ℕ → ℕ
negated l = if is_negated l then l - 1 else l + 1

-- what a literal is where its variable has the bit b
abbrev pub with_sign : ℕ → Bool → Bool
with_sign l b = if is_negated l then not b else b

-- what a literal is under a row that has a bit for each variable
abbrev pub value : List Bool → ℕ → Bool
value row l = with_sign l (bit row (variable l))

-- some literal of the clause is 1
abbrev pub SatisfiedBy : (ℕ → Bool) → List ℕ → Type 0
SatisfiedBy value_of clause = list_any value_of clause ≡ true

-- some literal of each clause is 1
abbrev pub AllSatisfiedBy : (ℕ → Bool) → List (List ℕ) → Type 0
AllSatisfiedBy value_of clauses = All (SatisfiedBy value_of) clauses
