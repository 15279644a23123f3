-- When a line is accepted by unit propagation over a numbered list of clauses. What is known is a row with one bit a
-- literal, set where the literal is true; a literal is false where its negation is true.
use Rattle.std.specs.Prelude.{ℕ, ◌+◌, ◌*◌, ◌==◌, ◌&&◌, Bool, true, false, not, nat_lt, if◌then◌else◌, List, [], ◌∷◌, replicate, slice_set, slice_get, Option, Some, None, is_none}
use Rattle.std.specs.List.{list_all}
use Rattle.ja_base.specs.Literals.{bit, variable, negated}
use Rattle.ja_base.specs.Trails.{open_lits}
use Rattle.refute_check.specs.Refuted.{has_both_signs}
use Rattle.refute_check.specs.declared.found.Found.{Found}
use Rattle.refute_check.specs.declared.found.Found.TheVariants.{False, Forces, Other}

-- each literal of the clause is false
abbrev pub are_false : List Bool → List ℕ → Bool
are_false row clause = list_all (λ l. bit row (negated l)) clause

-- of these that are not false: none, or one that is not true either
abbrev pub found_of : List Bool → List ℕ → Found
found_of row [] = False
found_of row (l ∷ []) = if bit row l then Other else Forces l
found_of row (l ∷ m ∷ ls) = Other

-- what a hint names
abbrev pub found_at : List Bool → Option (List ℕ) → Found
found_at row None = Other
found_at row (Some clause) = found_of row (open_lits row clause)

-- the row after the hint of this place, and whether it is refused; `next` is what the later ones do
abbrev pub judged : Found → List Bool → ℕ → List ℕ → (List Bool → List Bool × Option ℕ)
    → List Bool × Option ℕ
judged False row at [] next = (row, None)
judged False row at (h ∷ hints) next = (row, Some at)
judged (Forces l) row at hints next = next (slice_set row l true)
judged Other row at hints next = (row, Some at)

-- the last row, and the place of the first hint that is refused; None: a clause became false at the last hint
abbrev pub outcome : List (List ℕ) → List ℕ → List Bool → ℕ → List Bool × Option ℕ
outcome clauses [] row at = (row, Some at)
outcome clauses (h ∷ hints) row at =
    judged (found_at row (slice_get clauses h)) row at hints
    (λ next. outcome clauses hints next (at + 1))

-- each literal of the clause made false
abbrev pub assumed : List ℕ → List Bool → List Bool
assumed [] row = row
assumed (l ∷ ls) row = assumed ls (slice_set row (negated l) true)

-- the same taken back
abbrev pub withdrawn : List ℕ → List Bool → List Bool
withdrawn [] row = row
withdrawn (l ∷ ls) row = withdrawn ls (slice_set row (negated l) false)

-- no literal of the clause is true
abbrev pub cleared : List ℕ → List Bool → List Bool
cleared [] row = row
cleared (l ∷ ls) row = cleared ls (slice_set row l false)

-- no literal of what a hint names is true
abbrev pub cleared_at : Option (List ℕ) → List Bool → List Bool
cleared_at None row = row
cleared_at (Some clause) row = cleared clause row

-- no literal of a hinted clause is true
abbrev pub released : List (List ℕ) → List ℕ → List Bool → List Bool
released clauses [] row = row
released clauses (h ∷ hints) row = released clauses hints (cleared_at (slice_get clauses h) row)

-- no literal is true
abbrev pub unknown : ℕ → List Bool
unknown vars = replicate (2 * vars) false

-- l is the first of these literals
abbrev pub first_is : ℕ → List ℕ → Bool
first_is l [] = false
first_is l (m ∷ ms) = m == l

-- the variables are below `vars`, and none has both signs
abbrev pub is_fit : ℕ → List ℕ → Bool
is_fit vars clause = list_all (λ l. nat_lt (variable l) vars) clause && not (has_both_signs clause)

-- the hint at which a line is refused, if it is
abbrev pub refusal : ℕ → List (List ℕ) → List ℕ → List ℕ → Option ℕ
refusal vars clauses clause hints =
    if is_fit vars clause then (outcome clauses hints (assumed clause (unknown vars)) 0).1
    else Some 0

-- the line is accepted by unit propagation
abbrev pub accepts_line : ℕ → List (List ℕ) → List ℕ → List ℕ → Bool
accepts_line vars clauses clause hints = is_none (refusal vars clauses clause hints)
