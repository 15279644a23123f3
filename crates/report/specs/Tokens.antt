-- What stands at the front of what is left of a line, as it is read: its value, and what follows it.
use Rattle.std.specs.Prelude.{ℕ, ◌-◌, ◌==◌, ◌&&◌, ◌||◌, Bool, false, not, nat_lt, if◌then◌else◌, List, [], ◌∷◌, length, take, bytes_eq, codes, Option, Some, None}
use Rattle.ja_text.specs.Numbers.{is_digit, number_at}
use Rattle.ja_text.specs.Lines.{word_at}
use Rattle.store_core.specs.declared.mark.Mark.{Mark}
use Rattle.store_core.specs.declared.mark.Mark.TheVariants.{Proved, Fails, Budget, Cancelled}

-- what is read next, behind what was read
infixl 10 ◌>>=◌
abbrev pub ◌>>=◌ : {A B : Type 0} → Option A → (A → Option B) → Option B
(Some x) >>= f = f x
None >>= f = None

-- ---- numbers

-- a zero stands at the front, and a digit behind it
abbrev pub has_leading_zero : List ℕ → Bool
has_leading_zero [] = false
has_leading_zero (b ∷ []) = false
has_leading_zero (b ∷ c ∷ bytes) = b == 48 && is_digit c

-- the digits of the greatest number that a reader holds
abbrev pub greatest : List ℕ
greatest = codes "18446744073709551615"

-- the number that was read stands for a greater one
abbrev pub is_beyond : List ℕ → ℕ × List ℕ → Bool
is_beyond bytes x = x.0 == 18446744073709551615 && not (bytes_eq (take (length bytes - length x.1) bytes) greatest)

-- a number below 2^64, as it is written
unfoldable pub exact_at : List ℕ → Option (ℕ × List ℕ)
exact_at bytes = do
  x ← number_at bytes
  if has_leading_zero bytes || is_beyond bytes x then None else Some x

-- a number below 2^32, as it is written
unfoldable pub small_at : List ℕ → Option (ℕ × List ℕ)
small_at bytes = do
  x ← exact_at bytes
  if nat_lt 4294967295 x.0 then None else Some x

-- such a number behind the word
unfoldable pub small_behind : List ℕ → List ℕ → Option (ℕ × List ℕ)
small_behind word bytes = do
  digits ← word_at word bytes
  small_at digits

-- ---- marks

-- the budget of the mark
unfoldable pub budget_at : List ℕ → Option (Mark × List ℕ)
budget_at bytes = do
  digits ← word_at (codes "unknown budget ") bytes
  x ← exact_at digits
  Some (Budget x.0, x.1)

-- the mark of the first word that stands there
abbrev pub first_mark : Option (List ℕ) → Option (List ℕ) → Option (List ℕ) → Option (Mark × List ℕ) → Option (Mark × List ℕ)
first_mark (Some rest) fails cancelled budget = Some (Proved, rest)
first_mark None (Some rest) cancelled budget = Some (Fails, rest)
first_mark None None (Some rest) budget = Some (Cancelled, rest)
first_mark None None None budget = budget

unfoldable pub mark_at : List ℕ → Option (Mark × List ℕ)
mark_at bytes =
    first_mark (word_at (codes "proved") bytes) (word_at (codes "fails") bytes) (word_at (codes "unknown cancelled") bytes)
    (budget_at bytes)
