-- Reading one form after another from the front of bytes.
use Rattle.std.specs.Prelude.{◌≡◌, ℕ, ◌<◌, ◌^◌, ◌==◌, ◌&&◌, ◌||◌, Bool, false, nat_lt, if◌then◌else◌, List, [], ◌∷◌, ◌++◌, Option, Some, None, option_and_then}
use Rattle.ja_text.specs.Numbers.{BeginsWithoutDigit, is_digit, number_at}
use Rattle.ja_text.specs.Lines.{space_at}
use Rattle.ja_text.specs.Repeated.{Chain}
use Rattle.refute_text.specs.RefutationText.{spaced}

-- a space and all the digits of a number
pub record TakesSpaced (bytes : List ℕ) (n : ℕ) (rest : List ℕ) : Type 0 where
  pub small : n < 2 ^ 32
  pub parts : bytes ≡ spaced n ++ rest
  pub ends : BeginsWithoutDigit rest

-- nothing of the form stands at the front
abbrev pub TakesNone : {X : Type 0} → (List ℕ → X → List ℕ → Type 0) → List ℕ → Type 0
TakesNone {X} Takes bytes = (x : X) (rest : List ℕ) → Takes bytes x rest → ⊥

-- all of the form that stand at the front
pub record TakesAll {X : Type 0} (Takes : List ℕ → X → List ℕ → Type 0) (bytes : List ℕ)
    (xs : List X) (rest : List ℕ) : Type 0 where
  pub taken : Chain Takes bytes xs rest
  pub ends : TakesNone Takes rest

-- a zero stands at the front, and a digit behind it
abbrev pub has_leading_zero : List ℕ → Bool
has_leading_zero [] = false
has_leading_zero (b ∷ []) = false
has_leading_zero (b ∷ c ∷ bytes) = b == 48 && is_digit c

-- the number behind the space at the front, if it is written so, and what follows it
unfoldable pub spaced_at : List ℕ → Option (ℕ × List ℕ)
spaced_at bytes = option_and_then (λ digits. option_and_then (λ x. if nat_lt 4294967295 x.0
    || has_leading_zero digits then None else Some x) (number_at digits)) (space_at bytes)
