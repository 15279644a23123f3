-- Numbers in decimal digits: what their text is, and how one is read from the front of bytes.
use Rattle.std.specs.Prelude.{◌≡◌, ℕ, ◌+◌, ◌-◌, ◌*◌, ◌<◌, ◌≤◌, min, Bool, false, ◌&&◌, nat_le, if◌then◌else◌, List, [], ◌∷◌, length, slice_index, Option, Some, None}
use Rattle.std.specs.List.{AllByRecursion}
use Rattle.ja_text.specs.Forms.{BeginsWith}

-- '0' to '9'
abbrev pub IsDigit : ℕ → Type 0
IsDigit b = (48 ≤ b) × (b ≤ 57)

abbrev pub is_digit : ℕ → Bool
is_digit b = nat_le 48 b && nat_le b 57

-- what digits stand for behind those of n
abbrev pub value_after : ℕ → List ℕ → ℕ
value_after n [] = n
value_after n (d ∷ ds) = value_after (10 * n + (d - 48)) ds

-- what digits stand for
abbrev pub value_of : List ℕ → ℕ
value_of ds = value_after 0 ds

-- a value as readers answer it: a greater one than 2^64 - 1 as that
abbrev pub saturated : ℕ → ℕ
saturated n = min n 18446744073709551615

-- the text of a number that is read as n: one or more digits, with leading zeros or without
pub record IsNumber (text : List ℕ) (n : ℕ) : Type 0 where
  pub some : 0 < length text
  pub digits : AllByRecursion IsDigit text
  pub value : n ≡ saturated (value_of text)

-- no zero stands in front of other digits
abbrev pub HasNoLeadingZero : List ℕ → Type 0
HasNoLeadingZero text = slice_index text 0 ≡ 48 → text ≡ 48 ∷ []

-- the one text in which n is written: not saturated, and with no leading zero
pub record IsCanonical (text : List ℕ) (n : ℕ) : Type 0 where
  pub number : IsNumber text n
  pub exact : value_of text ≡ n
  pub leading : HasNoLeadingZero text

-- no digit stands at the front
abbrev pub BeginsWithoutDigit : List ℕ → Type 0
BeginsWithoutDigit [] = Unit {0}
BeginsWithoutDigit (b ∷ bs) = is_digit b ≡ false

-- n was read: the bytes are its text, all the digits that stand there, and the rest
pub record TakesNumber (bytes : List ℕ) (n : ℕ) (rest : List ℕ) : Type 0 where
  pub number : BeginsWith (λ text. IsNumber text n) bytes rest
  pub ends : BeginsWithoutDigit rest

-- reading goes on with the digits at the front, behind those of n
abbrev pub digits_at : ℕ → List ℕ → ℕ × List ℕ
digits_at n [] = (n, [])
digits_at n (b ∷ bs) = if is_digit b then digits_at (saturated (10 * n + (b - 48))) bs
    else (n, b ∷ bs)

-- the number whose digits are all those at the front, and what follows them; a digit must be there
unfoldable pub number_at : List ℕ → Option (ℕ × List ℕ)
number_at [] = None
number_at (b ∷ bs) = if is_digit b then Some (digits_at 0 (b ∷ bs)) else None

-- a number that was read, where nothing is behind it
abbrev pub whole_number : Option (ℕ × List ℕ) → Option ℕ
whole_number None = None
whole_number (Some (n, [])) = Some n
whole_number (Some (n, b ∷ bs)) = None
