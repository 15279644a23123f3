-- The order in which a heap keeps its variables: each variable has a place, and those at the lowest places, `len` many, are in
-- the heap. Above each place but the first stands another.
use Rattle.std.specs.Prelude.{◌≡◌, ◌≢◌, ℕ, ◌-◌, ◌/◌, ◌<◌, ◌≤◌, ◌^◌, Bool, List, length, map, nat_lt, slice_index}
use Rattle.sat_heap.specs.declared.order.Order.{Order}

-- the variable of each place and the place of each variable, of n
pub record IsInverse (n : ℕ) (vars places : List ℕ) : Type 0 where
  pub vars_len : length vars ≡ n
  pub places_len : length places ≡ n
  pub at_place : (k : ℕ) → k < n → (slice_index vars k < n) × (slice_index places (slice_index vars k) ≡ k)
  pub of_var : (v : ℕ) → v < n → (slice_index places v < n) × (slice_index vars (slice_index places v) ≡ v)

-- the order has each of the n variables at one place
abbrev pub IsArranged : ℕ → Order → Type 0
IsArranged n order = IsInverse n order.vars.items order.places.items

-- for each variable, whether its place is one of the lowest, `len` many
abbrev pub inside_of : ℕ → List ℕ → List Bool
inside_of len places = map (λ p. nat_lt p len) places

-- the activity of the variable at a place
abbrev pub key : List ℕ → List ℕ → ℕ → ℕ
key activity vars k = slice_index activity (slice_index vars k)

-- the place above
abbrev pub above : ℕ → ℕ
above k = (k - 1) / 2

-- no place has a greater key than the one above it
abbrev pub IsOrdered : ℕ → (ℕ → ℕ) → Type 0
IsOrdered len keys = (k : ℕ) → 0 < k → k < len → keys k ≤ keys (above k)

-- the same but for the key of place i, which may be too great
pub record IsRising (len : ℕ) (keys : ℕ → ℕ) (i : ℕ) : Type 0 where
  pub others : (k : ℕ) → 0 < k → k < len → k ≢ i → keys k ≤ keys (above k)
  pub below : (k : ℕ) → 0 < k → k < len → above k ≡ i → 0 < i → keys k ≤ keys (above i)

-- the same but for the key of place i, which may be too small
pub record IsSinking (len : ℕ) (keys : ℕ → ℕ) (i : ℕ) : Type 0 where
  pub others : (k : ℕ) → 0 < k → k < len → above k ≢ i → keys k ≤ keys (above k)
  pub below : (k : ℕ) → 0 < k → k < len → above k ≡ i → 0 < i → keys k ≤ keys (above i)

-- the two places have each other's variable, and each other place its own
pub record IsExchanged (before after : List ℕ) (i j : ℕ) : Type 0 where
  pub first : slice_index after i ≡ slice_index before j
  pub second : slice_index after j ≡ slice_index before i
  pub others : (k : ℕ) → k ≢ i → k ≢ j → slice_index after k ≡ slice_index before k

-- what a heap keeps: `len` variables are in it, and the first of them has the greatest activity
pub record IsHeap (len : ℕ) (vars places activity : List ℕ) : Type 0 where
  pub inverse : IsInverse (length activity) vars places
  pub within : len ≤ length activity
  pub small : length activity ≤ 2 ^ 31
  pub ordered : IsOrdered len (key activity vars)

-- p is the place above `place`, and has less activity
pub record IsLessAbove (keys : ℕ → ℕ) (place p : ℕ) : Type 0 where
  pub some : 0 < place
  pub is : p ≡ above place
  pub less : keys p < keys place

-- c is a place below `place`, and has more activity, and no less than each other place below
pub record IsMoreBelow (len : ℕ) (keys : ℕ → ℕ) (place c : ℕ) : Type 0 where
  pub within : c < len
  pub lower : place < c
  pub is : above c ≡ place
  pub more : keys place < keys c
  pub most : (k : ℕ) → 0 < k → k < len → above k ≡ place → keys k ≤ keys c
