-- What a contract sees of a database: a trail over clauses in slots, and the slot of each clause by its number.
use Rattle.std.specs.Prelude.{◌≡◌, ℕ, ◌≤◌, ◌++◌, true, List, length, take, All, Contains, slice_get, Some, is_none, false}
use Rattle.ja_base.specs.Literals.{bit}
use Rattle.refute_check.specs.Checked.{clauses_at}
use Rattle.sat_plain.specs.declared.place.Place.{Place}
use Rattle.sat_watch.specs.declared.tag.Tag.{Tag}
use Rattle.sat_watch.specs.Stores.{Watched, Stored, IsThere}

-- the trail and the clauses, and the slots by number
pub record Filed : Type 0 where
  pub watched : Watched
  pub slots : List ℕ

-- the clauses by number
abbrev pub list_of : Filed → List (List ℕ)
list_of filed = clauses_at filed.watched.store.clauses filed.slots

-- the places of the trail
abbrev pub places_of : Filed → List Place
places_of filed = filed.watched.trail.places

-- a clause is there in slot k, and carries the number m
pub record IsAt (store : Stored) (k m : ℕ) : Type 0 where
  pub clause : List ℕ
  pub there : IsThere store k clause
  pub tag : Tag
  pub tagged : slice_get store.tags k ≡ Some tag
  pub number : tag.number ≡ m

-- each number has a slot with a clause that carries it, and each clause that is there has a number
pub record IsNumbered (store : Stored) (slots : List ℕ) : Type 0 where
  pub live_len : length store.live ≡ length store.clauses
  pub tags_len : length store.tags ≡ length store.clauses
  pub at : (m k : ℕ) → slice_get slots m ≡ Some k → IsAt store k m
  pub numbered : (k : ℕ) → bit store.live k ≡ true → (m : ℕ) × (slice_get slots m ≡ Some k)

-- each place that has a reason is forced by one of the clauses with a number below n
abbrev pub IsRooted : ℕ → Filed → Type 0
IsRooted n filed = (p k : ℕ) (place : Place) → slice_get (places_of filed) p ≡ Some place → place.reason ≡ Some k
    → Contains (take n filed.slots) k

-- none of these places was decided
abbrev pub AreForcedAll : List Place → Type 0
AreForcedAll places = All (λ place. is_none place.reason ≡ false) places

-- the lowest places stay where none of them was decided, and clauses came with the next numbers
pub record IsKept (before after : Filed) : Type 0 where
  pub vars : after.watched.trail.vars ≡ before.watched.trail.vars
  pub root : (n : ℕ) → n ≤ length (places_of before) → AreForcedAll (take n (places_of before))
      → take n (places_of after) ≡ take n (places_of before)
  pub more_slots : List ℕ
  pub slots : after.slots ≡ before.slots ++ more_slots
  pub more : List (List ℕ)
  pub list : list_of after ≡ list_of before ++ more
