-- What a contract sees of a heap.
use Rattle.std.specs.Prelude.{◌≡◌, ℕ, ◌≤◌, Bool, true, List, slice_index}
use Rattle.ja_base.specs.Literals.{bit}

-- by variable: its activity, and whether it is in the heap
pub record Heaped : Type 0 where
  pub activity : List ℕ
  pub inside : List Bool

-- the variable is in the heap, and none there has more activity
pub record IsGreatest (heap : Heaped) (v : ℕ) : Type 0 where
  pub inside : bit heap.inside v ≡ true
  pub greatest : (u : ℕ) → bit heap.inside u ≡ true → slice_index heap.activity u ≤ slice_index heap.activity v
