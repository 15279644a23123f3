-- Which literals watch a clause, and which clauses a literal watches.
use Rattle.std.specs.Prelude.{◌≡◌, ◌≢◌, ℕ, ◌+◌, ◌≤◌, List, [], length, drop, Contains, slice_get, slice_index_or, Some}
use Rattle.ja_base.specs.Literals.{negated}
use Rattle.sat_watch.specs.Stores.{Stored, IsThere}
use Rattle.sat_watch.specs.declared.pair.Pair.{Pair}

-- by literal the slots of the clauses that it watches, and by slot the two literals that watch its clause
pub record Watching : Type 0 where
  pub lists : List (List ℕ)
  pub pairs : List Pair

-- the slots of the clauses that a literal watches
abbrev pub slots_at : Watching → ℕ → List ℕ
slots_at w m = slice_index_or w.lists m []

-- all is as it was but for what watches the clause of this slot
pub record IsKeptBut (slot : ℕ) (before after : Watching) : Type 0 where
  pub width : length after.lists ≡ length before.lists
  pub long : length before.pairs ≤ length after.pairs
  pub lists : (m k : ℕ) → k ≢ slot → Contains (slots_at before m) k → Contains (slots_at after m) k
  pub pairs : (k : ℕ) (pair : Pair) → k ≢ slot → slice_get before.pairs k ≡ Some pair → slice_get after.pairs k ≡ Some pair

-- two literals watch the clause of this slot, l no longer, in whose list it stood at this place
pub record IsPassed (before : Watching) (l at slot other to : ℕ) (after : Watching) : Type 0 where
  pub but : IsKeptBut slot before after
  pub pair : slice_get after.pairs slot ≡ Some (record { one = other; two = to })
  pub stays : (m : ℕ) → m ≢ l → Contains (slots_at before m) slot → Contains (slots_at after m) slot
  pub has : Contains (slots_at after to) slot
  pub rest : (k : ℕ) → k ≢ slot → Contains (drop at (slots_at before l)) k → Contains (drop at (slots_at after l)) k
  pub fewer : length (slots_at after l) + 1 ≡ length (slots_at before l)

-- two literals of the clause of this slot watch it
pub record IsPaired (w : Watching) (slot : ℕ) (clause : List ℕ) : Type 0 where
  pub pair : Pair
  pub is : slice_get w.pairs slot ≡ Some pair
  pub one : Contains clause pair.one
  pub two : Contains clause pair.two
  pub apart : pair.one ≢ pair.two
  pub in_one : Contains (slots_at w pair.one) slot
  pub in_two : Contains (slots_at w pair.two) slot

-- and neither of them is false under these literals, which l may be
pub record IsWatchedBut (w : Watching) (l : ℕ) (known : List ℕ) (slot : ℕ) (clause : List ℕ) : Type 0 where
  pub paired : IsPaired w slot clause
  pub one_open : paired.pair.one ≢ l → Contains known (negated paired.pair.one) → ⊥
  pub two_open : paired.pair.two ≢ l → Contains known (negated paired.pair.two) → ⊥

-- two literals of the clause watch it that are not false under these
pub record IsWatched (w : Watching) (known : List ℕ) (slot : ℕ) (clause : List ℕ) : Type 0 where
  pub paired : IsPaired w slot clause
  pub one_open : Contains known (negated paired.pair.one) → ⊥
  pub two_open : Contains known (negated paired.pair.two) → ⊥

-- the second of the two literals that watch the clause of this slot where l is the first, else the first
pub record IsOther (w : Watching) (slot l other : ℕ) : Type 0 where
  pub pair : Pair
  pub is : slice_get w.pairs slot ≡ Some pair
  pub two : pair.one ≡ l → other ≡ pair.two
  pub one : pair.one ≢ l → other ≡ pair.one

-- each clause of two literals or more is watched
abbrev pub ArePaired : Stored → Watching → Type 0
ArePaired store w = (k : ℕ) (clause : List ℕ) → IsThere store k clause → 2 ≤ length clause → IsPaired w k clause

-- what was watched by literals that are not false under the first of these still is
pub record Keeps (store : Stored) (lits : List ℕ) (before after : Watching) : Type 0 where
  pub width : length after.lists ≡ length before.lists
  pub long : length before.pairs ≤ length after.pairs
  pub watched : (known : List ℕ) (k : ℕ) (clause : List ℕ) → ((m : ℕ) → Contains known m → Contains lits m)
      → IsThere store k clause → IsWatched before known k clause → IsWatched after known k clause
