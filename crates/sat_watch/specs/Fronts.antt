-- How far propagation has come, and what is known of clauses behind it.
use Rattle.std.specs.Prelude.{◌≡◌, ◌≢◌, ℕ, ◌+◌, ◌*◌, ◌≤◌, ◌⊎◌, false, not, List, [], ◌∷◌, length, take, drop, filter, Contains, slice_get, Some}
use Rattle.ja_base.specs.Literals.{negated}
use Rattle.ja_base.specs.Clauses.{has_literal}
use Rattle.sat_watch.specs.Stores.{Stored, IsThere}
use Rattle.sat_watch.specs.Watching.{Watching, ArePaired}
use Rattle.sat_watch.specs.Visits.{IsSafe}
use Rattle.sat_watch.specs.declared.front.Front.{Front}

-- the literals of a clause whose negation is none of these
abbrev pub open_under : List ℕ → List ℕ → List ℕ
open_under lits clause = filter (λ l. not (has_literal lits (negated l))) clause

-- under these literals the clause is not false, and forces none that is not among them
pub record IsStillUnder (lits clause : List ℕ) : Type 0 where
  pub some : open_under lits clause ≢ []
  pub unforced : (l : ℕ) → open_under lits clause ≡ l ∷ [] → Contains lits l

-- some literal of the clause is false by a place from `head` on
pub record IsLate (lits : List ℕ) (head : ℕ) (clause : List ℕ) : Type 0 where
  pub literal : ℕ
  pub has : Contains clause literal
  pub late : Contains (drop head lits) (negated literal)

-- a clause that is not still has a literal that is false by a place from `head` on
abbrev pub IsFine : List ℕ → ℕ → List ℕ → Type 0
IsFine lits head clause = IsStillUnder lits clause ⊎ IsLate lits head clause

-- each clause that is there is safe under the literals before `head`, but for those of these slots
abbrev pub AreSafe : Stored → Watching → List ℕ → List ℕ → ℕ → Type 0
AreSafe store w lits slots head =
    (k : ℕ) (clause : List ℕ) → IsThere store k clause → (Contains slots k → ⊥) → IsSafe w lits (take head lits) k clause

-- under the first d of these literals each clause that is there is safe, but for those that came after the first n of the log
pub record IsMark (store : Stored) (w : Watching) (lits log : List ℕ) (d n : ℕ) : Type 0 where
  pub within : d ≤ length lits
  pub known : n ≤ length log
  pub safe : (k : ℕ) (clause : List ℕ) → IsThere store k clause → (Contains (drop n log) k → ⊥)
      → IsSafe w (take d lits) (take d lits) k clause

-- a mark for each length of the trail; the clauses that came since are in the log, and those from `seen` on are to be looked at
pub record IsFront (vars : ℕ) (store : Stored) (w : Watching) (lits : List ℕ) (front : Front) : Type 0 where
  pub wide : vars + 1 ≤ length front.marks.items
  pub marked : (d n : ℕ) → slice_get front.marks.items d ≡ Some (Some n) → IsMark store w lits front.log.items d n
  pub low : front.dirty ≡ false → front.head ≤ length lits
  pub read : front.dirty ≡ false → front.seen ≤ length front.log.items
  pub safe : front.dirty ≡ false → AreSafe store w lits (drop front.seen front.log.items) front.head

-- all clauses that came were looked at
pub record IsReady (front : Front) : Type 0 where
  pub clean : front.dirty ≡ false
  pub seen : front.seen ≡ length front.log.items

-- lists and front suit the trail and the clauses
pub record IsTended (vars : ℕ) (store : Stored) (lits : List ℕ) (w : Watching) (front : Front) : Type 0 where
  pub wide : 2 * vars ≤ length w.lists
  pub long : length store.clauses ≤ length w.pairs
  pub paired : ArePaired store w
  pub front_is : IsFront vars store w lits front
