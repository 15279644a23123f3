-- What a search knows of a store of clauses that others fill too.
use Rattle.std.specs.Prelude.{◌≡◌, Option, Some, None, List, ℕ, All, Contains}
use Rattle.ja_base.specs.Circuit.{Problem}
use Rattle.aig_model.specs.Task.{problem}
use Rattle.inv_cert.specs.Closed.{ClosedList}

-- what the store had when it was last looked at, and what was seen of it since the run began
pub record Seen : Type 0 where
  pub store : List (List ℕ)
  pub known : List (List ℕ)

-- all that the store has was seen
pub record HasSeenAll (before now : Seen) : Type 0 where
  pub known : now.known ≡ before.known
  pub seen : All (Contains now.known) now.store

-- the clauses of the store, not all of which were seen before; from now on they are
pub record AreNew (t : Problem) (before now : Seen) (list : ClosedList) : Type 0 where
  pub task : problem list.task ≡ t
  pub list_is : list.clauses ≡ now.store
  pub unseen : All (Contains before.known) now.store → ⊥
  pub seen : All (Contains now.known) now.store
  pub kept : All (Contains now.known) before.known

-- nothing where all that the store has was seen, and else all that it has
abbrev pub IsNews : Problem → Seen → Seen → Option ClosedList → Type 0
IsNews t before now None = HasSeenAll before now
IsNews t before now (Some list) = AreNew t before now list
