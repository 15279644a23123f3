-- One pass over all clauses.
use Rattle.std.proofs.Common.{◌≡◌, ℕ, ◌<◌, ◌≤◌, List, [], length, get_or}
use Rattle.ja_base.specs.Trails.{open_lits}
use Rattle.refute_check.specs.Lines.{found_of}
use Rattle.refute_check.specs.declared.found.Found.TheVariants.{Other}
use Rattle.sat_plain.specs.Trails.{Assigned, AreForced, IsGrown}

-- the clauses below `at` were examined, and are quiet where the trail has not grown
pub record IsPassing (clauses : List (List ℕ)) (before now : Assigned) (at : ℕ) : Type 0 where
  pub vars : now.vars ≡ before.vars
  pub grown : IsGrown before.places now.places
  pub forced : AreForced clauses now.places
  pub longer : length before.places ≤ length now.places
  pub quiet : length now.places ≤ length before.places → (k : ℕ) → k < at
      → found_of now.values (open_lits now.values (get_or clauses k [])) ≡ Other
