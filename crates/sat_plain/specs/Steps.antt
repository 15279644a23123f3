-- The steps of a search before a conflict.
use Rattle.std.specs.Prelude.{◌≡◌, ℕ, ◌<◌, ◌++◌, List, [], ◌∷◌, length, slice_get, Some}
use Rattle.refute_check.specs.declared.found.Found.{Found}
use Rattle.refute_check.specs.declared.found.Found.TheVariants.{False, Forces, Other}
use Rattle.sat_plain.specs.declared.propagate.Progress.{Progress}
use Rattle.sat_plain.specs.declared.propagate.Progress.TheVariants.{Conflict, Moved, Quiet}
use Rattle.ja_base.specs.Trails.{AreFalse, IsFull}
use Rattle.sat_plain.specs.Trails.{Assigned, IsQuiet, lits_of}

-- the clause of this number is false
pub record IsConflict (clauses : List (List ℕ)) (lits : List ℕ) (n : ℕ) : Type 0 where
  pub clause : List ℕ
  pub is : slice_get clauses n ≡ Some clause
  pub wrong : AreFalse lits clause

-- the clause of number n is false, or the literal that it forces, if it forces one, became true
abbrev pub IsExamined : List (List ℕ) → ℕ → Assigned → Assigned → Found → Type 0
IsExamined clauses n before after False = (after ≡ before)
    × IsConflict clauses (lits_of after.places) n
IsExamined clauses n before after (Forces l) = after.places ≡ before.places
    ++ record { lit = l; reason = Some n } ∷ []
IsExamined clauses n before after Other = after ≡ before

-- a conflict, or some literal became true, or each clause is quiet
abbrev pub IsPassed : List (List ℕ) → Assigned → Assigned → Progress → Type 0
IsPassed clauses before after (Conflict n) = IsConflict clauses (lits_of after.places) n
IsPassed clauses before after Moved = length before.places < length after.places
IsPassed clauses before after Quiet = IsQuiet clauses after.values

-- a conflict, or some literal became true, or each clause is quiet and each variable has a value
abbrev pub IsAdvanced : List (List ℕ) → Assigned → Assigned → Progress → Type 0
IsAdvanced clauses before after (Conflict n) = IsConflict clauses (lits_of after.places) n
IsAdvanced clauses before after Moved = length before.places < length after.places
IsAdvanced clauses before after Quiet = IsQuiet clauses after.values
    × IsFull after.vars after.values
