-- What propagation leaves.
use Rattle.std.specs.Prelude.{◌≡◌, ◌≢◌, ℕ, ◌<◌, ◌∷◌, [], ◌++◌, Bool, true, false, List, All, length, is_none}
use Rattle.ja_base.specs.Literals.{bit}
use Rattle.ja_base.specs.Trails.{AreFalse, open_lits}
use Rattle.refute_check.specs.declared.found.Found.{Found}
use Rattle.refute_check.specs.declared.found.Found.TheVariants.{False, Forces, Other}
use Rattle.sat_plain.specs.Trails.{Assigned, lits_of}
use Rattle.sat_plain.specs.declared.place.Place.{Place}
use Rattle.sat_watch.specs.declared.step.Step.{Step}
use Rattle.sat_watch.specs.declared.step.Step.TheVariants.{Quiet, Conflict}
use Rattle.sat_watch.specs.Stores.{Watched, IsThere}

-- the clause is not false, and forces no literal that has no value
pub record IsStill (values : List Bool) (clause : List ℕ) : Type 0 where
  pub some : open_lits values clause ≢ []
  pub unforced : (l : ℕ) → open_lits values clause ≡ l ∷ [] → bit values l ≡ true

-- no clause that is there is false, or forces a literal that has no value
abbrev pub IsQuiet : Watched → Type 0
IsQuiet watched = (k : ℕ) (clause : List ℕ) → IsThere watched.store k clause → IsStill watched.trail.values clause

-- the clause of this slot is there, and each literal of it is false
pub record IsConflict (watched : Watched) (n : ℕ) : Type 0 where
  pub clause : List ℕ
  pub there : IsThere watched.store n clause
  pub wrong : AreFalse (lits_of watched.trail.places) clause

-- propagation came to its end, or to a clause that is false
abbrev pub IsStep : Watched → Step → Type 0
IsStep watched Quiet = IsQuiet watched
IsStep watched (Conflict n) = IsConflict watched n

-- forced places came after these
pub record IsForcedOn (before after : List Place) : Type 0 where
  pub more : List Place
  pub is : after ≡ before ++ more
  pub forced : All (λ place. is_none place.reason ≡ false) more

-- the clause of slot n is false, or forced a literal, or there was nothing to do
abbrev pub IsVisited : Assigned → Watched → ℕ → Found → Type 0
IsVisited before after n False = IsConflict after n
IsVisited before after n (Forces l) = length before.places < length after.trail.places
IsVisited before after n Other = after.trail ≡ before
