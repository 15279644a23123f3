-- What a search is between two questions, and what comes of a turn of a descent and of the whole descent.
use Rattle.std.specs.Prelude.{◌≡◌, ℕ, ◌+◌, ◌<◌, ◌≤◌, false, Option, Some, None, List, length}
use Rattle.aig_model.specs.Task.{VerificationTask, problem}
use Rattle.local_stim.specs.Found.{FoundFailure}
use Rattle.ic3_general.specs.declared.aim.Aim.{Aim}
use Rattle.ic3_general.specs.Aims.{IsFailureOn}
use Rattle.ic3_frames.specs.Levels.{Levels, is_blocked}
use Rattle.ic3_frames.specs.Sums.{potential}
use Rattle.ic3_oblig.specs.declared.obligation.Obligation.{Obligation}
use Rattle.ic3_query.specs.Known.{KnownList, all_of}
use Rattle.ic3_engine.specs.Searching.{IsSearch, latch_vars}
use Rattle.ic3_engine.specs.Waiting.{AreWaiting, IsWaiting}

-- what is known, the levels, what waits, and the variables and clauses of the solver
pub record State : Type 0 where
  pub known : KnownList
  pub frames : Levels
  pub queue : List Obligation
  pub count : ℕ
  pub added : List (List ℕ)

abbrev pub state : KnownList → Levels → List Obligation → ℕ → List (List ℕ) → State
state known frames queue count added =
    record { known = known; frames = frames; queue = queue; count = count; added = added }

-- a search for the property is under way
pub record IsSearching (t : VerificationTask) (a : Aim) (s : State) : Type 0 where
  pub search : IsSearch t (all_of s.known) s.frames s.count s.added
  pub task : problem s.known.task ≡ problem t
  pub waiting : AreWaiting t a s.frames.top s.queue

-- a cube was blocked: the sum rose, and at most so many more wait
pub record Blocks (t : VerificationTask) (a : Aim) (longer : ℕ) (old new : State) : Type 0 where
  pub searching : IsSearching t a new
  pub top : new.frames.top ≡ old.frames.top
  pub rises : potential (latch_vars t.design) old.frames.kept < potential (latch_vars t.design) new.frames.kept
  pub queue : length new.queue ≤ length old.queue + longer

-- a failure was found, and the search can go on
pub record Fails (t : VerificationTask) (a : Aim) (longer : ℕ) (old new : State) (failure : FoundFailure) : Type 0 where
  pub searching : IsSearching t a new
  pub frames : new.frames ≡ old.frames
  pub queue : length new.queue ≤ length old.queue + longer
  pub found : IsFailureOn t a failure

-- the next cube is one level lower, and is not blocked there
pub record Lowers (t : VerificationTask) (a : Aim) (level : ℕ) (old new : State) (next : Obligation) : Type 0 where
  pub searching : IsSearching t a new
  pub frames : new.frames ≡ old.frames
  pub queue : length new.queue ≡ length old.queue + 1
  pub waits : IsWaiting t a new.frames.top next
  pub free : is_blocked new.frames.kept next.level next.clause ≡ false
  pub lower : next.level + 1 ≡ level

-- a descent blocked its cube, or found a failure
abbrev pub Descends : VerificationTask → Aim → ℕ → State → State → Option FoundFailure → Type 0
Descends t a longer old new None = Blocks t a longer old new
Descends t a longer old new (Some failure) = Fails t a longer old new failure
