-- What comes of clearing all that waits, and of covering the property at the top.
use Rattle.std.specs.Prelude.{◌≡◌, ℕ, ◌+◌, ◌*◌, ◌-◌, ◌^◌, ◌<◌, ◌≤◌, Option, Some, None, [], length}
use Rattle.aig_model.specs.Task.{VerificationTask}
use Rattle.local_stim.specs.Found.{FoundFailure}
use Rattle.ic3_general.specs.declared.aim.Aim.{Aim}
use Rattle.ic3_general.specs.Aims.{IsFailureOn}
use Rattle.ic3_frames.specs.Sums.{potential}
use Rattle.ic3_query.specs.Known.{all_of}
use Rattle.ic3_query.specs.Questions.{IsGoodFrom}
use Rattle.ic3_engine.specs.Searching.{latch_vars}
use Rattle.ic3_engine.specs.Turns.{IsSearching, State}

-- how far the sum of the levels can still rise
abbrev pub room_above : VerificationTask → State → ℕ
room_above t s = 3 ^ length (latch_vars t.design) * s.frames.top - potential (latch_vars t.design) s.frames.kept

-- what is left to do: each rise of the sum makes at most as many cubes wait as there are levels
abbrev pub work_left : VerificationTask → State → ℕ
work_left t s = room_above t s * (s.frames.top + 1) + length s.queue

-- the search went on: the same top, and a sum that did not fall
pub record GoesOn (t : VerificationTask) (a : Aim) (old new : State) : Type 0 where
  pub searching : IsSearching t a new
  pub top : new.frames.top ≡ old.frames.top
  pub rises : potential (latch_vars t.design) old.frames.kept ≤ potential (latch_vars t.design) new.frames.kept

-- a cube that waited is blocked and no more is left to do, or a failure was found
abbrev pub Passes : VerificationTask → Aim → State → State → Option FoundFailure → Type 0
Passes t a old new None = GoesOn t a old new × (work_left t new ≤ work_left t old)
Passes t a old new (Some failure) = GoesOn t a old new × IsFailureOn t a failure

-- nothing waits any more, or a failure was found
abbrev pub Clears : VerificationTask → Aim → State → State → Option FoundFailure → Type 0
Clears t a old new None = GoesOn t a old new × (new.queue ≡ [])
Clears t a old new (Some failure) = GoesOn t a old new × IsFailureOn t a failure

-- nothing waits, and the property is covered at the top; or a failure was found
abbrev pub CoversTop : VerificationTask → Aim → State → State → Option FoundFailure → Type 0
CoversTop t a old new None = GoesOn t a old new × (new.queue ≡ [])
    × IsGoodFrom t (all_of new.known) new.frames new.frames.top a.prop
CoversTop t a old new (Some failure) = GoesOn t a old new × IsFailureOn t a failure

-- nothing waits and the sum rose, or a failure was found
abbrev pub Blocked : VerificationTask → Aim → State → State → Option FoundFailure → Type 0
Blocked t a old new None = GoesOn t a old new × (new.queue ≡ [])
    × (potential (latch_vars t.design) old.frames.kept < potential (latch_vars t.design) new.frames.kept)
Blocked t a old new (Some failure) = GoesOn t a old new × IsFailureOn t a failure
