-- What comes of a fixed level and of a new top.
use Rattle.std.specs.Prelude.{◌≡◌, ℕ, ◌+◌, ◌^◌, ◌≤◌, Bool, true, false, [], length}
use Rattle.ja_base.specs.Invariants.{Covers}
use Rattle.aig_model.specs.Netlist.{circuit}
use Rattle.aig_model.specs.Task.{VerificationTask, problem}
use Rattle.local_stim.specs.Found.{FoundFailure}
use Rattle.std.specs.Prelude.{Option, Some, None}
use Rattle.ic3_general.specs.declared.aim.Aim.{Aim}
use Rattle.ic3_general.specs.Aims.{IsFailureOn}
use Rattle.ic3_frames.specs.Sums.{potential}
use Rattle.ic3_query.specs.Known.{all_of}
use Rattle.ic3_engine.specs.declared.outcome.Ascent.{Ascent}
use Rattle.ic3_engine.specs.declared.outcome.Ascent.TheVariants.{Failed, Covered, Higher}
use Rattle.ic3_engine.specs.Searching.{IsSearch, latch_vars}
use Rattle.ic3_engine.specs.Turns.{State}

-- An engine between two calls: its levels are not more than there are clauses over the latches, but for two.
pub record IsEngine (t : VerificationTask) (s : State) : Type 0 where
  pub search : IsSearch t (all_of s.known) s.frames s.count s.added
  pub task : problem s.known.task ≡ problem t
  pub high : s.frames.top ≤ 3 ^ length (latch_vars t.design) + 2

-- the sum did not fall, nothing waits, and either what is known covers the property, or the top is one higher
pub record Climbs (t : VerificationTask) (p : ℕ) (old new : State) (covered : Bool) : Type 0 where
  pub engine : IsEngine t new
  pub empty : new.queue ≡ []
  pub rises : potential (latch_vars t.design) old.frames.kept ≤ potential (latch_vars t.design) new.frames.kept
  pub covers : covered ≡ true → Covers (circuit t.design) (all_of new.known) p
  pub higher : covered ≡ false → new.frames.top ≡ old.frames.top + 1

-- what is known covers the property, or a failure was found
abbrev pub Ends : VerificationTask → Aim → State → State → Option FoundFailure → Type 0
Ends t a old new None = IsEngine t new × Covers (circuit t.design) (all_of new.known) a.prop
Ends t a old new (Some failure) = IsEngine t new × IsFailureOn t a failure

-- a failure was found, or what is known covers the property, or the top is one higher than it was
abbrev pub IsAscent : VerificationTask → Aim → ℕ → State → Ascent → Type 0
IsAscent t a top new (Failed failure) = IsEngine t new × IsFailureOn t a failure
IsAscent t a top new Covered = IsEngine t new × Covers (circuit t.design) (all_of new.known) a.prop
IsAscent t a top new Higher = IsEngine t new × (new.frames.top ≡ top + 1)
