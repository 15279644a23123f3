-- What each verdict of a replay means.
use Rattle.std.specs.Prelude.{ℕ}
use Rattle.ja_base.specs.Circuit.{Problem}
use Rattle.ja_base.specs.Runs.{Trace, IsLocalFailure}
use Rattle.ja_base.specs.Replay.{IsNotInitial, LeavesConstraints, EndsGood, BreaksEarlier}
use Rattle.aig_model.specs.Netlist.{IsSound}
use Rattle.aig_model.specs.Task.{VerificationTask, problem}
use Rattle.local_stim.specs.StimulusText.{Suits}
use Rattle.local_stim.specs.declared.verdict.Confirm.{Confirm}
use Rattle.local_stim.specs.declared.verdict.Confirm.TheVariants.{Local, NotInitial, Constraint, NotBad, Assumed}

-- the verdict on a stimulus for a property
abbrev pub IsVerdict : Problem → ℕ → Trace → Confirm → Type 0
IsVerdict t p m Local = IsLocalFailure t p m
IsVerdict t p m (NotInitial latch) = IsNotInitial t m latch
IsVerdict t p m (Constraint step) = LeavesConstraints t m step
IsVerdict t p m NotBad = EndsGood t p m
IsVerdict t p m (Assumed step prop) = BreaksEarlier t p m step prop

-- a stimulus that suits a sound design has a verdict
abbrev pub HasVerdict : Type 0
HasVerdict = (t : VerificationTask) (p : ℕ) (m : Trace) → IsSound t.design → Suits t.design p m
    → (verdict : Confirm) × IsVerdict (problem t) p m verdict
