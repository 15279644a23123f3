-- What waits to be blocked.
use Rattle.std.specs.Prelude.{◌≡◌, ℕ, ◌≤◌, true, false, List, All}
use Rattle.aig_model.specs.Netlist.{circuit}
use Rattle.aig_model.specs.Task.{VerificationTask}
use Rattle.ja_project.specs.Latches.{is_foreign}
use Rattle.ja_project.specs.Start.{starts}
use Rattle.ic3_oblig.specs.declared.obligation.Obligation.{Obligation}
use Rattle.ic3_general.specs.declared.aim.Aim.{Aim}
use Rattle.ic3_general.specs.Aims.{LeadsOn}

-- The clause excludes a cube all of whose rows lead to where the search aims; no initial row is in it. It is to be blocked at a
-- level from 1 to the top.
pub record IsWaiting (t : VerificationTask) (a : Aim) (top : ℕ) (o : Obligation) : Type 0 where
  pub low : 1 ≤ o.level
  pub high : o.level ≤ top
  pub own : is_foreign (circuit t.design) o.clause ≡ false
  pub begins : starts (circuit t.design) o.clause ≡ true
  pub leads : LeadsOn t a o.clause o.chain

-- each of them waits
abbrev pub AreWaiting : VerificationTask → Aim → ℕ → List Obligation → Type 0
AreWaiting t a top waiting = All (IsWaiting t a top) waiting
