-- What an engine answers, as a judgement.
use Rattle.std.specs.Prelude.{◌≡◌, ℕ, ◌+◌, ◌<◌, Bool, Option, Some, List, [], ◌∷◌, length, if◌then◌else◌}
use Rattle.ja_base.specs.Invariants.{Covers}
use Rattle.aig_model.specs.Netlist.{circuit}
use Rattle.aig_model.specs.Task.{VerificationTask, problem}
use Rattle.inv_cert.specs.Closed.{ClosedList}
use Rattle.local_stim.specs.Found.{FoundFailure}
use Rattle.store_core.specs.declared.answers.Judged.{Judged}
use Rattle.store_core.specs.declared.answers.Judged.TheVariants.{Proved, Fails, Spent}
use Rattle.ic3_engine.specs.declared.found.Found.{Found}
use Rattle.ic3_engine.specs.declared.found.Found.TheVariants as found

-- a closed list of the task that covers the property
pub record IsProof (t : VerificationTask) (p : ℕ) (list : ClosedList) : Type 0 where
  pub task : problem list.task ≡ problem t
  pub covers : Covers (circuit list.task.design) list.clauses p

-- What may be settled where this property was asked for: a proof of it, a failure of some property, or the limit that was spent.
abbrev pub Settles : VerificationTask → ℕ → Option ℕ → Judged ClosedList FoundFailure → Type 0
Settles t p limit (Proved list) = IsProof t p list
Settles t p limit (Fails failure) = (failure.task ≡ t) × (failure.prop < length t.design.bads)
Settles t p limit (Spent units) = limit ≡ Some units

-- the property that a judgement is of, where this one was asked for
abbrev pub judged_property : Judged ClosedList FoundFailure → ℕ → ℕ
judged_property (Proved list) p = p
judged_property (Fails failure) p = failure.prop
judged_property (Spent units) p = p

-- what was found, as a judgement
abbrev pub judgement_of : Found → Judged ClosedList FoundFailure
judgement_of (found.Proved proved) = Proved proved.list
judgement_of (found.Fails failure) = Fails failure

-- how many bits are 0
abbrev pub unset : List Bool → ℕ
unset [] = 0
unset (b ∷ bs) = if b then unset bs else unset bs + 1
