-- What a judgement settles, and that a failure of another property is seen once.
use Rattle.std.proofs.Common.{◌≡◌, ℕ, zero, suc, ◌<◌, ◌+◌, ◌-◌, ◌⊎◌, inl, inr, ⊎_elim, Bool, true, false, Option, Some, List, [], ◌∷◌, length, refl, sym, ap, subst, ◌∙◌, arith}
use Rattle.std.specs.Prelude.{slice_set}
use Rattle.std.proofs.lemmas.Bool.{cases_lt, false≢true}
use Rattle.std.proofs.lemmas.List.{get_or_past}
use Rattle.ja_base.specs.Circuit.{Problem}
use Rattle.ja_base.specs.Literals.{bit}
use Rattle.ja_base.specs.Invariants.{Covers}
use Rattle.aig_model.specs.Netlist.{circuit}
use Rattle.aig_model.specs.Task.{VerificationTask, problem}
use Rattle.inv_cert.specs.Closed.{ClosedList}
use Rattle.local_stim.specs.Found.{FoundFailure}
use Rattle.store_core.specs.declared.answers.Judged.{Judged}
use Rattle.store_core.specs.declared.answers.Judged.TheVariants.{Proved, Fails, Spent}
use Rattle.store_core.specs.Judged.{IfFails, IfProved, IfSpent}
use Rattle.ic3_engine.specs.declared.found.Found.{Found}
use Rattle.ic3_engine.specs.declared.found.Found.TheVariants as found
use Rattle.ic3_engine.specs.Found.{IsFailureSeen, IsFound, IsUnseen, noted}
use Rattle.worker_pool.specs.Judgements.{Settles, judged_property, judgement_of, unset}

assumed_within : (t : VerificationTask) (p : ℕ) → length t.expected ≡ length t.design.bads → bit t.expected p ≡ true
    → p < length t.design.bads
assumed_within t p long held = ⊎_elim (λ lt. omega (arith, lt, long))
    (λ past. absurd (false≢true (sym (get_or_past t.expected p false past) ∙ held))) (cases_lt p (length t.expected))

-- a failure that was not seen before may be settled
pub failure_settles : (t : VerificationTask) (p : ℕ) (failed : List Bool) (f : FoundFailure) → IsFailureSeen t p failed f
    → length t.expected ≡ length t.design.bads → p < length t.design.bads → (f.task ≡ t) × (f.prop < length t.design.bads)
failure_settles t p failed f h long within = (
  h.task,
  ⊎_elim (λ (e : f.prop ≡ p). omega (arith, e, within))
      (λ (u : IsUnseen t failed f.prop). assumed_within t f.prop long u.assumed) h.prop,
)

-- a bit more is set
unset_falls : (bs : List Bool) (at : ℕ) → at < length bs → bit bs at ≡ false → unset (slice_set bs at true) < unset bs
unset_falls [] at within free = absurd (omega (arith, within))
unset_falls (true ∷ bs) zero within free = absurd (false≢true (sym free))
unset_falls (false ∷ bs) zero within free = omega arith
unset_falls (true ∷ bs) (suc at) within free = unset_falls bs at (omega (arith, within)) free
unset_falls (false ∷ bs) (suc at) within free = let h = unset_falls bs at (omega (arith, within)) free in omega (arith, h)

pub failure_falls : (t : VerificationTask) (p : ℕ) (failed now : List Bool) (f : FoundFailure) → IsFailureSeen t p failed f
    → now ≡ slice_set failed f.prop true → length failed ≡ length t.design.bads → length t.expected ≡ length t.design.bads
    → (f.prop ≡ p) ⊎ (unset now < unset failed)
failure_falls t p failed now f h seen wide long = ⊎_elim (λ (e : f.prop ≡ p). inl e)
    (λ (u : IsUnseen t failed f.prop).
    inr (subst (λ (bs : List Bool). unset bs < unset failed) (sym seen)
    (unset_falls failed f.prop (omega (arith, wide, assumed_within t f.prop long u.assumed)) u.unseen)))
    h.prop

-- what was found may be settled
pub found_settles : (t : VerificationTask) (p : ℕ) (limit : Option ℕ) (failed : List Bool) (x : Found) → IsFound t p failed x
    → length t.expected ≡ length t.design.bads → p < length t.design.bads → Settles t p limit (judgement_of x)
found_settles t p limit failed (found.Proved proved) h long within = record {
  task = h.task;
  covers = subst (λ (q : ℕ). Covers (circuit proved.list.task.design) proved.list.clauses q) h.prop proved.covered;
}
found_settles t p limit failed (found.Fails f) h long within = failure_settles t p failed f h long within

-- it is of the property, or a bit more is set
pub found_falls : (t : VerificationTask) (p : ℕ) (failed now : List Bool) (x : Found) → IsFound t p failed x → now ≡ noted failed x
    → length failed ≡ length t.design.bads → length t.expected ≡ length t.design.bads
    → (judged_property (judgement_of x) p ≡ p) ⊎ (unset now < unset failed)
found_falls t p failed now (found.Proved proved) h is wide long = inl refl
found_falls t p failed now (found.Fails f) h is wide long = failure_falls t p failed now f h is wide long

-- how often the top may still rise: once more where the levels are made anew
abbrev pub left : ℕ → ℕ → Bool → ℕ
left bound top true = bound - top
left bound top false = bound + 1

pub left_falls : (bound top now : ℕ) (live : Bool) → (live ≡ true → now ≡ top + 1) → now < bound → left bound now true < left bound top live
left_falls bound top now true rises low = let is = rises refl in omega (arith, is, low)
left_falls bound top now false rises low = omega (arith, low)

pub failure_within : (t : VerificationTask) (p : ℕ) (limit : Option ℕ) (j : Judged ClosedList FoundFailure)
    → Settles t p limit j → IfFails j (λ f. f.prop < length t.design.bads)
failure_within t p limit (Proved list) h = tt
failure_within t p limit (Fails f) h = h.1
failure_within t p limit (Spent n) h = tt

pub settled_proof : (t : VerificationTask) (p : ℕ) (limit : Option ℕ) (task : Problem) (j : Judged ClosedList FoundFailure)
    → Settles t p limit j → problem t ≡ task
    → IfProved j (λ list. (problem list.task ≡ task) × Covers (circuit list.task.design) list.clauses (judged_property j p))
settled_proof t p limit task (Proved list) h is = (h.task ∙ is, h.covers)
settled_proof t p limit task (Fails f) h is = tt
settled_proof t p limit task (Spent n) h is = tt

pub settled_failure : (t : VerificationTask) (p : ℕ) (limit : Option ℕ) (task : Problem) (j : Judged ClosedList FoundFailure)
    → Settles t p limit j → problem t ≡ task
    → IfFails j (λ f. (problem f.task ≡ task) × (f.prop ≡ judged_property j p))
settled_failure t p limit task (Proved list) h is = tt
settled_failure t p limit task (Fails f) h is = (ap problem h.0 ∙ is, refl)
settled_failure t p limit task (Spent n) h is = tt

pub settled_budget : (t : VerificationTask) (p : ℕ) (limit : Option ℕ) (j : Judged ClosedList FoundFailure)
    → Settles t p limit j → IfSpent j (λ n. limit ≡ Some n)
settled_budget t p limit (Proved list) h = tt
settled_budget t p limit (Fails f) h = tt
settled_budget t p limit (Spent n) h = h
