-- What settling a judgement changes.
use Rattle.std.proofs.Common.{◌≡◌, ℕ, zero, suc, ◌<◌, ◌⊎◌, inl, inr, ⊎_elim, Bool, true, false, Option, Some, None, List, [], ◌∷◌, length, refl, sym, ap, subst, ◌∙◌, arith}
use Rattle.std.specs.Prelude.{slice_set, is_some, IsSome, IsTrue}
use Rattle.std.proofs.lemmas.Bool.{cases_lt, false≢true}
use Rattle.std.proofs.lemmas.List.{get_or_past, get_or-set_other, length-set}
use Rattle.aig_model.specs.Task.{VerificationTask, problem}
use Rattle.inv_cert.specs.Closed.{ClosedList}
use Rattle.local_stim.specs.Found.{FoundFailure}
use Rattle.store_core.specs.declared.answers.Judged.{Judged}
use Rattle.store_core.specs.declared.answers.Judged.TheVariants.{Proved, Fails, Spent}
use Rattle.store_core.specs.declared.journal.Event.TheVariants.{Settle}
use Rattle.store_core.specs.declared.mark.Mark.{Mark}
use Rattle.store_core.specs.declared.mark.Mark.TheVariants as mark
use Rattle.store_core.specs.Steps.{State, mark_of, settled, settled_clauses}
use Rattle.store_core.specs.Boards.{Did}
use Rattle.store_core.specs.Judged.{settle_event}
use Rattle.store_core.proofs.NextBoards.{mark_set, mark_stays}
use Rattle.worker_pool.specs.Judgements.{Settles, judged_property}
use Rattle.job_plan.specs.Plans.{IsPlan}
use Rattle.store_core.specs.declared.journal.Opening.{Opening}
use Rattle.sign_task.specs.Openings.{opening_of}
use Rattle.sign_task.specs.declared.terms.Terms.{Terms}
use Rattle.sign_task.specs.Underway.{SignBoard, IsUnderway, IsMarked, Keeps}

pub judged_within : (t : VerificationTask) (p : ℕ) (limit : Option ℕ) (j : Judged ClosedList FoundFailure) → Settles t p limit j
    → p < length t.design.bads → judged_property j p < length t.design.bads
judged_within t p limit (Proved list) h within = within
judged_within t p limit (Fails f) h within = h.1
judged_within t p limit (Spent n) h within = within

-- what a settled property changes of the state
pub record Settled (p : ℕ) (s next : State) : Type 0 where
  pub place : next.place ≡ s.place
  pub cancel : next.cancel ≡ s.cancel
  pub width : length next.marks ≡ length s.marks
  pub others : (q : ℕ) → (q ≡ p → ⊥) → mark_of next.marks q ≡ mark_of s.marks q
  pub stay : (q : ℕ) → IsSome (mark_of s.marks q) → IsSome (mark_of next.marks q)
  pub marked : IsSome (mark_of next.marks p)

some_is : {X : Type 0} (o : Option X) → IsSome o → (x : X) × (o ≡ Some x)
some_is (Some x) h = (x, refl)
some_is None h = absurd (false≢true h)

settles : (p : ℕ) (s : State) (m : Mark) (added : List (List ℕ)) (had : Option Mark) → had ≡ mark_of s.marks p
    → p < length s.marks → Settled p s (settled had s p m added)
settles p s m added (Some had) is within = record {
  place = refl;
  cancel = refl;
  width = refl;
  others = λ q other. refl;
  stay = λ q h. h;
  marked = ap is_some (sym is);
}
settles p s m added None is within = record {
  place = refl;
  cancel = refl;
  width = length-set s.marks p (Some m);
  others = λ q other. get_or-set_other s.marks p q (Some m) None other;
  stay = λ q h. let was = some_is (mark_of s.marks q) h in ap is_some (mark_stays s.marks p q m was.0 (sym is) was.1);
  marked = ap is_some (mark_set s.marks p m within);
}

settle_changes : (p : ℕ) (before after : SignBoard) (m : Mark) (added : List (List ℕ)) → p < length before.state.marks
    → Did (λ (l : ClosedList). problem l.task) before after 0 (Settle p m added) → Settled p before.state after.state
settle_changes p before after m added within did = subst (Settled p before.state) (sym did.state_is)
    (settles p before.state m (settled_clauses (mark_of before.state.marks p) m before.state.clauses added)
    (mark_of before.state.marks p) refl within)

pub judged_settles : (p : ℕ) (before after : SignBoard) (j : Judged ClosedList FoundFailure) → p < length before.state.marks
    → Did (λ (l : ClosedList). problem l.task) before after 0 (settle_event (λ (l : ClosedList). l.clauses) p j)
    → Settled p before.state after.state
judged_settles p before after (Proved list) within did = settle_changes p before after mark.Proved list.clauses within did
judged_settles p before after (Fails f) within did = settle_changes p before after mark.Fails [] within did
judged_settles p before after (Spent n) within did = settle_changes p before after (mark.Budget n) [] within did

pub settling_keeps : (p : ℕ) (before after : SignBoard) (j : Judged ClosedList FoundFailure) → p < length before.state.marks
    → Did (λ (l : ClosedList). problem l.task) before after 0 (settle_event (λ (l : ClosedList). l.clauses) p j)
    → Keeps before after
settling_keeps p before after j within did =
    let s = judged_settles p before after j within did in
    record {
      opening = did.opening_is;
      task = did.task_is;
      place = s.place;
      width = s.width;
      stay = s.stay;
      stopped = λ h. subst (λ (c : Option ℕ). IsTrue (is_some c)) (sym s.cancel) h;
    }

pub settling_marks : (p : ℕ) (before after : SignBoard) (j : Judged ClosedList FoundFailure) → p < length before.state.marks
    → Did (λ (l : ClosedList). problem l.task) before after 0 (settle_event (λ (l : ClosedList). l.clauses) p j)
    → IsMarked after p
settling_marks p before after j within did = (judged_settles p before after j within did).marked

pub still_underway : (t : VerificationTask) (terms : Terms) (before after : SignBoard) → IsUnderway t terms before
    → Keeps before after → IsUnderway t terms after
still_underway t terms before after h keeps = record {
  plan = subst (λ (o : Opening). IsPlan (problem t) o.plan) (sym keeps.opening) h.plan;
  opening = subst (λ (o : Opening). o ≡ opening_of t.expected o.plan terms) (sym keeps.opening) h.opening;
  task = keeps.task ∙ h.task;
  width = keeps.width ∙ h.width;
}

pub keeps_more : (a b c : SignBoard) → Keeps a b → Keeps b c → Keeps a c
keeps_more a b c first second = record {
  opening = second.opening ∙ first.opening;
  task = second.task ∙ first.task;
  place = second.place ∙ first.place;
  width = second.width ∙ first.width;
  stay = λ q h. second.stay q (first.stay q h);
  stopped = λ h. second.stopped (first.stopped h);
}

pub keeps_itself : (a : SignBoard) → Keeps a a
keeps_itself a = record {
  opening = refl;
  task = refl;
  place = refl;
  width = refl;
  stay = λ q h. h;
  stopped = λ h. h;
}
