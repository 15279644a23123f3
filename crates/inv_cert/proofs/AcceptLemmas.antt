-- Candidates that are accepted one after the other.
use Rattle.std.proofs.Common.{◌≡◌, ℕ, zero, suc, ◌+◌, ◌<◌, ◌≤◌, Option, Some, None, Result, Err, List, [], ◌∷◌, length, drop, slice_get, ◌⊎◌, inl, inr, refl, sym, ap, subst, ◌∙◌, arith}
use Rattle.std.proofs.Math.Seq.{drop-nil}
use Rattle.std.proofs.lemmas.Bool.{cases_order}
use Rattle.std.proofs.lemmas.List.{nil_from_length}
use Rattle.std.proofs.lemmas.Option.{same_Some}
use Rattle.std.specs.Vec.Iter.{into_iter_steps}
use Rattle.std.specs.declared.vec.IntoIter.{IntoIter}
use Rattle.ja_base.specs.Answers.{IfRefused}
use Rattle.ja_base.specs.declared.memory.OrMemory.{OrMemory}
use Rattle.ja_base.specs.declared.memory.OrMemory.TheVariants.{Refused, Memory}
use Rattle.aig_model.specs.Task.{VerificationTask}
use Rattle.refute_check.specs.Checked.{Checked}
use Rattle.refute_check.specs.declared.lines.Refuted.{Refuted}
use Rattle.inv_cert.specs.declared.not_closed.NotClosed.{NotClosed}
use Rattle.inv_cert.specs.Queries.{step_clauses}
use Rattle.inv_cert.specs.Refusals.{candidate_refusal, AreTaken, IsFirstRefusal}
use Rattle.inv_cert.specs.Taken.{IsLoaded, refusal_by}

-- ---- the next of a list, and those behind it

drop_first : {X : Type 0} (xs : List X) (n : ℕ) (x : X) (ys : List X) → drop n xs ≡ x ∷ ys
    → (slice_get xs n ≡ Some x) × (drop (n + 1) xs ≡ ys)
drop_first {X} [] n x ys e = let none : drop n [] ≡ [] = drop-nil {A = X} n in absurd cc
drop_first (z ∷ zs) zero x ys e = let same : z ≡ x = cc in (ap Some same, cc)
drop_first {X} (z ∷ zs) (suc n) x ys e =
    let h = drop_first zs n x ys e in
    let later : suc n + 1 ≡ suc (n + 1) = omega arith in
    (h.0, ap (λ (k : ℕ). drop k (z ∷ zs)) later ∙ h.1)

drop_past : {X : Type 0} (xs : List X) (n : ℕ) → drop n xs ≡ [] → (slice_get xs n ≡ None) × (drop (n + 1) xs ≡ [])
drop_past {X} [] n e = (refl, drop-nil {A = X} (n + 1))
drop_past (z ∷ zs) zero e = absurd cc
drop_past (z ∷ zs) (suc n) e =
    let h = drop_past zs n e in
    let later : suc n + 1 ≡ suc (n + 1) = omega arith in
    (h.0, ap (λ (k : ℕ). drop k (z ∷ zs)) later ∙ h.1)

pub next_is : {X Z : Type 0} (xs : List X) (n : ℕ) (before after : IntoIter X Z) (next : Option X) → before.rest.items ≡ drop n xs
    → into_iter_steps before next after → (next ≡ slice_get xs n) × (after.rest.items ≡ drop (n + 1) xs)
next_is xs n before after None e steps =
    let none = nil_from_length before.rest.items (sym before.rest.ok.0 ∙ steps.0) in
    let past = drop_past xs n (sym e ∙ none) in
    (sym past.0, nil_from_length after.rest.items (sym after.rest.ok.0 ∙ steps.1) ∙ sym past.1)
next_is xs n before after (Some x) e steps =
    let first = drop_first xs n x after.rest.items (sym e ∙ steps.0) in
    (sym first.0, sym first.1)

-- ---- the same clauses under another name

pub loaded_as : (vars : ℕ) (clauses others : List (List ℕ)) (checker : Checked) → clauses ≡ others → IsLoaded vars clauses checker
    → IsLoaded vars others checker
loaded_as vars clauses others checker e h = subst (λ (list : List (List ℕ)). IsLoaded vars list checker) e h

-- ---- the refusal of a candidate

pub refusal_at : (t : VerificationTask) (base candidates : List (List ℕ)) (proofs : List Refuted) (number : ℕ) (clause : List ℕ)
    (o : Option Refuted)
    → slice_get proofs number ≡ o
    → candidate_refusal t base candidates proofs number clause ≡ refusal_by t (step_clauses t base candidates) number clause o
refusal_at t base candidates proofs number clause None e = rw e refl
refusal_at t base candidates proofs number clause (Some proof) e = rw e refl

-- this many candidates are accepted, and these proofs are left
pub record IsAccepting (t : VerificationTask) (base candidates : List (List ℕ)) (proofs : List Refuted) (number : ℕ)
    (left : List Refuted) (checker : Checked) : Type 0 where
  pub loaded : IsLoaded (t.design.vars + 1) (step_clauses t base candidates) checker
  pub left_are : left ≡ drop number proofs
  pub accepted : AreTaken t base candidates proofs number

module _ (t : VerificationTask) (base candidates : List (List ℕ)) (proofs : List Refuted) where
  pub IsAccepting-none : (left : List Refuted) (checker : Checked) → left ≡ proofs
      → IsLoaded (t.design.vars + 1) (step_clauses t base candidates) checker
      → IsAccepting t base candidates proofs 0 left checker
  IsAccepting-none left checker all loaded = record {
    loaded = loaded;
    left_are = all;
    accepted = λ k clause below. absurd (omega arith);
  }

  -- what the next candidate is told, with the next proof
  refusal_of_next : (number : ℕ) (clause : List ℕ) (list : List (List ℕ)) (proof : Option Refuted)
      → list ≡ step_clauses t base candidates
      → proof ≡ slice_get proofs number
      → candidate_refusal t base candidates proofs number clause ≡ refusal_by t list number clause proof
  refusal_of_next number clause list proof e next =
      refusal_at t base candidates proofs number clause proof (sym next)
      ∙ ap (λ (l : List (List ℕ)). refusal_by t l number clause proof) (sym e)

  pub IsAccepting-more : (number : ℕ) (left later : List Refuted) (before after : Checked) (clause : List ℕ)
      (proof : Option Refuted)
      → IsAccepting t base candidates proofs number left before
      → slice_get candidates number ≡ Some clause
      → (proof ≡ slice_get proofs number) × (later ≡ drop (number + 1) proofs)
      → IsLoaded (t.design.vars + 1) before.list after
      → refusal_by t before.list number clause proof ≡ None
      → IsAccepting t base candidates proofs (number + 1) later after
  IsAccepting-more number left later before after clause proof h is next loaded accepted = record {
    loaded = subst (λ (list : List (List ℕ)). IsLoaded (t.design.vars + 1) list after) h.loaded.list loaded;
    left_are = next.1;
    accepted = λ k other below at. by_place k other at below (cases_order k number);
  }
    where
      by_place : (k : ℕ) (other : List ℕ) → slice_get candidates k ≡ Some other → k < number + 1
          → ((k ≡ number) ⊎ ((k < number) ⊎ (number < k)))
          → candidate_refusal t base candidates proofs k other ≡ None
      by_place k other at below (inl same) =
          let one : other ≡ clause = same_Some other clause (sym at ∙ ap (slice_get candidates) same ∙ is) in
          ap (λ (j : ℕ). candidate_refusal t base candidates proofs j other) same
          ∙ ap (candidate_refusal t base candidates proofs number) one
          ∙ refusal_of_next number clause before.list proof h.loaded.list next.0 ∙ accepted
      by_place k other at below (inr (inl less)) = h.accepted k other less at
      by_place k other at below (inr (inr more)) = absurd (omega arith)

  -- an answer with a refusal of the next candidate has the first
  pub first_refusal : (number : ℕ) (left : List Refuted) (checker : Checked) (clause : List ℕ) (proof : Option Refuted)
      → IsAccepting t base candidates proofs number left checker
      → slice_get candidates number ≡ Some clause
      → proof ≡ slice_get proofs number
      → (error : OrMemory NotClosed) (answer : Result (Unit {0}) (OrMemory NotClosed)) → answer ≡ Err error
      → IfRefused {T = Unit {0}} (Err error) (λ r. refusal_by t checker.list number clause proof ≡ Some r)
      → IfRefused answer (IsFirstRefusal t base candidates proofs)
  first_refusal number left checker clause proof h is next error answer e refused =
      subst (λ (x : Result (Unit {0}) (OrMemory NotClosed)). IfRefused x (IsFirstRefusal t base candidates proofs)) (sym e)
      (by_case error refused)
    where
      by_case : (error : OrMemory NotClosed)
          → IfRefused {T = Unit {0}} (Err error) (λ r. refusal_by t checker.list number clause proof ≡ Some r)
          → IfRefused {T = Unit {0}} (Err error) (IsFirstRefusal t base candidates proofs)
      by_case (Refused r) refused = record {
        number = number;
        clause = clause;
        clause_is = is;
        refused = refusal_of_next number clause checker.list proof h.loaded.list next ∙ refused;
        earlier = h.accepted;
      }
      by_case Memory refused = tt

  pub AreTaken-all : (number : ℕ) (left : List Refuted) (checker : Checked) → length candidates ≤ number
      → IsAccepting t base candidates proofs number left checker → AreTaken t base candidates proofs (length candidates)
  AreTaken-all number left checker end h = λ k clause below is. h.accepted k clause (omega arith) is
