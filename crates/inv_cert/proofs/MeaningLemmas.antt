-- Accepted candidates are inductive over the list, and what is accepted for a property covers it.
use Rattle.std.proofs.Common.{◌≡◌, ℕ, ◌+◌, ◌<◌, ◌||◌, Bool, true, false, Option, Some, None, List, [], ◌∷◌, ◌++◌, length, get_or, map, slice_get, refl, sym, subst, ◌∙◌}
use Rattle.std.specs.List.{list_any, All}
use Rattle.std.proofs.lemmas.Bool.{both_ways, true_from_ne_false}
use Rattle.std.proofs.lemmas.List.Elements.{All-append, All-map, All-cons, All-nil}
use Rattle.std.proofs.lemmas.Option.{slice_get-get_or}
use Rattle.ja_base.specs.Literals.{value, SatisfiedBy, AllSatisfiedBy}
use Rattle.ja_base.specs.Circuit.{bad_literal}
use Rattle.ja_base.specs.Valuation.{IsValuation, MeetsConstraints, AssumptionsHold}
use Rattle.ja_base.specs.Invariants.{latch_value, MeetsClauses, Covers}
use Rattle.aig_model.specs.Netlist.{IsSound, circuit}
use Rattle.aig_model.specs.Task.{VerificationTask}
use Rattle.ja_project.specs.CodedClauses.{coded_clauses, held_literals}
use Rattle.ja_project.proofs.StepLemmas.{clauses_mean_steps}
use Rattle.ja_project.proofs.HeldLemmas.{held_means_assumptions}
use Rattle.refute_check.specs.declared.lines.Line.{Line}
use Rattle.refute_check.specs.declared.lines.Refuted.{Refuted}
use Rattle.refute_check.specs.Lines.{refusal}
use Rattle.refute_check.specs.Laws.{AreAccepted, with_lines}
use Rattle.refute_check.specs.Refuted.{IsRefuted, is_covered}
use Rattle.refute_check.proofs.Covered.{covered_by_lines}
use Rattle.ja_project.specs.Latches.{is_foreign}
use Rattle.ja_project.specs.Start.{starts}
use Rattle.ja_project.specs.CodedClauses.{negated_next}
use Rattle.inv_cert.specs.Queries.{step_clauses, cover_clauses}
use Rattle.inv_cert.specs.Refusals.{hint_or, refused_line, proof_refusal, AreTaken}
use Rattle.inv_cert.specs.Taken.{refusal_by}
use Rattle.inv_cert.proofs.InductionLemmas.{All-part}
use Rattle.ja_base.proofs.JoinLemmas.{first_is_part, second_is_part}
use Rattle.inv_cert.proofs.JoinLemmas.{AreInductiveOver}
use Rattle.ja_project.proofs.StartLemmas.{own_vars, starts_false}
use Rattle.ja_project.proofs.ValueLemmas.{met_now, holds_later}
use Rattle.inv_cert.proofs.AcceptLemmas.{refusal_at}

-- ---- an accepted proof refutes

hint_none : (r : Option ℕ) (at : ℕ) (later : Option (ℕ × ℕ)) → hint_or r at later ≡ None → (r ≡ None) × (later ≡ None)
hint_none None at later e = (refl, e)
hint_none (Some hint) at later e = absurd cc

accepted_lines : (vars : ℕ) (clauses : List (List ℕ)) (at : ℕ) (lines : List Line) → refused_line vars clauses at lines ≡ None
    → AreAccepted vars clauses lines
accepted_lines vars clauses at [] e = tt
accepted_lines vars clauses at (line ∷ lines) e =
    let h = hint_none (refusal vars clauses line.clause line.hints) at
    (refused_line vars (clauses ++ line.clause ∷ []) (at + 1) lines) e in
    (h.0, accepted_lines vars (clauses ++ line.clause ∷ []) (at + 1) lines h.1)

-- the lines are accepted, and cover what is to be refuted
record IsShown (vars : ℕ) (clauses : List (List ℕ)) (lines : List Line) (under : List ℕ) : Type 0 where
  lines_are : refused_line vars clauses 0 lines ≡ None
  covered : is_covered (with_lines clauses lines) under ≡ true

shown : (number vars : ℕ) (clauses : List (List ℕ)) (lines : List Line) (under : List ℕ) (refused : Option (ℕ × ℕ))
    (covered : Bool)
    → refused_line vars clauses 0 lines ≡ refused → is_covered (with_lines clauses lines) under ≡ covered
    → proof_refusal number vars clauses lines under ≡ None → IsShown vars clauses lines under
shown number vars clauses lines under (Some r) covered e f h = let wrong = rw e at h in absurd cc
shown number vars clauses lines under None true e f h = record { lines_are = e; covered = f }
shown number vars clauses lines under None false e f h = let wrong = rw (e, f) at h in absurd cc

pub accepted_is_refuted : (number vars : ℕ) (clauses : List (List ℕ)) (lines : List Line) (under : List ℕ)
    → proof_refusal number vars clauses lines under ≡ None → IsRefuted vars clauses under
accepted_is_refuted number vars clauses lines under h =
    let s = shown number vars clauses lines under (refused_line vars clauses 0 lines)
    (is_covered (with_lines clauses lines) under) refl refl h in
    covered_by_lines vars clauses lines under (accepted_lines vars clauses 0 lines s.lines_are) s.covered

-- ---- an accepted candidate

record IsAcceptedClause (t : VerificationTask) (base candidates : List (List ℕ)) (clause : List ℕ) : Type 0 where
  own : is_foreign (circuit t.design) clause ≡ false
  begins : starts (circuit t.design) clause ≡ true
  refuted : IsRefuted (t.design.vars + 1) (step_clauses t base candidates) (negated_next t.design clause)

accepted_clause : (t : VerificationTask) (base candidates : List (List ℕ)) (number : ℕ) (clause : List ℕ) (proof : Option Refuted)
    (foreign begins : Bool)
    → is_foreign (circuit t.design) clause ≡ foreign → starts (circuit t.design) clause ≡ begins
    → refusal_by t (step_clauses t base candidates) number clause proof ≡ None → IsAcceptedClause t base candidates clause
accepted_clause t base candidates number clause proof true begins e f h = let wrong = rw e at h in absurd cc
accepted_clause t base candidates number clause proof false false e f h = let wrong = rw (e, f) at h in absurd cc
accepted_clause t base candidates number clause None false true e f h = let wrong = rw (e, f) at h in absurd cc
accepted_clause t base candidates number clause (Some proof) false true e f h = record {
  own = e;
  begins = f;
  refuted = accepted_is_refuted number (t.design.vars + 1) (step_clauses t base candidates) proof.lines
      (negated_next t.design clause) (rw (e, f) at h);
}

module _ (t : VerificationTask) (base candidates : List (List ℕ)) (proofs : List Refuted)
    (h : AreTaken t base candidates proofs (length candidates)) where
  accepted_at : (k : ℕ) (d : List ℕ) → k < length candidates → IsAcceptedClause t base candidates (get_or candidates k d)
  accepted_at k d within =
      let clause : List ℕ = get_or candidates k d in
      accepted_clause t base candidates k clause (slice_get proofs k) (is_foreign (circuit t.design) clause)
      (starts (circuit t.design) clause) refl refl
      (sym (refusal_at t base candidates proofs k clause (slice_get proofs k) refl)
      ∙ h k clause within (slice_get-get_or candidates k d within))

  pub accepted_are_own : All (λ clause. is_foreign (circuit t.design) clause ≡ false) candidates
  accepted_are_own = λ k d within. (accepted_at k d within).own

-- ---- what a step satisfies

or_false_true : (b : Bool) → b ≡ true → (b || false) ≡ true
or_false_true true e = refl
or_false_true false e = e

module _ (t : VerificationTask) (sound : IsSound t.design) (state input values : List Bool)
    (now : IsValuation (circuit t.design) state input values)
    (constrained : MeetsConstraints (circuit t.design) values) where
  coded_hold : AllSatisfiedBy (value values) (coded_clauses t.design)
  coded_hold = (clauses_mean_steps t.design sound values now.width).1 (state, input, now, constrained)

  list_holds : (clauses : List (List ℕ)) → All (λ clause. is_foreign (circuit t.design) clause ≡ false) clauses
      → MeetsClauses (circuit t.design) state clauses → AllSatisfiedBy (value values) clauses
  list_holds clauses own meets =
      met_now (circuit t.design) values clauses own
      (subst (λ (row : List Bool). MeetsClauses (circuit t.design) row clauses) (sym now.latches) meets)

  held_hold : length t.expected ≡ length t.design.bads → AssumptionsHold (circuit t.design) t.expected values
      → AllSatisfiedBy (value values) (map (λ l. l ∷ []) (held_literals t))
  held_hold expected held =
      All-map (SatisfiedBy (value values)) (λ l. l ∷ []) (held_literals t)
      (λ k d within. or_false_true (value values (get_or (held_literals t) k d))
      ((held_means_assumptions t expected values).1 held k d within))

  step_holds : length t.expected ≡ length t.design.bads → AssumptionsHold (circuit t.design) t.expected values
      → (base candidates : List (List ℕ)) → AllSatisfiedBy (value values) (base ++ candidates)
      → AllSatisfiedBy (value values) (step_clauses t base candidates)
  step_holds expected held base candidates both =
      let P : List ℕ → Type 0 = SatisfiedBy (value values) in
      let units : List (List ℕ) = map (λ l. l ∷ []) (held_literals t) in
      All-append P (coded_clauses t.design ++ units ++ base) candidates
      (All-append P (coded_clauses t.design ++ units) base
      (All-append P (coded_clauses t.design) units coded_hold (held_hold expected held))
      (All-part P (base ++ candidates) base both (first_is_part base candidates)))
      (All-part P (base ++ candidates) candidates both (second_is_part base candidates))

-- ---- the meaning of what is accepted

pub accepted_are_inductive : (t : VerificationTask) → IsSound t.design → length t.expected ≡ length t.design.bads
    → (base candidates : List (List ℕ)) (proofs : List Refuted)
    → All (λ clause. is_foreign (circuit t.design) clause ≡ false) base
    → AreTaken t base candidates proofs (length candidates)
    → AreInductiveOver (circuit t.design) t.expected base candidates
accepted_are_inductive t sound expected base candidates proofs own h = record {
  starts = λ state initial k d within.
      let clause : List ℕ = get_or candidates k d in
      let begins = (accepted_at t base candidates proofs h k d within).begins in
      true_from_ne_false (list_any (latch_value (circuit t.design).latches state) clause)
      (λ zero. both_ways (starts (circuit t.design) clause)
      (starts_false (circuit t.design) clause (own_vars t.design sound)
      (state, initial, both_ways (list_any (latch_value (circuit t.design).latches state) clause) zero)) begins);
  steps = λ state input values now meets constrained held k d within.
      let both = list_holds t sound state input values now constrained (base ++ candidates)
      (All-append (λ clause. is_foreign (circuit t.design) clause ≡ false) base candidates own
      (accepted_are_own t base candidates proofs h)) meets in
      holds_later t.design values (get_or candidates k d) now.constant
      (λ under. (accepted_at t base candidates proofs h k d within).refuted values (record {
        width = now.width;
        clauses_hold = step_holds t sound state input values now constrained expected held base candidates both;
        under_holds = under;
      }));
}

pub refuted_is_covered : (t : VerificationTask) → IsSound t.design → (clauses : List (List ℕ)) (prop : ℕ)
    → All (λ clause. is_foreign (circuit t.design) clause ≡ false) clauses
    → IsRefuted (t.design.vars + 1) (cover_clauses t clauses) (bad_literal (circuit t.design) prop ∷ [])
    → Covers (circuit t.design) clauses prop
refuted_is_covered t sound clauses prop own refuted state input values now meets constrained =
    by_case (value values (bad_literal (circuit t.design) prop)) refl
  where
    by_case : (b : Bool) → value values (bad_literal (circuit t.design) prop) ≡ b → b ≡ false
    by_case false e = refl
    by_case true e = absurd (refuted values (record {
      width = now.width;
      clauses_hold = All-append (SatisfiedBy (value values)) (coded_clauses t.design) clauses
          (coded_hold t sound state input values now constrained)
          (list_holds t sound state input values now constrained clauses own meets);
      under_holds = All-cons (λ l. value values l ≡ true) (bad_literal (circuit t.design) prop) [] e
          (All-nil (λ l. value values l ≡ true));
    }))
