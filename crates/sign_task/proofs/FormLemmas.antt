-- The report that is made of a board is in form.
use Rattle.std.proofs.Common.{◌≡◌, ℕ, ◌+◌, ◌*◌, ◌<◌, ◌≤◌, Bool, true, false, List, [], ◌∷◌, ◌++◌, length, refl, sym, ap, subst, ◌∙◌, arith, ⊎_elim, get_or}
use Rattle.std.specs.Prelude.{All}
use Rattle.std.specs.List.{AllByRecursion}
use Rattle.std.specs.List.Sorted.{IsStrictlyIncreasing}
use Rattle.std.proofs.lemmas.Bool.{cases_lt, false≢true}
use Rattle.std.proofs.lemmas.List.{length-map, get_or_past}
use Rattle.std.proofs.lemmas.List.Elements.{recursion_from_All, All-weaker, Contains-get_or}
use Rattle.ja_base.specs.Literals.{bit, variable}
use Rattle.ja_base.specs.Circuit.{Circuit}
use Rattle.ja_base.specs.Valuation.{next_state}
use Rattle.ja_base.specs.Runs.{IsRun, IsLocalFailure}
use Rattle.ja_base.specs.Failures.{Failure}
use Rattle.aig_model.specs.Netlist.{Netlist, IsSound, circuit, latch_of}
use Rattle.aig_model.specs.Task.{VerificationTask, problem}
use Rattle.ja_project.specs.Latches.{is_foreign}
use Rattle.ja_project.proofs.ForeignLemmas.{is_over_at}
use Rattle.ja_project.proofs.OverLemmas.{HasLatch-from_test}
use Rattle.store_core.specs.declared.journal.Opening.{Opening}
use Rattle.store_core.specs.declared.journal.Entry.{Entry}
use Rattle.store_core.specs.Steps.{State}
use Rattle.report.specs.declared.parts.PropLine.{PropLine}
use Rattle.report.specs.declared.parts.PropStim.{PropStim}
use Rattle.report.specs.declared.parts.Sizes.{Sizes}
use Rattle.report.specs.Findings.{Findings}
use Rattle.report.specs.Reports.{HasWidths, IsReport, IsReportClause, IfShown, IsShownJournal}
use Rattle.sign_task.specs.Sections.{sizes_of}
use Rattle.sign_task.proofs.CertifyLemmas.{IsEnd, all_local}
use Rattle.sign_task.proofs.JournalLemmas.{if_shown, shown_journal}

-- a literal over a latch
own_literal : (n : Netlist) → IsSound n → (clause : List ℕ) → is_foreign (circuit n) clause ≡ false
    → All (λ l. (2 ≤ l) × (l ≤ 2 * n.vars + 1)) clause
own_literal n sound clause own k d lt =
    let over = HasLatch-from_test n (get_or clause k d) (is_over_at (circuit n) clause k d own lt) in
    let new = (sound.latches over.place over.latch over.latch_is).lit in
    (omega (arith, over.var_is, new.above), omega (arith, over.var_is, new.within))

own_clause : (n : Netlist) → IsSound n → (clause : List ℕ) → is_foreign (circuit n) clause ≡ false
    → IsStrictlyIncreasing clause → IsReportClause n.vars clause
own_clause n sound clause own up = record {
  ascends = up;
  within = recursion_from_All (λ l. (2 ≤ l) × (l ≤ 2 * n.vars + 1)) clause (own_literal n sound clause own);
}

own_clauses : (n : Netlist) → IsSound n → (clauses : List (List ℕ)) → All (λ c. is_foreign (circuit n) c ≡ false) clauses
    → All IsStrictlyIncreasing clauses → AllByRecursion (IsReportClause n.vars) clauses
own_clauses n sound clauses own up = recursion_from_All (IsReportClause n.vars) clauses
    (λ k d lt. own_clause n sound (get_or clauses k d) (own k d lt) (up k d lt))

run_rows : (c : Circuit) (s : List Bool) (rows vs : List (List Bool)) → IsRun c s rows vs
    → AllByRecursion (λ row. length row ≡ length c.inputs) rows
run_rows c s [] [] r = tt
run_rows c s [] (v ∷ vs) r = absurd r
run_rows c s (x ∷ xs) [] r = absurd r
run_rows c s (x ∷ xs) (v ∷ vs) r =
    (ap length (sym r.0.inputs) ∙ length-map c.inputs (bit v), run_rows c (next_state c v) xs vs r.1)

run_length : (c : Circuit) (s : List Bool) (rows vs : List (List Bool)) → IsRun c s rows vs → length vs ≡ length rows
run_length c s [] [] r = refl
run_length c s [] (v ∷ vs) r = absurd r
run_length c s (x ∷ xs) [] r = absurd r
run_length c s (x ∷ xs) (v ∷ vs) r = let e = run_length c (next_state c v) xs vs r.1 in omega (arith, e)

widths_of : (t : VerificationTask) (x : PropStim) → IsLocalFailure (problem t) x.prop x.stim → HasWidths (sizes_of t.design) x
widths_of t x h =
    let replay = h.reached.legal.replay in
    let long = run_length (circuit t.design) x.stim.first x.stim.inputs (h.earlier ++ h.last ∷ []) replay.runs in
    record {
      first = replay.starts.width ∙ length-map t.design.latches latch_of;
      rows = run_widths t x.stim.inputs (run_rows (circuit t.design) x.stim.first x.stim.inputs (h.earlier ++ h.last ∷ [])
          replay.runs);
      some = omega (arith, long, replay.has_step);
    }
  where
    run_widths : (u : VerificationTask) (rows : List (List Bool))
        → AllByRecursion (λ row. length row ≡ length (circuit u.design).inputs) rows
        → AllByRecursion (λ row. length row ≡ length u.design.inputs) rows
    run_widths u rows all = subst (λ (n : ℕ). AllByRecursion (λ row. length row ≡ n) rows)
        (length-map u.design.inputs variable) all

pub in_form : (t : VerificationTask) (o : Opening) (s : State) (failures : List Failure) (journal : List Entry) (shown : Bool)
    (r : Findings) → IsEnd t o s failures journal shown r → IsSound t.design → All (λ c. is_foreign (circuit t.design) c ≡ false) s.clauses
    → All IsStrictlyIncreasing r.clauses → IsReport r
in_form t o s failures journal shown r e sound own up = record {
  lines = sym (length-map r.lines (λ (l : PropLine). l.assumed)) ∙ ap length e.made.lines ∙ e.long
      ∙ sym (ap (λ (z : Sizes). z.props) e.made.sizes);
  clauses = subst (λ (n : ℕ). AllByRecursion (IsReportClause n) r.clauses) (sym (ap (λ (z : Sizes). z.vars) e.made.sizes))
      (own_clauses t.design sound r.clauses
      (subst (λ (cs : List (List ℕ)). All (λ c. is_foreign (circuit t.design) c ≡ false) cs) (sym e.made.clauses_are) own) up);
  stimuli = e.made.one_each;
  widths = subst (λ (z : Sizes). AllByRecursion (HasWidths z) r.stimuli) (sym e.made.sizes)
      (recursion_from_All (HasWidths (sizes_of t.design)) r.stimuli (All-weaker
      (λ (x : PropStim). IsLocalFailure (problem t) x.prop x.stim) (HasWidths (sizes_of t.design)) (widths_of t) r.stimuli
      (all_local t o s failures journal shown r e)));
  set_ascends = e.made.set.ascends;
  set_within = recursion_from_All (λ p. p < r.sizes.props) r.set
      (λ k d lt. within (get_or r.set k d) ((e.made.set.members (get_or r.set k d)).0 (Contains-get_or r.set k d lt)).0);
  journal = if_shown r.shown (IsShownJournal r) (shown_journal t o s failures journal shown r e);
}
  where
    within : (p : ℕ) → bit t.expected p ≡ true → p < r.sizes.props
    within p held = ⊎_elim (λ lt. omega (arith, lt, e.long, ap (λ (z : Sizes). z.props) e.made.sizes))
        (λ past. absurd (false≢true (sym (get_or_past t.expected p false past) ∙ held))) (cases_lt p (length t.expected))
