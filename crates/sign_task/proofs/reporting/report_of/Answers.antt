use Rattle.std.proofs.Common.{◌≡◌, ◌<◌, Some, List, length, map, refl, sym, ◌∙◌, ap, subst}
use Rattle.std.specs.Prelude.{All}
use Rattle.aig_model.specs.Netlist.{IsSound}
use Rattle.inv_cert.specs.Closed.{ClosedList}
use Rattle.local_stim.specs.Found.{FoundFailure}
use Rattle.store_core.specs.declared.mark.Mark.{Mark}
use Rattle.report.specs.Findings.{Findings}
use Rattle.sign_task.specs.Places.{AllHaveFailure}
use Rattle.sign_task.specs.Sections.{sizes_of}
use Rattle.sign_task.proofs.EndLemmas.{IsMade, left_of, failures_within, all_have_failure, assembled, report_in_form, signs_off}
use Rattle.sign_task.proofs.reporting.report_of.Goals as goal

pub stimuli_of-requires-clause-within : goal.stimuli_of-requires-clause-within
stimuli_of-requires-clause-within c =
    let parts = c.into_parts-parts.ensures in
    let left = left_of c.args.task.now c.args.terms c.args.board c.into_parts-parts.result.list c.requires.underway c.requires.halted parts.sound
    c.is_closed.ensures.closed parts.list parts.clauses in
    let h = failures_within c.args.task.now c.args.terms c.args.board c.in_ok-kept.kept.items left
    (c.in_ok-kept.ensures ∙ c.as_slice.ensures.value ∙ parts.marks) in
    let same : c.as_slice-2.result.now ≡ c.args.board.failures = c.as_slice-2.ensures.value ∙ parts.failures in
    subst (λ (fs : List FoundFailure). All (λ (f : FoundFailure). f.prop < length c.as_slice-marks.result.now) fs) (sym same)
    (subst (λ (ms : List Mark). All (λ (f : FoundFailure). f.prop < length ms) c.args.board.failures)
    (sym c.as_slice-marks.ensures.value) h)

pub stimuli_of-requires-clause-each : goal.stimuli_of-requires-clause-each
stimuli_of-requires-clause-each c =
    let parts = c.into_parts-parts.ensures in
    let left = left_of c.args.task.now c.args.terms c.args.board c.into_parts-parts.result.list c.requires.underway c.requires.halted parts.sound
    c.is_closed.ensures.closed parts.list parts.clauses in
    let h = all_have_failure c.args.task.now c.args.terms c.args.board c.in_ok-kept.kept.items left
    (c.in_ok-kept.ensures ∙ c.as_slice.ensures.value ∙ parts.marks) in
    let same : c.as_slice-2.result.now ≡ c.args.board.failures = c.as_slice-2.ensures.value ∙ parts.failures in
    subst (λ (fs : List FoundFailure). AllHaveFailure fs c.as_slice-marks.result.now) (sym same)
    (subst (λ (ms : List Mark). AllHaveFailure c.args.board.failures ms) (sym c.as_slice-marks.ensures.value) h)

pub invariant_of-result : goal.invariant_of-result
invariant_of-result c =
    let parts = c.into_parts-parts.ensures in
    let left = left_of c.args.task.now c.args.terms c.args.board c.into_parts-parts.result.list c.requires.underway c.requires.halted parts.sound
    c.is_closed.ensures.closed parts.list parts.clauses in
    let report : Findings = record {
      sizes = c.sizes_of.result;
      lines = c.in_ok-lines.lines;
      clauses = c.in_ok-clauses.clauses;
      stimuli = c.in_ok-stimuli.stimuli;
      joined = c.is_joined.result;
      set = c.in_ok-set.set;
      journal = c.into_parts-parts.result.journal;
      shown = c.args.terms.journal;
    } in
    let made : IsMade c.args.task.now c.args.terms c.args.board c.expect-expect.result.now c.as_slice-marks.result.now c.as_slice-2.result.now
    report = record {
      expected_are = c.expect-expect.ensures.value;
      slots_are = ap (map Some) c.as_slice-marks.ensures.value ∙ c.in_ok-kept.ensures ∙ c.as_slice.ensures.value ∙ parts.marks;
      failures_are = c.as_slice-2.ensures.value ∙ parts.failures;
      sizes = c.sizes_of.ensures.sizes ∙ ap sizes_of c.design.ensures.value;
      lines = c.in_ok-lines.ensures.assumed;
      marks_are = c.in_ok-lines.ensures.marks;
      clauses = c.in_ok-clauses.ensures.value ∙ ap (λ (x : ClosedList). x.clauses) parts.list;
      one_each = c.in_ok-stimuli.ensures.one_each;
      among = c.in_ok-stimuli.ensures.among;
      joined = c.is_joined.ensures;
      set = c.in_ok-set.ensures;
      journal = parts.journal;
      shown_is = refl;
    } in
    let all = assembled c.args.task.now c.args.terms c.args.board c.expect-expect.result.now c.as_slice-marks.result.now c.as_slice-2.result.now
    report left made in
    let sound = subst IsSound c.design.ensures.value c.sizes_of.ensures.sound in
    let form = report_in_form c.args.task.now c.args.terms c.args.board report left c.design.ensures.expected all sound
    c.in_ok-clauses.ensures.ascend in
    form

pub returns : goal.returns
returns c =
    let parts = c.into_parts-parts.ensures in
    let left = left_of c.args.task.now c.args.terms c.args.board c.into_parts-parts.result.list c.requires.underway c.requires.halted parts.sound
    c.is_closed.ensures.closed parts.list parts.clauses in
    let report : Findings = record {
      sizes = c.sizes_of.result;
      lines = c.in_ok-lines.lines;
      clauses = c.in_ok-clauses.clauses;
      stimuli = c.in_ok-stimuli.stimuli;
      joined = c.is_joined.result;
      set = c.in_ok-set.set;
      journal = c.into_parts-parts.result.journal;
      shown = c.args.terms.journal;
    } in
    let made : IsMade c.args.task.now c.args.terms c.args.board c.expect-expect.result.now c.as_slice-marks.result.now c.as_slice-2.result.now
    report = record {
      expected_are = c.expect-expect.ensures.value;
      slots_are = ap (map Some) c.as_slice-marks.ensures.value ∙ c.in_ok-kept.ensures ∙ c.as_slice.ensures.value ∙ parts.marks;
      failures_are = c.as_slice-2.ensures.value ∙ parts.failures;
      sizes = c.sizes_of.ensures.sizes ∙ ap sizes_of c.design.ensures.value;
      lines = c.in_ok-lines.ensures.assumed;
      marks_are = c.in_ok-lines.ensures.marks;
      clauses = c.in_ok-clauses.ensures.value ∙ ap (λ (x : ClosedList). x.clauses) parts.list;
      one_each = c.in_ok-stimuli.ensures.one_each;
      among = c.in_ok-stimuli.ensures.among;
      joined = c.is_joined.ensures;
      set = c.in_ok-set.ensures;
      journal = parts.journal;
      shown_is = refl;
    } in
    let all = assembled c.args.task.now c.args.terms c.args.board c.expect-expect.result.now c.as_slice-marks.result.now c.as_slice-2.result.now
    report left made in
    let sound = subst IsSound c.design.ensures.value c.sizes_of.ensures.sound in
    let form = report_in_form c.args.task.now c.args.terms c.args.board report left c.design.ensures.expected all sound
    c.in_ok-clauses.ensures.ascend in
    signs_off c.args.task.now c.args.terms c.args.board report left c.design.ensures.expected all form c.first_broken_is_named.ensures
