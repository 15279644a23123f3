use Rattle.std.proofs.Common.{refl, ◌∙◌}
use Rattle.refute_text.proofs.LineLemmas.{no_mark, does_not_ascend, not_ascending, ascending, no_newline, line_is_taken}
use Rattle.refute_text.proofs.TextLemmas.{line_is_some}
use Rattle.refute_text.proofs.line.take_line.Goals as goal

pub returns-in_default-clause-read : goal.returns-in_default-clause-read
returns-in_default-clause-read c =
    no_mark c.args.bytes.now c.in_ok-lits.lits c.in_ok-lits.rest.now c.in_ok-lits.ensures c.in_default.ensures.read

pub returns-then-not-ascends-clause-read : goal.returns-then-not-ascends-clause-read
returns-then-not-ascends-clause-read c =
    does_not_ascend c.args.bytes.now c.in_ok-lits.lits c.in_ok-lits.rest.now c.in_ok-lits.ensures
    (not_ascending c.ascends.result c.as_slice.result.now c.in_ok-lits.lits c.if-not-ascends.true c.ascends.ensures
    c.as_slice.ensures.value)

pub returns-in_default-newline-clause-read : goal.returns-in_default-newline-clause-read
returns-in_default-newline-clause-read c =
    no_newline c.args.bytes.now c.in_ok-lits.lits c.in_ok-lits.rest.now c.in-Some.rest.now c.in_ok-hints.hints
    c.in_ok-hints.rest.now
    c.in_ok-lits.ensures c.in-Some.ensures.read c.in_ok-hints.ensures c.in_default-newline.ensures.read

pub returns-clause-read : goal.returns-clause-read
returns-clause-read c =
    let up = ascending c.ascends.result c.as_slice.result.now c.in_ok-lits.lits c.if-not-ascends.false c.ascends.ensures
    c.as_slice.ensures.value in
    line_is_taken c.args.bytes.now c.in_ok-lits.lits c.in_ok-lits.rest.now c.in-Some.rest.now c.in_ok-hints.hints
    c.in_ok-hints.rest.now c.in-Some-newline.rest.now
    (record { clause = c.in_ok-clause.clause; hints = c.in_ok-hints.hints }) c.in_ok-lits.ensures c.in-Some.ensures.read up
    c.in_ok-hints.ensures c.in-Some-newline.ensures.read (c.in_ok-clause.ensures ∙ c.as_slice-2.ensures.value) refl

pub returns-clause-shorter : goal.returns-clause-shorter
returns-clause-shorter c = line_is_some c.args.bytes.now _ c.in-Some-newline.rest.now (returns-clause-read c)
