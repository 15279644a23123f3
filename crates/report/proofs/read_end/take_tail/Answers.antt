use Rattle.std.proofs.Common.{◌<◌, ◌^◌, length, arith, subst}
use Rattle.std.specs.Prelude.{codes}
use Rattle.std.proofs.lemmas.Result.{err_from_is_err_and}
use Rattle.report.specs.Forms.{Fails}
use Rattle.report.specs.Sections.{words_form, journal_form}
use Rattle.report.specs.JournalLines.{entries_form}
use Rattle.report.specs.Whole.{tail_form}
use Rattle.report.proofs.FormLemmas.{fails}
use Rattle.report.proofs.EndLemmas.{tail_stops_first, tail_stops_entries, tail_stops_end, tail_taken}
use Rattle.report.proofs.read_end.take_tail.Goals as goal

pub returns-in_err-next : goal.returns-in_err-next
returns-in_err-next c =
    let p = err_from_is_err_and c.from_residual.result c.from_residual.ensures.1 in
    let clauses = c.args.clauses.now in
    let e = c.in_err-next.field-0.0 in
    let small : length clauses < 2 ^ 32 = omega (arith, c.len.type_inv, c.len.ensures) in
    let stopped = subst (λ k. Fails (journal_form k) c.args.bytes.now e) c.len.ensures c.in_err-next.ensures in
    rw (p.1, p.2)
    (fails (journal_form (length clauses)) (tail_form c.args.props clauses) c.args.bytes.now c.args.bytes.now e stopped
    (λ left stop. tail_stops_first c.args.props clauses small c.args.bytes.now left stop))

pub returns-in_err-journal : goal.returns-in_err-journal
returns-in_err-journal c =
    let p = err_from_is_err_and c.from_residual-in_err-journal.result c.from_residual-in_err-journal.ensures.1 in
    let clauses = c.args.clauses.now in
    let mid = c.in_ok-next.rest.now in
    let counted = rw (c.len.ensures, c.in-Some.is) at c.in_ok-next.ensures in
    rw (p.1, p.2)
    (fails (entries_form c.args.props clauses c.in-Some.count) (tail_form c.args.props clauses) c.args.bytes.now mid
    c.in_err-journal.field-0.0 c.in_err-journal.ensures
    (λ left stop. tail_stops_entries c.args.props clauses c.in-Some.count c.args.bytes.now mid left counted stop))

pub returns-in_err-rest : goal.returns-in_err-rest
returns-in_err-rest c =
    let p = err_from_is_err_and c.from_residual-in_err-rest.result c.from_residual-in_err-rest.ensures.1 in
    let clauses = c.args.clauses.now in
    let mid = c.in_ok-next.rest.now in
    let counted = rw (c.len.ensures, c.in-Some.is) at c.in_ok-next.ensures in
    let small : length clauses < 2 ^ 32 = omega (arith, c.len.type_inv, c.len.ensures) in
    rw (p.1, p.2)
    (fails (words_form (codes "end")) (tail_form c.args.props clauses) c.args.bytes.now c.in_ok-journal.rest.now
    c.in_err-rest.field-0.0 c.in_err-rest.ensures
    (λ left stop. tail_stops_end c.args.props clauses c.in-Some.count c.in_ok-journal.journal c.args.bytes.now mid
    c.in_ok-journal.rest.now left small counted c.in_ok-journal.ensures stop))

pub returns : goal.returns
returns c =
    let clauses = c.args.clauses.now in
    let counted = rw (c.len.ensures, c.in-Some.is) at c.in_ok-next.ensures in
    tail_taken c.args.props clauses c.in-Some.count c.in_ok-journal.journal c.args.bytes.now c.in_ok-next.rest.now
    c.in_ok-journal.rest.now c.in_ok-rest.rest.now counted
    c.in_ok-journal.ensures c.in_ok-rest.ensures
