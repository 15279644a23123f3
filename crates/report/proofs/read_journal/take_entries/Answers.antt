use Rattle.std.proofs.Common.{◌-◌, ◌<◌, ◌^◌, ◌∷◌, [], ◌++◌, length, arith, ap, subst, ◌∙◌}
use Rattle.std.proofs.lemmas.Result.{err_from_is_err_and}
use Rattle.store_core.specs.declared.journal.Entry.{Entry}
use Rattle.report.specs.Forms.{Fails, Takes}
use Rattle.report.specs.JournalLines.{said_form, entries_form}
use Rattle.report.proofs.FormLemmas.{fails}
use Rattle.report.proofs.JournalLemmas.{entries_more, entries_end, entries_done}
use Rattle.report.proofs.read_journal.take_entries.Goals as goal

pub returns-in_err-said : goal.returns-in_err-said
returns-in_err-said c =
    let p = err_from_is_err_and c.from_residual.result c.from_residual.ensures.1 in
    let clauses = c.args.clauses.now in
    let i = c.loop-done.done in
    let from = c.loop-done.from in
    let left = c.args.count - i in
    let e = c.in_err-said.field-0.0 in
    let small : length clauses < 2 ^ 32 = omega (arith, c.len-total.type_inv, c.len-total.ensures) in
    let stopped = subst (λ k. Fails (said_form c.args.props k (from, left)) c.loop-done.rest.now e) c.len-total.ensures
    c.in_err-said.ensures in
    rw (p.1, p.2)
    (fails (said_form c.args.props (length clauses) (from, left)) (entries_form c.args.props clauses c.args.count)
    c.args.bytes.now c.loop-done.rest.now e stopped
    (λ at stop. entries_end c.args.props clauses c.args.count c.args.bytes.now i from c.loop-done.journal c.loop-done.rest.now at
    small c.requires c.loop-done-test.true c.loop-done.invariant stop))

pub loop-done-preserved : goal.loop-done-preserved
loop-done-preserved c =
    let clauses = c.args.clauses.now in
    let i = c.loop-done.done in
    let from = c.loop-done.from in
    let left = c.args.count - i in
    let said = c.in_ok-said.said in
    let taken = subst (λ k. Takes (said_form c.args.props k (from, left)) c.loop-done.rest.now said c.in_ok-said.after.now)
    c.len-total.ensures c.in_ok-said.ensures in
    let pushed = c.in_ok-push.ensures.ok ∙ ap (λ (e : Entry). c.loop-done.journal ++ e ∷ []) c.in_ok-entry_of.ensures in
    entries_more c.args.props clauses c.args.count c.args.bytes.now i from c.loop-done.journal c.loop-done.rest.now said
    c.in_ok-said.after.now c.push.new.self c.loop-done-test.true
    c.loop-done.invariant taken pushed

pub returns : goal.returns
returns c =
    let clauses = c.args.clauses.now in
    let small : length clauses < 2 ^ 32 = omega (arith, c.len-total.type_inv, c.len-total.ensures) in
    entries_done c.args.props clauses c.args.count c.args.bytes.now c.loop-done.done c.loop-done.from c.loop-done.journal
    c.loop-done.rest.now small c.requires
    (omega (arith, c.loop-done-test.false, c.loop-done.auto.done-end)) c.loop-done.invariant
