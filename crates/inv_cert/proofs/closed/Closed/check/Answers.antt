use Rattle.std.proofs.Common.{List, ℕ, length, sym, subst, ◌∙◌}
use Rattle.ja_base.specs.ClauseSets.{joined}
use Rattle.aig_model.specs.Task.{VerificationTask, problem}
use Rattle.inv_cert.specs.Closed.{ClosedList, IsClosed}
use Rattle.inv_cert.specs.Refusals.{AreTaken}
use Rattle.inv_cert.proofs.ClosedLemmas.{closed_for, IsClosed-accepted}
use Rattle.inv_cert.proofs.closed.Closed.check.Goals as goal

pub invariant_of-result : goal.invariant_of-result
invariant_of-result c =
    let base : List (List ℕ) = c.base.inside.clauses in
    let closed = closed_for c.args.base.now c.base.inside.task c.args.coded.now base c.base.view_is c.base.invariant
    c.requires.task in
    let both = IsClosed-accepted c.args.coded.now c.task.ensures.sound c.task.ensures.expected base c.args.candidates
    c.args.proofs closed
    c.in_ok-accept_all.ensures.accepted in
    let P : VerificationTask → Type 0 = λ t. IsClosed (problem t) (joined base c.args.candidates) in
    subst (IsClosed (problem c.in_ok-task.task)) (sym c.in_ok-clauses.ensures)
    (subst P (sym (c.in_ok-task.ensures ∙ c.task.ensures.value)) both)

pub returns-clause-accepted : goal.returns-clause-accepted
returns-clause-accepted c =
    let P : ClosedList
    → Type 0 = λ l. AreTaken c.args.coded.now l.clauses c.args.candidates c.args.proofs (length c.args.candidates) in
    subst P c.base.view_is c.in_ok-accept_all.ensures.accepted
