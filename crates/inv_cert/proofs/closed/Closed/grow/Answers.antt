use Rattle.std.proofs.Common.{◌≡◌, List, ℕ, ◌++◌, sym, ap, subst, ◌∙◌}
use Rattle.ja_base.specs.ClauseSets.{joined}
use Rattle.aig_model.specs.Task.{VerificationTask, problem}
use Rattle.inv_cert.specs.Closed.{ClosedList, IsClosed}
use Rattle.inv_cert.specs.Loaded.{StepList}
use Rattle.inv_cert.proofs.ClosedLemmas.{closed_for, IsClosed-accepted, closed_list_is, grown_here, grown_seen}
use Rattle.inv_cert.proofs.closed.Closed.grow.Goals as goal

pub invariant_of-self-2 : goal.invariant_of-self-2
invariant_of-self-2 c =
    let base : List (List ℕ) = c.self.inside.clauses in
    let closed = closed_for c.args.self.now c.self.inside.task c.args.coded.now base c.self.view_is c.self.invariant
    c.requires.task in
    let held : c.args.checker.now.list ≡ base ++ c.args.candidates =
    ap (λ (k : StepList). k.list) c.requires.checker
    ∙ ap (λ (l : ClosedList). l.clauses ++ c.args.candidates) (sym c.self.view_is) in
    let both = IsClosed-accepted c.args.coded.now c.task.ensures.sound c.task.ensures.expected base c.args.candidates
    c.args.proofs closed (c.in_ok-accept.ensures.accepted base held) in
    let is : c.append.new.self ≡ joined base c.args.candidates =
    grown_here c.args.self.now c.self.inside.task base c.args.candidates c.self.view_is c.requires.fresh c.append.new.self
    c.in_ok-append.ensures.ok in
    let P : VerificationTask → Type 0 = λ t. IsClosed (problem t) (joined base c.args.candidates) in
    subst (IsClosed (problem c.in_ok-task.task)) (sym is) (subst P (sym (c.in_ok-task.ensures ∙ c.task.ensures.value)) both)

pub returns-clause-closed : goal.returns-clause-closed
returns-clause-closed c =
    closed_list_is c.in_ok-task.task c.args.coded.now c.append.new.self (joined c.args.self.now.clauses c.args.candidates)
    (c.in_ok-task.ensures ∙ c.task.ensures.value)
    (grown_seen c.args.self.now c.self.inside.task c.self.inside.clauses c.args.candidates c.self.view_is c.requires.fresh
    c.append.new.self c.in_ok-append.ensures.ok)
