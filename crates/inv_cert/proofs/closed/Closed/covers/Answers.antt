use Rattle.std.proofs.Common.{◌≡◌, ◌+◌, [], ◌∷◌, Some, sym, ◌∙◌}
use Rattle.std.proofs.lemmas.Result.{on_ok_weaker}
use Rattle.ja_base.specs.Circuit.{bad_literal}
use Rattle.aig_model.specs.Netlist.{circuit}
use Rattle.inv_cert.specs.Queries.{cover_clauses}
use Rattle.inv_cert.specs.Refusals.{proof_refusal}
use Rattle.inv_cert.proofs.ClosedLemmas.{IfRefused-weaker, cover_refusal_is, covered_by_proof}
use Rattle.inv_cert.proofs.closed.Closed.covers.Goals as goal

pub returns-clause-covered : goal.returns-clause-covered
returns-clause-covered c =
    let same = cover_refusal_is c.args.coded.now c.args.self.now c.self.inside.task c.self.inside.clauses c.in_ok-checker.checker
    c.args.proof.lines c.args.prop c.bad.result
    c.self.view_is c.in_ok-checker.ensures.loaded c.bad.ensures.exact in
    on_ok_weaker c.take_proof.result
    (λ e. covered_by_proof c.args.coded.now c.in_ok-checker.ensures.sound c.args.self.now c.self.inside.task c.self.inside.clauses
    c.args.proof.lines c.args.prop
    c.self.view_is c.self.invariant c.requires.task (sym same ∙ e))
    c.take_proof.ensures.accepted

pub returns-clause-accepted : goal.returns-clause-accepted
returns-clause-accepted c =
    let same = cover_refusal_is c.args.coded.now c.args.self.now c.self.inside.task c.self.inside.clauses c.in_ok-checker.checker
    c.args.proof.lines c.args.prop c.bad.result
    c.self.view_is c.in_ok-checker.ensures.loaded c.bad.ensures.exact in
    on_ok_weaker c.take_proof.result (λ e. sym same ∙ e) c.take_proof.ensures.accepted

pub returns-clause-refused : goal.returns-clause-refused
returns-clause-refused c =
    let same = cover_refusal_is c.args.coded.now c.args.self.now c.self.inside.task c.self.inside.clauses c.in_ok-checker.checker
    c.args.proof.lines c.args.prop c.bad.result
    c.self.view_is c.in_ok-checker.ensures.loaded c.bad.ensures.exact in
    IfRefused-weaker c.take_proof.result
    (λ r. proof_refusal 0 c.in_ok-checker.checker.vars c.in_ok-checker.checker.list c.args.proof.lines
    (c.bad.result ∷ []) ≡ Some r)
    (λ r. proof_refusal 0 (c.args.coded.now.design.vars + 1) (cover_clauses c.args.coded.now c.args.self.now.clauses)
    c.args.proof.lines
    (bad_literal (circuit c.args.coded.now.design) c.args.prop ∷ []) ≡ Some r)
    (λ r e. sym same ∙ e) c.take_proof.ensures.refused
