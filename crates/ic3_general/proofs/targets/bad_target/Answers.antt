use Rattle.std.proofs.Common.{◌≡◌, ◌+◌, ℕ, List, [], ◌∷◌, ◌++◌, sym, ap, ◌∙◌, subst}
use Rattle.ja_base.specs.Clauses.{IsBelow}
use Rattle.aig_model.specs.Netlist.{Netlist}
use Rattle.aig_model.specs.Task.{VerificationTask}
use Rattle.ic3_general.proofs.TargetLemmas.{bad_target_below}
use Rattle.ic3_general.proofs.targets.bad_target.Goals as goal

pub returns-clause-below : goal.returns-clause-below
returns-clause-below c =
    let t : VerificationTask = c.args.coded.now in
    let same = c.design.ensures.value ∙ ap (λ (t : VerificationTask). t.design) c.task.ensures.value in
    let first : c.push.new.self ≡ c.bad.result ∷ [] =
    c.in_ok-push.ensures.ok ∙ ap (λ (xs : List ℕ). xs ++ c.bad.result ∷ []) c.new-lits.ensures in
    let all : c.push_constraints.new.lits ≡ c.bad.result ∷ t.design.constraints =
    c.in_ok-push_constraints.ensures ∙ ap (λ (xs : List ℕ). xs ++ c.design.result.now.constraints) first
    ∙ ap (λ (n : Netlist). c.bad.result ∷ n.constraints) same in
    subst (IsBelow (t.design.vars + 1)) (sym all)
    (bad_target_below t.design c.bad.result c.task.ensures.sound c.bad.ensures.below)
