use Rattle.std.proofs.Common.{◌≡◌, ◌+◌, ℕ, List, ◌++◌, sym, ap, ◌∙◌, subst}
use Rattle.ja_base.specs.Clauses.{IsBelow}
use Rattle.aig_model.specs.Netlist.{Netlist}
use Rattle.aig_model.specs.Task.{VerificationTask}
use Rattle.ja_project.specs.CodedClauses.{held_literals, negated_next}
use Rattle.ic3_general.specs.Aims.{respecting}
use Rattle.ic3_general.proofs.TargetLemmas.{step_target_below}
use Rattle.ic3_general.proofs.targets.step_target.Goals as goal

pub returns-clause-below : goal.returns-clause-below
returns-clause-below c =
    let t : VerificationTask = c.args.coded.now in
    let clause : List ℕ = c.args.clause.now in
    let same = c.design-design.ensures.value ∙ ap (λ (t : VerificationTask). t.design) c.task.ensures.value in
    let nexts : c.push_nexts.new.lits ≡ negated_next t.design clause =
    c.in_ok-push_nexts.ensures ∙ ap (λ (xs : List ℕ). xs ++ negated_next c.design-design.result.now clause) c.new-lits.ensures
    ∙ ap (λ (n : Netlist). negated_next n clause) same in
    let front : c.push_constraints.new.lits ≡ negated_next t.design clause ++ t.design.constraints =
    c.in_ok-push_constraints.ensures ∙ ap (λ (xs : List ℕ). xs ++ c.design-design.result.now.constraints) nexts
    ∙ ap (λ (n : Netlist). negated_next t.design clause ++ n.constraints) same in
    let chosen : VerificationTask = respecting t c.args.respect.now in
    let all : c.push_respected.new.lits ≡ (negated_next t.design clause ++ t.design.constraints) ++ held_literals chosen =
    c.in_ok-push_respected.ensures ∙ ap (λ (xs : List ℕ). xs ++ held_literals chosen) front in
    subst (IsBelow (t.design.vars + 1)) (sym all) (step_target_below chosen clause c.task.ensures.sound)
