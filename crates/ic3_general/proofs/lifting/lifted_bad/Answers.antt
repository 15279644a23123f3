use Rattle.std.proofs.Common.{◌≡◌, ◌+◌, ℕ, Bool, List, true, false, [], ◌∷◌, sym, ap, ◌∙◌, subst}
use Rattle.std.specs.Prelude.{All}
use Rattle.std.proofs.lemmas.List.Elements.{All-cons}
use Rattle.ja_base.specs.Literals.{value}
use Rattle.ja_base.specs.Circuit.{bad_literal}
use Rattle.ja_base.specs.Clauses.{IsBelow}
use Rattle.ja_base.specs.Valuation.{IsValuation, latch_row, input_row}
use Rattle.aig_model.specs.Netlist.{Netlist, circuit}
use Rattle.aig_model.specs.Task.{VerificationTask, problem}
use Rattle.ja_project.specs.Latches.{is_foreign}
use Rattle.ic3_general.specs.declared.aim.Aim.{Aim}
use Rattle.ic3_general.specs.Aims.{respecting}
use Rattle.ic3_general.specs.Chains.{AllLead}
use Rattle.ic3_general.specs.Cubes.{IsOutside}
use Rattle.ic3_general.specs.Lifting.{MakesSure}
use Rattle.ic3_general.proofs.TargetLemmas.{cube_leads_last}
use Rattle.ic3_general.proofs.lifting.lifted_bad.Goals as goal

pub lift-requires-clause-step : goal.lift-requires-clause-step
lift-requires-clause-step c =
    let vals : List Bool = c.args.vals.now in
    let same = c.design-design.ensures.value ∙ ap (λ (t : VerificationTask). t.design) c.task.ensures.value in
    subst (λ (n : Netlist). IsValuation (circuit n) (latch_row (circuit n) vals) (input_row (circuit n) vals) vals) (sym same)
    c.requires.step

pub lift-requires-clause-below : goal.lift-requires-clause-below
lift-requires-clause-below c =
    let same = c.design-design.ensures.value ∙ ap (λ (t : VerificationTask). t.design) c.task.ensures.value in
    subst (λ (n : Netlist). IsBelow (n.vars + 1) c.as_slice.result.now) (sym same)
    (subst (IsBelow (c.args.coded.now.design.vars + 1)) (sym c.as_slice.ensures.value) c.in_ok-target.ensures.below)

pub lift-requires-clause-met : goal.lift-requires-clause-met
lift-requires-clause-met c =
    let t : VerificationTask = c.args.coded.now in
    let vals : List Bool = c.args.vals.now in
    subst (All (λ l. value vals l ≡ true)) (sym (c.as_slice.ensures.value ∙ c.in_ok-target.ensures.value))
    (All-cons (λ l. value vals l ≡ true) (bad_literal (circuit t.design) c.args.aim.now.prop) t.design.constraints c.requires.bad
    c.requires.constrained)

pub returns-clause-own : goal.returns-clause-own
returns-clause-own c =
    let same = c.design-design.ensures.value ∙ ap (λ (t : VerificationTask). t.design) c.task.ensures.value in
    subst (λ (n : Netlist). is_foreign (circuit n) c.in_ok-clause.clause ≡ false) same c.in_ok-clause.ensures.own

pub returns-clause-around : goal.returns-clause-around
returns-clause-around c =
    let same = c.design-design.ensures.value ∙ ap (λ (t : VerificationTask). t.design) c.task.ensures.value in
    subst (λ (n : Netlist). IsOutside (circuit n) c.in_ok-clause.clause (latch_row (circuit n) c.args.vals.now)) same
    c.in_ok-clause.ensures.around

pub returns-clause-leads : goal.returns-clause-leads
returns-clause-leads c =
    let a : Aim = c.args.aim.now in
    let t : VerificationTask = respecting c.args.coded.now a.respect in
    let vals : List Bool = c.args.vals.now in
    let same = c.design-design.ensures.value ∙ ap (λ (t : VerificationTask). t.design) c.task.ensures.value in
    let target = c.as_slice.ensures.value ∙ c.in_ok-target.ensures.value in
    let makes = subst (λ (ls : List ℕ). MakesSure (circuit t.design) vals ls c.in_ok-clause.clause) target
    (subst (λ (n : Netlist). MakesSure (circuit n) vals c.as_slice.result.now c.in_ok-clause.clause) same
    c.in_ok-clause.ensures.sure) in
    let input = c.in_ok-input.ensures ∙ ap (λ (n : Netlist). input_row (circuit n) vals) same in
    let chain = c.in_ok-chain.ensures ∙ ap (λ (x : List Bool). x ∷ []) input in
    subst (λ (xs : List (List Bool)). AllLead (problem t) a.prop c.in_ok-clause.clause xs) (sym chain)
    (cube_leads_last t c.task.ensures.sound c.requires.aim.wide vals a.prop (bad_literal (circuit t.design) a.prop)
    c.in_ok-clause.clause (λ v one. one) makes)
