use Rattle.std.proofs.Common.{◌≡◌, ◌+◌, ℕ, List, true, [], ◌∷◌, ◌++◌, sym, ap, ◌∙◌, subst}
use Rattle.ja_base.specs.Clauses.{IsBelow, IsSetOf}
use Rattle.aig_model.specs.Netlist.{Netlist, circuit}
use Rattle.ja_project.specs.Start.{agrees_with_reset, starts}
use Rattle.ja_project.proofs.ForeignLemmas.{own_is_below}
use Rattle.ic3_general.proofs.CutLemmas.{cut_by_core, cut_with_start, own_of_part, rested_among}
use Rattle.ic3_general.proofs.cutting.cut.Goals as goal

pub starts-requires : goal.starts-requires
starts-requires c =
    let n = c.args.coded.now.design in
    let core : List ℕ = c.args.core.now in
    let clause : List ℕ = c.args.clause.now in
    let part : List ℕ = c.in_ok-part.part in
    let set = subst (λ (ls : List ℕ). IsSetOf ls part) (c.as_slice.ensures.value ∙ c.in_ok-lits.ensures)
    c.in_ok-part.ensures.set in
    subst (λ (m : Netlist). IsBelow (m.vars + 1) part) (sym c.requires.table)
    (own_is_below n c.task-task.ensures.sound part (own_of_part (circuit n) part clause
    (λ l h. rested_among n core clause c.requires.own l ((set.members l).0 h)) c.requires.own))

pub returns-then-starts : goal.returns-then-starts
returns-then-starts c =
    let n = c.args.coded.now.design in
    let part : List ℕ = c.in_ok-part.part in
    let set = subst (λ (ls : List ℕ). IsSetOf ls part) (c.as_slice.ensures.value ∙ c.in_ok-lits.ensures)
    c.in_ok-part.ensures.set in
    cut_by_core n c.args.core.now c.args.clause.now c.requires.own part set
    (subst (λ (m : Netlist). starts (circuit m) part ≡ true) c.requires.table (sym c.starts.ensures ∙ c.if-starts.true))

pub starting_literal-requires-clause-below : goal.starting_literal-requires-clause-below
starting_literal-requires-clause-below c =
    subst (λ (m : Netlist). IsBelow (m.vars + 1) c.args.clause.now) (sym c.requires.table)
    (own_is_below c.args.coded.now.design c.task-task.ensures.sound c.args.clause.now c.requires.own)

pub starting_literal-requires-clause-begins : goal.starting_literal-requires-clause-begins
starting_literal-requires-clause-begins c =
    subst (λ (m : Netlist). starts (circuit m) c.args.clause.now ≡ true) (sym c.requires.table) c.requires.begins

pub returns : goal.returns
returns c =
    let n = c.args.coded.now.design in
    let part : List ℕ = c.in_ok-part-2.part in
    let lit : ℕ = c.in_ok-starting_literal.field-0 in
    let lits = c.as_slice-2.ensures.value ∙ c.in_ok-push.ensures.ok
    ∙ ap (λ (ls : List ℕ). ls ++ lit ∷ []) c.in_ok-lits.ensures in
    let set = subst (λ (ls : List ℕ). IsSetOf ls part) lits c.in_ok-part-2.ensures.set in
    cut_with_start n c.args.core.now c.args.clause.now c.requires.own part lit set c.in_ok-starting_literal.ensures.among
    (subst (λ (m : Netlist). agrees_with_reset (circuit m) lit ≡ true) c.requires.table c.in_ok-starting_literal.ensures.starts)
