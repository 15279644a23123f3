use Rattle.std.proofs.Common.{ℕ, List, subst}
use Rattle.ja_base.specs.Clauses.{IsSetOf}
use Rattle.aig_model.specs.Netlist.{circuit}
use Rattle.ic3_general.proofs.CubeLemmas.{cube_is_own, cube_has_row}
use Rattle.ic3_general.proofs.DropLemmas.{among_first, lifted_makes, lifted_is_least}
use Rattle.ic3_general.proofs.dropping.lift.Goals as goal

pub needed_literals-requires-clause-own : goal.needed_literals-requires-clause-own
needed_literals-requires-clause-own c =
    cube_is_own c.args.design.now c.in_ok-first.ensures.sound c.args.vals.now c.in_ok-first.first c.in_ok-first.ensures.among

pub returns-clause-own : goal.returns-clause-own
returns-clause-own c =
    let set = subst (λ (ls : List ℕ). IsSetOf ls c.in_ok-clause.clause) c.as_slice.ensures.value c.in_ok-clause.ensures.set in
    cube_is_own c.args.design.now c.in_ok-first.ensures.sound c.args.vals.now c.in_ok-clause.clause
    (λ l h. c.in_ok-first.ensures.among l (among_first (circuit c.args.design.now) c.args.vals.now c.args.target.now
    c.in_ok-first.first c.in_ok-kept.kept c.in_ok-clause.clause c.needed_literals.new.sure set c.in_ok-kept.ensures l h))

pub returns-clause-around : goal.returns-clause-around
returns-clause-around c =
    let set = subst (λ (ls : List ℕ). IsSetOf ls c.in_ok-clause.clause) c.as_slice.ensures.value c.in_ok-clause.ensures.set in
    cube_has_row c.args.design.now c.in_ok-first.ensures.sound c.args.vals.now c.in_ok-clause.clause
    (λ l h. c.in_ok-first.ensures.among l (among_first (circuit c.args.design.now) c.args.vals.now c.args.target.now
    c.in_ok-first.first c.in_ok-kept.kept c.in_ok-clause.clause c.needed_literals.new.sure set c.in_ok-kept.ensures l h))

pub returns-clause-sure : goal.returns-clause-sure
returns-clause-sure c =
    let set = subst (λ (ls : List ℕ). IsSetOf ls c.in_ok-clause.clause) c.as_slice.ensures.value c.in_ok-clause.ensures.set in
    lifted_makes (circuit c.args.design.now) c.args.vals.now c.args.target.now c.in_ok-first.first c.in_ok-kept.kept
    c.in_ok-clause.clause c.needed_literals.new.sure set c.in_ok-kept.ensures

pub returns-clause-least : goal.returns-clause-least
returns-clause-least c =
    let set = subst (λ (ls : List ℕ). IsSetOf ls c.in_ok-clause.clause) c.as_slice.ensures.value c.in_ok-clause.ensures.set in
    lifted_is_least (circuit c.args.design.now) c.args.vals.now c.args.target.now c.in_ok-first.first c.in_ok-kept.kept
    c.in_ok-clause.clause c.needed_literals.new.sure set c.in_ok-kept.ensures
