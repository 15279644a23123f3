use Rattle.std.proofs.Common.{◌≡◌, false, Bool, List, sym, ap, subst, ◌∙◌, arith}
use Rattle.std.specs.List.{list_any}
use Rattle.std.proofs.lemmas.Option.{slice_get_within}
use Rattle.ja_base.specs.Invariants.{latch_value}
use Rattle.ja_base.specs.Runs.{IsInitial}
use Rattle.aig_model.specs.Netlist.{Netlist, circuit}
use Rattle.ja_project.specs.Start.{falsifying_bit, falsifying_row}
use Rattle.ja_project.proofs.StartLemmas.{made_of_latches, falsifying_is_initial, falsifying_is_outside}
use Rattle.ja_project.proofs.start.ResetTable.falsifying.Goals as goal

pub returns-clause-value : goal.returns-clause-value
returns-clause-value c =
    let design : Netlist = c.design-design.result.now in
    let same : design ≡ c.args.self.now = c.design-design.ensures.value ∙ c.self.view_is in
    made_of_latches design.latches (falsifying_bit c.args.clause.now) c.loop-at.row c.loop-at.invariant.width
    (λ k latch is. c.loop-at.invariant.bits k latch (omega (arith, slice_get_within design.latches k latch is)) is)
    ∙ ap (λ (n : Netlist). falsifying_row (circuit n) c.args.clause.now) same

pub returns-clause-initial : goal.returns-clause-initial
returns-clause-initial c =
    subst (IsInitial (circuit c.args.self.now)) (sym (returns-clause-value c))
    (falsifying_is_initial (circuit c.args.self.now) c.args.clause.now)

pub returns-clause-outside : goal.returns-clause-outside
returns-clause-outside c =
    let P : List Bool → Type 0 = λ row. list_any (latch_value (circuit c.args.self.now).latches row) c.args.clause.now ≡ false in
    subst P (sym (returns-clause-value c))
    (falsifying_is_outside (circuit c.args.self.now) c.args.clause.now c.requires.own c.requires.begins)
