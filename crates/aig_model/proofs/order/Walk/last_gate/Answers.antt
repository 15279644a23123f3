use Rattle.std.proofs.Common.{sym, ◌∙◌}
use Rattle.std.proofs.lemmas.Option.{slice_get_within}
use Rattle.aig_model.proofs.WalkTable.{reached_within}
use Rattle.aig_model.proofs.WalkSteps.{last_gate_is, reached_at}
use Rattle.aig_model.proofs.order.Walk.last_gate.Goals as goal

pub standing-requires : goal.standing-requires
standing-requires c =
    reached_within c.args.self.now.standings.items c.last.result (c.requires.walk.path.reached _ c.last.result c.last.ensures)

pub bounds-gates-at : goal.bounds-gates-at
bounds-gates-at c =
    let d = c.requires.walk.table.reached c.last.result c.in-Reached.at (sym c.standing.ensures ∙ c.in-Reached.is) in
    slice_get_within c.args.gates.now c.in-Reached.at d.gate d.is

pub unreachable-requires : goal.unreachable-requires
unreachable-requires c =
    let at = reached_at _ (c.requires.walk.path.reached _ c.last.result c.last.ensures) in
    c.in_default.not-Reached at.0 (c.standing.ensures ∙ at.1)

pub returns : goal.returns
returns c =
    let d = c.requires.walk.table.reached c.last.result c.in-Reached.at (sym c.standing.ensures ∙ c.in-Reached.is) in
    last_gate_is c.args.gates.now c.args.self.now.path.items c.in-Reached.at c.last.result c.index-gates-at.result d
    c.index-gates-at.is c.last.ensures
