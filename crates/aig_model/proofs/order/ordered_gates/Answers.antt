use Rattle.std.proofs.Common.{length, refl, ◌∙◌}
use Rattle.std.proofs.lemmas.Option.{slice_get_read}
use Rattle.aig_model.proofs.WalkEnd.{done_from, met_more, least_cycle, whole_order}
use Rattle.aig_model.proofs.order.ordered_gates.Goals as goal

pub visit-requires-clause-within : goal.visit-requires-clause-within
visit-requires-clause-within c =
    let is = slice_get_read c.args.gates.now (length c.args.gates.now) c.loop-gate.gate-index c.gate-item.result refl
    c.loop-gate-test.true c.gate-item.is in
    rw c.var.ensures (c.loop-gate.invariant.walk.given.within c.loop-gate.gate-index c.gate-item.result is).lhs

pub loop-gate-preserved : goal.loop-gate-preserved
loop-gate-preserved c =
    let is = slice_get_read c.args.gates.now (length c.args.gates.now) c.loop-gate.gate-index c.gate-item.result refl
    c.loop-gate-test.true c.gate-item.is in
    record {
      walk = c.visit.ensures.walk;
      empty = c.visit.ensures.empty;
      met = met_more c.args.gates.now c.loop-gate.gate-index c.var.result c.loop-gate.walk c.visit.new.self c.gate-item.result is
          c.var.ensures c.loop-gate.invariant.met
          c.visit.ensures.met c.visit.ensures.visited;
      table = c.visit.ensures.table ∙ c.loop-gate.invariant.table;
    }

pub returns-in-Some-clause-refused : goal.returns-in-Some-clause-refused
returns-in-Some-clause-refused c =
    let done = done_from c.args.gates.now c.loop-gate.gate-index c.loop-gate.walk c.loop-gate.invariant.walk
    c.loop-gate.invariant.empty c.loop-gate.invariant.met c.loop-gate-test.false in
    least_cycle c.args.gates.now c.loop-gate.walk.standings.items c.loop-gate.walk.order.items done c.in-Some.var
    c.in-Some.ensures

pub returns-in-None-clause-order : goal.returns-in-None-clause-order
returns-in-None-clause-order c =
    let done = done_from c.args.gates.now c.loop-gate.gate-index c.loop-gate.walk c.loop-gate.invariant.walk
    c.loop-gate.invariant.empty c.loop-gate.invariant.met c.loop-gate-test.false in
    rw c.from_vec.ensures (whole_order c.args.gates.now c.loop-gate.walk.standings.items c.loop-gate.walk.order.items done
    c.in-None.ensures)
