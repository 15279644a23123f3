use Rattle.std.proofs.Common.{◌≡◌, length, refl, ◌∙◌}
use Rattle.std.proofs.lemmas.List.{length-set}
use Rattle.std.proofs.lemmas.Option.{slice_get_read}
use Rattle.aig_model.specs.Netlist.{gate_var}
use Rattle.aig_model.proofs.WalkStart.{waiting_more}
use Rattle.aig_model.proofs.order.waiting_gates.Goals as goal

pub loop-at-preserved : goal.loop-at-preserved
loop-at-preserved c =
    let gate = c.index-gates-at.result in
    let e : c.number.result ≡ gate_var gate = c.number.ensures ∙ c.var.ensures in
    let is = slice_get_read c.args.gates.now (length c.args.gates.now) c.loop-at.at gate refl c.loop-at-test.true
    c.index-gates-at.is in
    let within = (c.requires.given.within c.loop-at.at gate is).lhs in
    rw e (record {
      table = rw length-set c.loop-at.invariant.table;
      waiting = waiting_more c.args.gates.now c.loop-at.at c.loop-at.standings.items gate c.loop-at.invariant.waiting is
          (rw c.loop-at.invariant.table within);
    })
