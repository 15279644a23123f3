use Rattle.std.proofs.Common.{◌&&◌, ap₂, arith}
use Rattle.aig_eval.proofs.PlaceLemmas.{own_vars}
use Rattle.aig_eval.proofs.PutLemmas.{PutsGates-more}
use Rattle.aig_eval.proofs.ValuationLemmas.{new_is_within}
use Rattle.aig_eval.proofs.step.put_gates.Goals as goal

pub loop-at-preserved : goal.loop-at-preserved
loop-at-preserved c =
    let n = c.args.d.now in
    let sound = c.gates-at-end.ensures.sound in
    let gate = c.gate-gate.result in
    rw (c.set.ensures, c.number.ensures, c.var.ensures)
    (PutsGates-more n sound (own_vars n sound) c.loop-at.at gate c.gate-gate.ensures c.args.vals.now c.loop-at.vals
    (c.lit_of.result && c.lit_of-in-loop-at.result)
    (omega (arith, new_is_within n.vars gate.lhs (sound.gates c.loop-at.at gate c.gate-gate.ensures).lhs))
    (ap₂ (λ x y. x && y) c.lit_of.ensures c.lit_of-in-loop-at.ensures) c.loop-at.invariant)
