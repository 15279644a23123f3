use Rattle.aig_eval.proofs.PlaceLemmas.{own_vars}
use Rattle.aig_eval.proofs.ValuationLemmas.{valuation}
use Rattle.aig_eval.proofs.step.evaluate.Goals as goal

pub returns : goal.returns
returns c =
    let n = c.args.d.now in
    valuation n c.put_gates.ensures.sound (own_vars n c.put_gates.ensures.sound) c.args.latches.now c.args.inputs.now
    c.args.vals.now c.put_inputs.new.vals c.put_latches.new.vals c.put_gates.new.vals
    c.requires.latches c.requires.inputs c.put_inputs.ensures c.put_latches.ensures c.put_gates.ensures.gates c.requires.vals
