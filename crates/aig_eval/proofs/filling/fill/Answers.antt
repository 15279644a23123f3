use Rattle.aig_eval.proofs.PlaceLemmas.{own_vars}
use Rattle.aig_eval.proofs.ValuationLemmas.{filled}
use Rattle.aig_eval.proofs.filling.fill.Goals as goal

pub returns-clause-step : goal.returns-clause-step
returns-clause-step c =
    let n = c.args.d.now in
    filled n c.put_gates.ensures.sound (own_vars n c.put_gates.ensures.sound) c.args.row.now c.args.vals.now
    c.copy_inputs.new.vals c.copy_latches.new.vals
    c.put_gates.new.vals c.copy_inputs.ensures c.copy_latches.ensures c.put_gates.ensures.gates c.requires.vals

pub returns-clause-clear : goal.returns-clause-clear
returns-clause-clear c =
    let step = returns-clause-step c in
    record { width = step.width; rest = step.rest }
