use Rattle.std.proofs.Common.{◌≡◌, [], ◌∷◌, ◌++◌, Some, slice_get, take, subst}
use Rattle.aig_model.specs.Netlist.{circuit}
use Rattle.aig_eval.specs.Run.{RunsTo}
use Rattle.local_stim.proofs.StepLemmas.{rows_more}
use Rattle.local_stim.proofs.earlier.take_step.Goals as goal

pub returns-clause-run : goal.returns-clause-run
returns-clause-run c = λ steps r.
    let m = c.args.stim.now in
    let after = steps ++ c.step.new.self.values ∷ [] in
    let is = subst (λ rows. slice_get rows c.args.step ≡ Some c.get.result.now) c.inputs.ensures c.get.ensures in
    let run = rw c.design-design.ensures.value at c.step.ensures.run in
    subst (λ rows. RunsTo (circuit c.args.task.now.design) m.first rows after c.step.new.self.state)
    (rows_more m.inputs c.args.step c.get.result.now is)
    (run m.first (take c.args.step m.inputs) steps r)
