use Rattle.std.proofs.Common.{sym, ap, subst}
use Rattle.aig_model.specs.Netlist.{circuit}
use Rattle.aig_eval.specs.Run.{Standing, RunsTo}
use Rattle.aig_eval.proofs.RunLemmas.{RunsTo-push}
use Rattle.aig_eval.proofs.runner.Runner.step.Goals as goal

pub returns-clause-run : goal.returns-clause-run
returns-clause-run c = λ first rows steps r.
    let n = c.args.d.now in
    let opened = ap (λ (s : Standing). s.state) c.self.view_is in
    RunsTo-push (circuit n) first rows steps c.self.inside.state c.args.inputs.now c.evaluate.new.vals c.next_into.new.latches
    (subst (λ s. RunsTo (circuit n) first rows steps s) (sym opened) r) c.evaluate.ensures c.next_into.ensures
