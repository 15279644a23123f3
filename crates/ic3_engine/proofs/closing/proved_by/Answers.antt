use Rattle.std.proofs.Common.{ap, ◌∙◌}
use Rattle.ja_base.specs.Circuit.{Problem}
use Rattle.aig_model.specs.Netlist.{circuit}
use Rattle.aig_model.specs.Task.{problem}
use Rattle.inv_cert.specs.Closed.{ClosedList}
use Rattle.ic3_engine.proofs.CloseLemmas.{proved_covers}
use Rattle.ic3_engine.proofs.closing.proved_by.Goals as goal

pub invariant_of-result : goal.invariant_of-result
invariant_of-result c =
    let task = c.in_ok-list.ensures.task ∙ ap (λ (l : ClosedList). problem l.task) c.list.ensures.value ∙ c.requires.task in
    record {
      covered = proved_covers (circuit c.args.coded.now.design) (circuit c.in_ok-list.list.task.design) c.args.known.now
          c.in_ok-list.list.clauses c.args.prop c.requires.covers (ap (λ (q : Problem). q.circuit) task) c.requires.own
          (c.in_ok-list.ensures.clauses ∙ ap (λ (l : ClosedList). l.clauses) c.list.ensures.value);
    }
