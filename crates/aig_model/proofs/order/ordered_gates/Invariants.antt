use Rattle.std.proofs.Common.{◌≡◌, ◌+◌, length, []}
use Rattle.aig_model.specs.Order.{IsWalk, AreMet}
use Rattle.aig_model.proofs.order.ordered_gates.Given as goal

abbrev pub invariant-loop-gate : goal.invariant-loop-gate
invariant-loop-gate l =
    record {
      walk : IsWalk l.gates l.walk;
      empty : l.walk.path.items ≡ [];
      met : AreMet l.gates l.gate-index l.walk;
      table : length l.walk.standings.items ≡ l.vars + 1;
    }
