use Rattle.std.proofs.Common.{◌≡◌, ◌+◌, length}
use Rattle.aig_model.specs.Order.{AreWaiting}
use Rattle.aig_model.proofs.order.waiting_gates.Given as goal

abbrev pub invariant-loop-at : goal.invariant-loop-at
invariant-loop-at l =
    record {
      table : length l.standings.items ≡ l.vars + 1;
      waiting : AreWaiting l.gates l.at l.standings.items;
    }
