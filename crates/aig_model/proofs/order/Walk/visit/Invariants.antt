use Rattle.std.proofs.Common.{◌≡◌, false, length}
use Rattle.aig_model.specs.Order.{IsWalk, StaysMet, standing_of, is_waiting, steps_left}
use Rattle.aig_model.proofs.order.Walk.visit.Given as goal

abbrev pub invariant-loop-at : goal.invariant-loop-at
invariant-loop-at l =
    record {
      walk : IsWalk l.gates l.self;
      met : StaysMet l.fn.self l.self;
      visited : is_waiting (standing_of l.self.standings.items l.fn.var) ≡ false;
      table : length l.self.standings.items ≡ length l.fn.self.standings.items;
    }

abbrev pub decreases-loop-at : goal.decreases-loop-at
decreases-loop-at l = steps_left l.self
