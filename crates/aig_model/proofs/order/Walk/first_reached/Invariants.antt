use Rattle.std.proofs.Common.{◌≡◌, ℕ, ◌<◌, false}
use Rattle.aig_model.specs.Order.{standing_of, is_reached}
use Rattle.aig_model.proofs.order.Walk.first_reached.Given as goal

-- nothing was reached so far
abbrev pub invariant-loop-var : goal.invariant-loop-var
invariant-loop-var l = (k : ℕ) → k < l.var → is_reached (standing_of l.self.standings.items k) ≡ false
