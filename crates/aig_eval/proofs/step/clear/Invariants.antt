use Rattle.std.proofs.Common.{◌≡◌, ℕ, ◌<◌, false, length, get_or}
use Rattle.aig_eval.proofs.step.clear.Given as goal

abbrev pub invariant-loop-at : goal.invariant-loop-at
invariant-loop-at l = record {
  width : length l.vals ≡ length l.fn.vals;
  zeros : (k : ℕ) → k < l.at → get_or l.vals k false ≡ false;
}
