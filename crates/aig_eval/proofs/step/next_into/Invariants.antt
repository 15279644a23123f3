use Rattle.std.proofs.Common.{◌≡◌, ℕ, ◌<◌, Some, length, slice_get}
use Rattle.ja_base.specs.Literals.{bit, value}
use Rattle.aig_model.specs.declared.netlist.Latch.{Latch}
use Rattle.aig_eval.proofs.step.next_into.Given as goal

abbrev pub invariant-loop-at : goal.invariant-loop-at
invariant-loop-at l = record {
  width : length l.latches ≡ length l.d.latches;
  next : (k : ℕ) (latch : Latch) → k < l.at → slice_get l.d.latches k ≡ Some latch → bit l.latches k ≡ value l.vals latch.next;
}
