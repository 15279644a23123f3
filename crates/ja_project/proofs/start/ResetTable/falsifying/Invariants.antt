use Rattle.std.proofs.Common.{◌≡◌, ◌<◌, ℕ, Some, length, slice_get}
use Rattle.ja_base.specs.Literals.{bit}
use Rattle.aig_model.specs.declared.netlist.Latch.{Latch}
use Rattle.aig_model.specs.Netlist.{latch_of}
use Rattle.ja_project.specs.Start.{falsifying_bit}
use Rattle.ja_project.proofs.start.ResetTable.falsifying.Given as goal

abbrev pub invariant-loop-at : goal.invariant-loop-at
invariant-loop-at l = record {
  width : length l.row ≡ length l.design.latches;
  bits : (k : ℕ) (latch : Latch) → k < l.at → slice_get l.design.latches k ≡ Some latch
      → bit l.row k ≡ falsifying_bit l.clause (latch_of latch);
}
