use Rattle.std.proofs.Common.{◌≡◌, ◌<◌, ℕ, Some, length, slice_get}
use Rattle.ja_base.specs.Literals.{bit, variable}
use Rattle.ic3_general.proofs.rows.input_of.Given as goal

abbrev pub invariant-loop-at : goal.invariant-loop-at
invariant-loop-at l = record {
  width : length l.row ≡ length l.design.inputs;
  bits : (k lit : ℕ) → k < l.at → slice_get l.design.inputs k ≡ Some lit → bit l.row k ≡ bit l.vals (variable lit);
}
