use Rattle.std.proofs.Common.{◌≡◌, ◌<◌, ℕ, length}
use Rattle.ja_base.specs.Literals.{bit, variable, value}
use Rattle.ic3_general.proofs.sure.put_values.Given as goal

abbrev pub invariant-loop-var : goal.invariant-loop-var
invariant-loop-var l = record {
  width : length l.sure ≡ length l.fn.sure;
  put : (m : ℕ) → variable m < l.var → bit l.sure m ≡ value l.vals m;
}
