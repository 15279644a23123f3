use Rattle.std.proofs.Common.{ℕ, ◌<◌}
use Rattle.sign_task.specs.Underway.{IsUnderway, IsHaltedAt, KeepsMarks}
use Rattle.sign_task.proofs.halting.halt_all.Given as goal

abbrev pub invariant-loop-prop : goal.invariant-loop-prop
invariant-loop-prop l = record {
  underway : IsUnderway l.coded l.terms l.board;
  kept : KeepsMarks l.fn.board l.board;
  below : (p : ℕ) → p < l.prop → IsHaltedAt l.coded l.board p;
}
