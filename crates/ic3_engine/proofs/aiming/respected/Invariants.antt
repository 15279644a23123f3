use Rattle.std.proofs.Common.{◌≡◌, ℕ, ◌<◌, ◌&&◌, length}
use Rattle.ja_base.specs.Literals.{bit}
use Rattle.ic3_engine.proofs.aiming.respected.Given as goal

abbrev pub invariant-loop-prop : goal.invariant-loop-prop
invariant-loop-prop l = (length l.bits.items ≡ l.prop)
    × ((q : ℕ) → q < l.prop → bit l.bits.items q ≡ (bit l.failed q && bit l.coded.expected q))
