use Rattle.std.proofs.Common.{◌≡◌, ◌<◌, ◌+◌, ◌*◌, ℕ, false, true}
use Rattle.ja_base.specs.Literals.{bit}
use Rattle.sat_plain.proofs.trail.Trail.unset.Given as goal

abbrev pub invariant-loop-var : goal.invariant-loop-var
invariant-loop-var l =
    (k : ℕ) → k < l.var → bit l.self.values (2 * k) ≡ false → bit l.self.values (2 * k + 1) ≡ true
