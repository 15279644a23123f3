use Rattle.std.proofs.Common.{◌≡◌, ◌<◌, ◌≤◌, ◌*◌, ℕ, false, length}
use Rattle.ja_base.specs.Literals.{bit}
use Rattle.sat_plain.proofs.trail.Trail.row.Given as goal

abbrev pub invariant-loop-var : goal.invariant-loop-var
invariant-loop-var l =
    (length l.row ≡ l.self.vars) × ((k : ℕ) → k < l.var → bit l.row k ≡ bit l.self.values (2 * k))
    × ((k : ℕ) → l.var ≤ k → bit l.row k ≡ false)
