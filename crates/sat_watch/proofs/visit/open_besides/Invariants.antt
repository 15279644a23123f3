use Rattle.std.proofs.Common.{◌≡◌, ◌≢◌, ℕ, true, take}
use Rattle.std.specs.List.{Contains}
use Rattle.ja_base.specs.Literals.{bit, negated}
use Rattle.sat_watch.proofs.visit.open_besides.Given as goal

abbrev pub invariant-loop-lit : goal.invariant-loop-lit
invariant-loop-lit l =
    (m : ℕ) → Contains (take l.lit-index l.lits) m → m ≢ l.other → bit l.values (negated m) ≡ true
