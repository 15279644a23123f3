use Rattle.std.proofs.Common.{◌≡◌, ℕ, ◌<◌, length}
use Rattle.ja_base.specs.Literals.{bit}
use Rattle.sat_plain.proofs.plain_probe.put_front.Given as goal

abbrev pub invariant-loop-at : goal.invariant-loop-at
invariant-loop-at l =
    record {
      width : length l.to ≡ length l.initial.to;
      same : (u : ℕ) → u < l.at → bit l.to u ≡ bit l.from u;
    }
