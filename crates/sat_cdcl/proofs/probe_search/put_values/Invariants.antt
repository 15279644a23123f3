use Rattle.std.proofs.Common.{◌≡◌, ℕ, ◌*◌, ◌<◌, length}
use Rattle.ja_base.specs.Literals.{bit}
use Rattle.sat_cdcl.proofs.probe_search.put_values.Given as goal

abbrev pub invariant-loop-at : goal.invariant-loop-at
invariant-loop-at l =
    record {
      width : length l.row ≡ length l.initial.row;
      same : (u : ℕ) → u < l.at → bit l.row u ≡ bit l.trail.values (2 * u);
    }
