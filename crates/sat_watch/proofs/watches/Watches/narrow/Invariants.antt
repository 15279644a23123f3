use Rattle.std.proofs.Common.{◌≡◌}
use Rattle.sat_watch.proofs.watches.Watches.narrow.Given as goal

abbrev pub invariant-loop-lit : goal.invariant-loop-lit
invariant-loop-lit l =
    record {
      lists : l.self-inside.lists.items ≡ l.initial.self-inside.lists.items;
      pairs : l.self-inside.pairs.items ≡ l.initial.self-inside.pairs.items;
    }
