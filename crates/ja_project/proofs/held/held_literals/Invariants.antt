use Rattle.std.proofs.Common.{◌≡◌}
use Rattle.std.specs.List.{flat_map, range_with_len}
use Rattle.ja_project.specs.CodedClauses.{held_literals_of}
use Rattle.ja_project.proofs.held.held_literals.Given as goal

abbrev pub invariant-loop-prop : goal.invariant-loop-prop
invariant-loop-prop l = l.held ≡ flat_map (held_literals_of l.task) (range_with_len 0 l.prop)
