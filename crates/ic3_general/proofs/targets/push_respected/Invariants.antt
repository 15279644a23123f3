use Rattle.std.proofs.Common.{◌≡◌, ◌++◌}
use Rattle.std.specs.List.{flat_map, range_with_len}
use Rattle.ja_project.specs.CodedClauses.{held_literals_of}
use Rattle.ic3_general.specs.Aims.{respecting}
use Rattle.ic3_general.proofs.targets.push_respected.Given as goal

abbrev pub invariant-loop-prop : goal.invariant-loop-prop
invariant-loop-prop l = l.lits ≡ l.fn.lits ++ flat_map (held_literals_of (respecting l.coded l.respect)) (range_with_len 0 l.prop)
