use Rattle.std.proofs.Common.{◌≡◌, ◌-◌, ◌++◌}
use Rattle.std.specs.List.{flat_map, range_with_len}
use Rattle.ja_project.specs.CodedClauses.{undefined_clauses}
use Rattle.ja_project.proofs.clauses.add_all_undefined.Given as goal

abbrev pub invariant-loop-var : goal.invariant-loop-var
invariant-loop-var l = l.clauses ≡ l.fn.clauses ++ flat_map (undefined_clauses l.design) (range_with_len 1 (l.var - 1))
