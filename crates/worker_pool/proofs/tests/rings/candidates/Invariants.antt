use Rattle.std.specs.Prelude.{All}
use Rattle.ja_base.specs.Clauses.{IsBelow}
use Rattle.worker_pool.proofs.tests.rings.candidates.Given as goal

abbrev pub invariant-loop-numbers : goal.invariant-loop-numbers
invariant-loop-numbers l = All (IsBelow l.fn.vars) l.clauses
