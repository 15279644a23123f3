use Rattle.std.specs.Prelude.{All}
use Rattle.ja_base.specs.Clauses.{IsBelow}
use Rattle.check_closed.proofs.candidates.candidates_of.Given as goal

abbrev pub invariant-loop-line : goal.invariant-loop-line
invariant-loop-line l = All (IsBelow l.fn.vars) l.clauses
