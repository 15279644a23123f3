use Rattle.std.proofs.Common.{take}
use Rattle.inv_cert.specs.Known.{Knows}
use Rattle.inv_cert.proofs.join.known.Given as goal

abbrev pub invariant-loop-clause : goal.invariant-loop-clause
invariant-loop-clause l = Knows (take l.clause-index l.clauses) l.known
