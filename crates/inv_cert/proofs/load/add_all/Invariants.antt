use Rattle.std.proofs.Common.{take}
use Rattle.inv_cert.specs.Taken.{Loads}
use Rattle.inv_cert.proofs.load.add_all.Given as goal

abbrev pub invariant-loop-clause : goal.invariant-loop-clause
invariant-loop-clause l = Loads l.fn.checker (take l.clause-index l.clauses) l.checker
