use Rattle.std.proofs.Common.{◌++◌}
use Rattle.inv_cert.proofs.KnownLemmas.{IsJoinedTo}
use Rattle.inv_cert.proofs.join.fresh.Given as goal

abbrev pub invariant-loop-clause : goal.invariant-loop-clause
invariant-loop-clause l = IsJoinedTo l.fn.first l.fn.second l.clause-index (l.fn.first ++ l.added) l.known
