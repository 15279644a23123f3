use Rattle.std.proofs.Common.{◌≡◌}
use Rattle.report.specs.JournalLines.{between}
use Rattle.report.proofs.read_journal.between.Given as goal

abbrev pub invariant-loop-at : goal.invariant-loop-at
invariant-loop-at l = l.added ≡ between l.clauses l.from l.at
