use Rattle.report.proofs.JournalLemmas.{HasEntries}
use Rattle.report.proofs.read_journal.take_entries.Given as goal

abbrev pub invariant-loop-done : goal.invariant-loop-done
invariant-loop-done l = HasEntries l.props l.clauses l.count l.bytes l.done l.from l.journal l.rest
