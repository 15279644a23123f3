use Rattle.std.proofs.Common.{◌≡◌, ◌++◌, take}
use Rattle.std.specs.List.{AllByRecursion}
use Rattle.report.specs.Entries.{IsSmallEntry}
use Rattle.report.specs.Reports.{entry_lines}
use Rattle.report.proofs.WriteLemmas.{count_from}
use Rattle.report.proofs.write_journal.put_entries.Given as goal

abbrev pub invariant-loop-entry : goal.invariant-loop-entry
invariant-loop-entry l = record {
  upto : l.upto ≡ count_from 0 (take l.entry-index l.journal);
  text : l.text ≡ l.fn.text ++ entry_lines 0 (take l.entry-index l.journal);
  small : AllByRecursion IsSmallEntry
      (take l.entry-index l.journal);
}
