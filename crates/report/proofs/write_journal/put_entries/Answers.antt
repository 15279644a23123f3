use Rattle.std.proofs.Common.{◌∙◌}
use Rattle.report.specs.Entries.{IsSmallEntry}
use Rattle.report.proofs.WriteLemmas.{count_more, entries_more, all_more}
use Rattle.report.proofs.write_journal.put_entries.Goals as goal

pub loop-entry-preserved : goal.loop-entry-preserved
loop-entry-preserved c =
    let entry = c.entry-item.result in
    let i = c.loop-entry.entry-index in
    let less = c.loop-entry-test.true in
    let is = c.entry-item.is in
    let upto = c.count_behind-upto.ensures ∙ count_more c.requires.0 c.args.journal.now i c.loop-entry.upto entry less is
    c.requires.1 c.loop-entry.invariant.upto in
    record {
      upto = upto;
      text = entries_more c.args.text.now c.loop-entry.text _ c.args.journal.now i c.count_behind-upto.result entry less is
          c.loop-entry.invariant.text upto c.in_ok-put_entry.ensures.text;
      small = all_more IsSmallEntry c.args.journal.now i entry less is c.loop-entry.invariant.small
          c.in_ok-put_entry.ensures.small;
    }
