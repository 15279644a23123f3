use Rattle.std.proofs.Common.{sym}
use Rattle.std.proofs.lemmas.Option.{get_or_from_slice_get, slice_get_within}
use Rattle.report.specs.declared.parts.PropLine.{PropLine}
use Rattle.report.specs.Entries.{IsSmallMark}
use Rattle.report.proofs.WriteLemmas.{props_more, all_more}
use Rattle.report.proofs.write.put_props.Goals as goal

pub loop-prop-preserved : goal.loop-prop-preserved
loop-prop-preserved c =
    let line = c.get.result.now in
    let less = slice_get_within c.args.lines.now c.loop-prop.prop line c.get.ensures in
    let is = sym (get_or_from_slice_get c.args.lines.now c.loop-prop.prop line line c.get.ensures) in
    record {
      text = props_more c.args.text.now c.loop-prop.text _ c.args.lines.now c.loop-prop.prop line less is
          c.loop-prop.invariant.text c.in_ok-put_prop.ensures.text;
      small = all_more (λ (l : PropLine). IsSmallMark l.mark) c.args.lines.now c.loop-prop.prop line less is
          c.loop-prop.invariant.small c.in_ok-put_prop.ensures.small;
    }
