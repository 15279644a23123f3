use Rattle.std.proofs.Common.{◌≡◌, ◌++◌, take}
use Rattle.std.specs.List.{AllByRecursion}
use Rattle.report.specs.declared.parts.PropLine.{PropLine}
use Rattle.report.specs.Entries.{IsSmallMark}
use Rattle.report.specs.Reports.{prop_lines}
use Rattle.report.proofs.write.put_props.Given as goal

abbrev pub invariant-loop-prop : goal.invariant-loop-prop
invariant-loop-prop l = record {
  text : l.text ≡ l.fn.text ++ prop_lines 0 (take l.prop l.lines);
  small : AllByRecursion
      (λ (x : PropLine). IsSmallMark x.mark) (take l.prop l.lines);
}
