use Rattle.report.specs.Forms.{Takes}
use Rattle.report.specs.Sections.{props_form}
use Rattle.report.proofs.read_props.take_props.Given as goal

abbrev pub invariant-loop-prop : goal.invariant-loop-prop
invariant-loop-prop l = Takes (props_form l.prop 0) l.bytes l.lines l.rest
