use Rattle.std.proofs.Common.{Option, ap, ◌∙◌}
use Rattle.std.specs.Option.{is_some}
use Rattle.aig_model.specs.declared.netlist.Reset.{Reset}
use Rattle.ja_project.proofs.ResetLemmas.{is_over}
use Rattle.ja_project.proofs.start.ResetTable.is_over_latch.Goals as goal

pub returns : goal.returns
returns c = c.is_some.ensures ∙ ap (λ (o : Option Reset). is_some o) c.reset_of.ensures.value ∙ is_over c.args.self.now c.args.lit
