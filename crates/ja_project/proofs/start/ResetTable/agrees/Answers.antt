use Rattle.std.proofs.Common.{Option, ap, ◌∙◌}
use Rattle.aig_model.specs.declared.netlist.Reset.{Reset}
use Rattle.ja_project.proofs.ResetLemmas.{sets, agrees}
use Rattle.ja_project.proofs.start.ResetTable.agrees.Goals as goal

pub returns-in-Some : goal.returns-in-Some
returns-in-Some c =
    c.sets.ensures ∙ ap (λ (o : Option Reset). sets o c.args.lit) c.in-Some.ensures.value
    ∙ agrees c.args.self.now c.in-Some.ensures.sound c.args.lit

pub returns-in-None : goal.returns-in-None
returns-in-None c =
    ap (λ (o : Option Reset). sets o c.args.lit) c.in-None.ensures.value
    ∙ agrees c.args.self.now c.in-None.ensures.sound c.args.lit
