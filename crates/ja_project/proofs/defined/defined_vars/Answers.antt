use Rattle.ja_project.proofs.DefinedLemmas.{marked_is_defined}
use Rattle.ja_project.proofs.defined.defined_vars.Goals as goal

pub returns-clause-marked : goal.returns-clause-marked
returns-clause-marked c =
    marked_is_defined c.args.design.now c.in_ok-defined.defined c.mark_inputs.new.defined c.mark_latches.new.defined
    c.mark_gates.new.defined _ c.in_ok-defined.ensures c.mark_inputs.ensures c.mark_latches.ensures c.mark_gates.ensures
