use Rattle.aig_model.proofs.RefusalLemmas.{designs_are_not_refused_lem}
use Rattle.aiger_binary.proofs.read.design.Goals as goal

pub unreachable-requires : goal.unreachable-requires
unreachable-requires c = designs_are_not_refused_lem c.args.parts c.in-Err-Refused.field-0-0 c.requires.sound
    (rw c.in-Err-Refused.field-0-is at c.in-Err-Refused.ensures.refused)
