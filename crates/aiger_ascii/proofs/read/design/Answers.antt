use Rattle.aiger_ascii.proofs.RefusalLemmas.{late_refusal}
use Rattle.aiger_ascii.proofs.read.design.Goals as goal

pub named-requires : goal.named-requires
named-requires c = late_refusal c.args.parts c.in-Err-Refused.refusal c.requires.once
    (rw c.in-Err-Refused.field-0-is at c.in-Err-Refused.ensures.refused)
