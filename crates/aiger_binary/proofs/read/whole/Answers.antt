use Rattle.aiger_binary.proofs.FileLemmas.{file_range, file_design, file_spells}
use Rattle.aiger_binary.proofs.RefusalLemmas.{tail_refusal}
use Rattle.aiger_binary.proofs.read.whole.Goals as goal

pub design-requires-clause-range : goal.design-requires-clause-range
design-requires-clause-range c = file_range c.args.bytes.now _ c.in_ok-header.ensures

pub design-requires-clause-sound : goal.design-requires-clause-sound
design-requires-clause-sound c = file_design c.args.bytes.now _ c.in_ok-header.ensures

pub returns-in-None-clause-found : goal.returns-in-None-clause-found
returns-in-None-clause-found c =
    (c.in_ok-header.parts, file_spells c.args.bytes.now _ c.in_ok-header.ensures c.in-None.ensures.none, c.in_ok-design.ensures)

pub returns-in-Some-clause-refused : goal.returns-in-Some-clause-refused
returns-in-Some-clause-refused c =
    tail_refusal c.args.bytes.now _ c.place.result c.in-Some.line.now c.in_ok-header.ensures c.in-Some.ensures.some
    c.place.ensures
