use Rattle.aiger_binary.proofs.RefusalLemmas.{no_refusal}
use Rattle.aiger_binary.proofs.laws.design_has_no_refusal.Goals as goal

pub returns : goal.returns
returns c = λ bytes d refusal spelled first. no_refusal bytes spelled.0 refusal spelled.1 first
