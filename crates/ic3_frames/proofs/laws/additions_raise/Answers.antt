use Rattle.ic3_frames.proofs.SumLemmas.{additions_raise}
use Rattle.ic3_frames.proofs.laws.additions_raise.Goals as goal

pub returns : goal.returns
returns g = λ vars clause level kept over low free. additions_raise vars clause level kept over low free
