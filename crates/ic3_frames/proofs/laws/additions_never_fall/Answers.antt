use Rattle.ic3_frames.proofs.SumLemmas.{additions_never_fall}
use Rattle.ic3_frames.proofs.laws.additions_never_fall.Goals as goal

pub returns : goal.returns
returns g = λ vars clause level kept. additions_never_fall vars clause level kept
