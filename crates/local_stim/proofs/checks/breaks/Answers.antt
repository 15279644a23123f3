use Rattle.std.proofs.Common.{arith}
use Rattle.local_stim.proofs.checks.breaks.Goals as goal

pub lit_of-requires : goal.lit_of-requires
lit_of-requires c = omega (arith, c.bad.ensures.known.within)
