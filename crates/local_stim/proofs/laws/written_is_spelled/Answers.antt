use Rattle.local_stim.proofs.WriteLemmas.{written}
use Rattle.local_stim.proofs.laws.written_is_spelled.Goals as goal

pub returns : goal.returns
returns c = written
