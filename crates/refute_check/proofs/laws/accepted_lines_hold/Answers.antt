use Rattle.refute_check.proofs.Sound.{accepted_follows}
use Rattle.refute_check.proofs.laws.accepted_lines_hold.Goals as goal

pub returns : goal.returns
returns c = accepted_follows
