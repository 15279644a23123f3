use Rattle.refute_check.proofs.Covered.{covered_by_lines}
use Rattle.refute_check.proofs.laws.what_is_covered_is_refuted.Goals as goal

pub returns : goal.returns
returns c = covered_by_lines
