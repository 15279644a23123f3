-- each number below this place is below the next one
use Rattle.std.proofs.Common.{ℕ, ◌+◌, ◌<◌}
use Rattle.std.specs.Prelude.{slice_index}
use Rattle.report.proofs.read_set.ascend.Given as goal

abbrev pub invariant-loop-at : goal.invariant-loop-at
invariant-loop-at l = (k : ℕ) → k + 1 < l.at → slice_index l.props k < slice_index l.props (k + 1)
