use Rattle.std.specs.Prelude.{◌≡◌, map, take}
use Rattle.job_plan.proofs.RankLemmas.{Rank}
use Rattle.job_plan.proofs.order.props_of.Given as goal

abbrev pub invariant-loop-rank : goal.invariant-loop-rank
invariant-loop-rank l = l.plan ≡ map (λ (r : Rank). r.2) (take l.rank-index l.ranks)
