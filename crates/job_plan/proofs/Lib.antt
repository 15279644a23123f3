mod DepthLemmas
mod CircuitLemmas
mod RankLemmas
mod PlanLemmas
