use Rattle.std.proofs.Common.{◌≡◌, ℕ, ◌+◌, ◌*◌, ◌<◌, true, false}
use Rattle.ja_base.specs.Literals.{bit}
use Rattle.ja_base.specs.Trails.{IsFull}
use Rattle.sat_plain.proofs.TrailLemmas.{full_by_variables}
use Rattle.sat_cdcl.proofs.PointLemmas.{none_again}
use Rattle.sat_cdcl.proofs.decide.Order.pick.Goals as goal

pub returns-in-None-clause-full : goal.returns-in-None-clause-full
returns-in-None-clause-full c =
    let vars : ℕ = c.args.trail.now.vars in
    let values = c.args.trail.now.values in
    none_again c.unset.result ((v : ℕ) → v < vars → bit values (2 * v) ≡ false → bit values (2 * v + 1) ≡ true)
    (IsFull vars values) (full_by_variables vars values) c.unset.ensures.full
