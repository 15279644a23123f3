use Rattle.aig_model.specs.Netlist.{circuit}
use Rattle.ja_project.proofs.StartLemmas.{own_vars, starts_false, falsified_at_start}
use Rattle.ja_project.proofs.laws.starts_exactly.Goals as goal

pub returns : goal.returns
returns c = λ n clause sound own. (
  falsified_at_start (circuit n) clause own,
  starts_false (circuit n) clause (own_vars n sound),
)
