use Rattle.std.proofs.Common.{◌+◌, sym, subst}
use Rattle.ja_base.specs.Clauses.{IsBelow}
use Rattle.aig_model.specs.Netlist.{Netlist}
use Rattle.ja_project.proofs.ForeignLemmas.{own_is_below}
use Rattle.ic3_engine.proofs.turn.lower.Goals as goal

pub starts-requires : goal.starts-requires
starts-requires c =
    subst (λ (n : Netlist). IsBelow (n.vars + 1) c.in_ok-earlier.earlier.clause) (sym c.requires.table)
    (own_is_below c.args.coded.now.design c.task-task.ensures.sound c.in_ok-earlier.earlier.clause c.in_ok-earlier.ensures.own)
