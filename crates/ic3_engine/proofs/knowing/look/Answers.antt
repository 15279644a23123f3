use Rattle.std.proofs.Common.{◌+◌, sym, subst}
use Rattle.ja_base.specs.Clauses.{IsBelow}
use Rattle.aig_model.specs.Netlist.{Netlist}
use Rattle.ja_project.proofs.ForeignLemmas.{own_is_below}
use Rattle.ic3_engine.proofs.knowing.look.Goals as goal

pub returns-then-branch-clause-look : goal.returns-then-branch-clause-look
returns-then-branch-clause-look g c = c.in_ok-known_covers.ensures.covers c.if-branch.true

pub starts-requires : goal.starts-requires
starts-requires g c =
    subst (λ (n : Netlist). IsBelow (n.vars + 1) c.in_ok-cube.cube.clause) (sym c.requires.table)
    (own_is_below c.args.coded.now.design c.task-task.ensures.sound c.in_ok-cube.cube.clause c.in_ok-cube.ensures.own)
