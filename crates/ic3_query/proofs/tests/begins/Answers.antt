use Rattle.std.proofs.Common.{◌+◌, sym, ap, subst, ◌∙◌}
use Rattle.ja_base.specs.Clauses.{IsBelow}
use Rattle.aig_model.specs.Netlist.{Netlist, circuit}
use Rattle.ja_project.specs.Start.{starts}
use Rattle.ja_project.proofs.ForeignLemmas.{own_is_below}
use Rattle.ic3_query.proofs.KnownLemmas.{starts_tells}
use Rattle.ic3_query.proofs.tests.begins.Goals as goal

pub starts-requires : goal.starts-requires
starts-requires c =
    let P : Netlist → Type 0 = λ n. IsBelow (n.vars + 1) c.args.clause.now in
    subst P (sym c.requires.table)
    (own_is_below c.args.coded.now.design c.task-task.ensures.sound c.args.clause.now c.requires.own)

pub returns : goal.returns
returns c =
    starts_tells c.args.coded.now.design c.task-task.ensures.sound c.args.clause.now c.starts.result
    (c.starts.ensures ∙ ap (λ (n : Netlist). starts (circuit n) c.args.clause.now) c.requires.table)
