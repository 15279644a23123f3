use Rattle.std.proofs.Common.{ℕ, ◌+◌, ap, ◌∙◌, arith}
use Rattle.aig_model.specs.Task.{problem}
use Rattle.ic3_query.specs.Known.{all_of}
use Rattle.ic3_query.proofs.OpenLemmas.{serves_opened}
use Rattle.ic3_query.proofs.SeenLemmas.{own_for}
use Rattle.ic3_query.proofs.opening.open.Goals as goal

pub returns : goal.returns
returns g c =
    let width = c.in_ok-add_resets.ensures.count ∙ c.in_ok-fresh.ensures.ok ∙ ap (λ (m : ℕ). m + 1) c.requires.count in
    serves_opened c.args.coded.now.design (all_of c.args.known.now) (g.S.Sat.added c.fresh.new.self)
    (g.S.Sat.added c.add_resets.new.solver) (g.S.Sat.count c.add_resets.new.solver)
    (own_for (problem c.args.known.now.task) c.args.coded.now
    (all_of c.args.known.now) c.requires.task c.own-own.ensures.known.own)
    (c.in_ok-fresh.ensures.added ∙ c.requires.added) width
    (omega (arith, width, c.requires.count, c.in_ok-fresh.ensures.var, c.in_ok-fresh.ensures.small))
    c.in_ok-add_resets.ensures.added
