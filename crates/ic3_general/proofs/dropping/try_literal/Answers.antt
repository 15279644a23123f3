use Rattle.std.proofs.Common.{ℕ, List, sym, subst}
use Rattle.std.proofs.lemmas.Bool.{OnTrue_at, OnFalse_at}
use Rattle.aig_model.specs.Netlist.{circuit}
use Rattle.ic3_general.specs.Dropping.{IsLifting}
use Rattle.ic3_general.proofs.DropLemmas.{goes_on_without, goes_on_with}
use Rattle.ic3_general.proofs.dropping.try_literal.Goals as goal

pub returns-then-drops-clause-lifting : goal.returns-then-drops-clause-lifting
returns-then-drops-clause-lifting c values first rest step over state =
    goes_on_without (circuit c.args.design.now) values c.args.target.now first c.args.kept.now rest c.args.lit c.args.sure.now
    c.drops.new.sure step over state (OnTrue_at c.if-drops.true c.drops.ensures.dropped)

pub returns-clause-lifting : goal.returns-clause-lifting
returns-clause-lifting c values first rest step over state =
    subst
    (λ (kept : List ℕ). IsLifting (circuit c.args.design.now) values c.args.target.now first kept rest c.drops.new.sure)
    (sym c.in_ok-push.ensures.ok)
    (goes_on_with (circuit c.args.design.now) values c.args.target.now first c.args.kept.now rest c.args.lit c.args.sure.now
    c.drops.new.sure step over state (OnFalse_at c.if-drops.false c.drops.ensures.kept))
