use Rattle.std.proofs.Common.{◌∷◌, [], ◌++◌, ap, ◌∙◌, arith}
use Rattle.ic3_query.proofs.UnderLemmas.{switches_more, switches_all}
use Rattle.ic3_query.proofs.under.switches.Goals as goal

pub loop-at-preserved : goal.loop-at-preserved
loop-at-preserved c = record {
  from = omega (arith, c.loop-at.invariant.from);
  to = omega (arith, c.loop-at.invariant.from, c.loop-at-test.true);
  lits = switches_more c.args.coded.now.design c.args.level c.loop-at.at c.loop-at.lits c.push.new.self c.loop-at.invariant.from
      c.loop-at.invariant.lits (c.in_ok-push.ensures.ok ∙ ap (λ l. c.loop-at.lits ++ l ∷ []) c.switch.ensures);
}

pub returns : goal.returns
returns c =
    switches_all c.args.coded.now.design c.args.level c.args.top c.loop-at.at c.loop-at.lits c.loop-at.invariant.to
    c.loop-at-test.false
    c.loop-at.invariant.lits
