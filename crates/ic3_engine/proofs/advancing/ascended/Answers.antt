use Rattle.ic3_engine.proofs.advancing.ascended.Goals as goal

pub returns-then-branch-clause-ascent : goal.returns-then-branch-clause-ascent
returns-then-branch-clause-ascent g c = (c.in_ok-covers_for_good.ensures.engine, c.in_ok-covers_for_good.ensures.covers c.if-branch.true)
