use Rattle.ic3_engine.proofs.seeking.seek.Goals as goal

pub returns-then-branch-clause-ends : goal.returns-then-branch-clause-ends
returns-then-branch-clause-ends g c = (c.in_ok-covers_for_good.ensures.engine, c.in_ok-covers_for_good.ensures.covers c.if-branch.true)
