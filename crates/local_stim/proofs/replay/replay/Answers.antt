use Rattle.local_stim.proofs.replay.replay.Goals as goal

pub returns-in-Some-clause-verdict : goal.returns-in-Some-clause-verdict
returns-in-Some-clause-verdict c =
    record { least_latch = rw (c.design-design.ensures.value, c.first.ensures) at c.in-Some.ensures.latch }
