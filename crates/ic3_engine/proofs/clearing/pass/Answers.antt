use Rattle.ic3_engine.specs.Turns.{state}
use Rattle.ic3_engine.proofs.ClearLemmas.{descends_pass}
use Rattle.ic3_engine.proofs.clearing.pass.Goals as goal

pub returns-clause-passes : goal.returns-clause-passes
returns-clause-passes g c =
    descends_pass c.args.coded.now c.args.aim.now c.args.next.level
    (state c.args.z.now.known c.args.z.now.frames c.args.z.now.queue (g.S.Sat.count c.args.z.now.solver) (g.S.Sat.added c.args.z.now.solver))
    (state c.descend.new.z.known c.descend.new.z.frames c.descend.new.z.queue (g.S.Sat.count c.descend.new.z.solver) (g.S.Sat.added c.descend.new.z.solver))
    c.in_ok-found.found c.requires.waits.high c.in_ok-found.ensures.descends
