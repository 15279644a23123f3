use Rattle.ic3_engine.specs.Turns.{state}
use Rattle.ic3_engine.proofs.ClearLemmas.{others_wait, taken_is_less, taken_waits}
use Rattle.ic3_engine.proofs.clearing.clear.Goals as goal

pub pass-requires-clause-search : goal.pass-requires-clause-search
pass-requires-clause-search g c =
    let s = c.loop-next.invariant.goes_on.searching in
    record {
      search = s.search;
      task = s.task;
      waiting = others_wait c.args.coded.now c.args.aim.now c.loop-next.z.frames.top c.loop-next.z.queue c.take.new.self c.in-Some.next
          s.waiting c.in-Some.ensures.taken;
    }

pub pass-requires-clause-waits : goal.pass-requires-clause-waits
pass-requires-clause-waits g c =
    taken_waits c.args.coded.now c.args.aim.now c.loop-next.z.frames.top c.loop-next.z.queue c.take.new.self c.in-Some.next
    c.loop-next.invariant.goes_on.searching.waiting c.in-Some.ensures.taken

pub loop-next-smaller : goal.loop-next-smaller
loop-next-smaller g c =
    let passed = rw c.in_default-2.is at c.in_ok-failure.ensures.passes in
    taken_is_less c.args.coded.now
    (state c.pass.new.z.known c.pass.new.z.frames c.pass.new.z.queue (g.S.Sat.count c.pass.new.z.solver) (g.S.Sat.added c.pass.new.z.solver))
    c.loop-next.z.known c.loop-next.z.frames c.loop-next.z.queue c.take.new.self (g.S.Sat.count c.loop-next.z.solver)
    (g.S.Sat.added c.loop-next.z.solver) c.in-Some.next passed.1 c.in-Some.ensures.taken
