use Rattle.ic3_engine.proofs.CloseLemmas.{covers_closed, engine_closed}
use Rattle.ic3_engine.proofs.closing.give.Goals as goal

pub proved_by-requires-clause-covers : goal.proved_by-requires-clause-covers
proved_by-requires-clause-covers g c =
    covers_closed c.args.coded.now c.args.z.now.known c.close_known.new.known c.in_ok-close_known.ensures.list
    c.in_ok-close_known.ensures.own c.args.prop c.requires.covers

pub returns-clause-engine : goal.returns-clause-engine
returns-clause-engine g c =
    engine_closed c.args.coded.now c.args.z.now.known c.close_known.new.known c.in_ok-close_known.ensures.list
    c.in_ok-close_known.ensures.own c.args.z.now.frames c.args.z.now.queue _ _ c.close_known.ensures.task c.requires.engine
