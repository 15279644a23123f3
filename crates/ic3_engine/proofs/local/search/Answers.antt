use Rattle.ic3_engine.proofs.local.search.Goals as goal

pub take_news-requires-clause-engine : goal.take_news-requires-clause-engine
take_news-requires-clause-engine g c = c.in_ok-engine.ensures.ready.ready.engine c.in_ok-engine.ensures.live
