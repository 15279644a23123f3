use Rattle.std.proofs.Common.{◌+◌, ap}
use Rattle.ic3_query.specs.Known.{all_of}
use Rattle.ic3_engine.proofs.CloseLemmas.{asked_is_engine, bad_breaks, not_bad_covers}
use Rattle.ic3_engine.proofs.ascending.known_covers.Goals as goal

pub returns-clause-engine : goal.returns-clause-engine
returns-clause-engine g c =
    let z = c.args.z.now in
    asked_is_engine c.args.coded.now z.known z.frames z.queue _ _ _ _ c.requires.engine c.ask_bad.ensures.count
    c.ask_bad.ensures.added

pub returns-clause-covers : goal.returns-clause-covers
returns-clause-covers g c =
    let z = c.args.z.now in
    not_bad_covers c.args.coded.now (all_of z.known) z.frames _ c.args.prop _ _ c.are_levels.ensures
    (ap (λ n. n + 1) c.top-above.ensures) c.in_ok-breaks.ensures.answer

pub returns-clause-breaks : goal.returns-clause-breaks
returns-clause-breaks g c =
    let z = c.args.z.now in
    bad_breaks c.args.coded.now (all_of z.known) z.frames _ c.args.prop _ _ c.in_ok-breaks.ensures.answer
