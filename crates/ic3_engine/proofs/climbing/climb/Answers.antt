use Rattle.std.proofs.Common.{◌-◌, sym, ap, ◌∙◌, subst, arith}
use Rattle.aig_model.specs.Task.{problem}
use Rattle.ic3_query.specs.Known.{KnownList, all_of}
use Rattle.ic3_query.specs.Questions.{IsGoodFrom}
use Rattle.ic3_engine.specs.Turns.{state}
use Rattle.ic3_engine.proofs.ClimbLemmas.{fixed_climbs, good_lower, good_tighter, raised_climbs, top_is_low}
use Rattle.ic3_engine.proofs.climbing.climb.Goals as goal

pub fix-requires-clause-good : goal.fix-requires-clause-good
fix-requires-clause-good g c =
    let f = c.args.z.now.frames in
    good_lower c.args.coded.now (all_of c.args.z.now.known) f _ _ (f.top - 1) f.top c.args.prop c.requires.engine.search (omega arith)
    c.requires.good

pub returns-in-Some-clause-climbs : goal.returns-in-Some-clause-climbs
returns-in-Some-clause-climbs g c =
    let old = state c.args.z.now.known c.args.z.now.frames c.args.z.now.queue (g.S.Sat.count c.args.z.now.solver) (g.S.Sat.added c.args.z.now.solver) in
    let new = state c.fix.new.z.known c.fix.new.z.frames c.fix.new.z.queue (g.S.Sat.count c.fix.new.z.solver) (g.S.Sat.added c.fix.new.z.solver) in
    fixed_climbs c.args.coded.now c.args.prop c.args.z.now.frames.top old old new (record { rises = λ clause. omega arith; back = λ k s h. h })
    c.in_ok-fix.ensures.raised c.requires.empty (ap problem c.fix.ensures.closed.task ∙ c.requires.engine.task) c.requires.engine.high
    c.in_ok-fix.ensures.covers

pub fix-requires-in-Some-fixed-clause-good : goal.fix-requires-in-Some-fixed-clause-good
fix-requires-in-Some-fixed-clause-good g c =
    let t = c.args.coded.now in
    let raised = c.in_ok-raise.ensures.raised in
    let good = good_tighter t (all_of c.args.z.now.known) c.args.z.now.frames c.raise.new.z.frames c.args.z.now.frames.top c.args.prop raised.tighter
    c.requires.good in
    subst (λ k. IsGoodFrom t (all_of c.raise.new.z.known) c.raise.new.z.frames k c.args.prop) (omega (arith, raised.top_is))
    (subst (λ (k : KnownList). IsGoodFrom t (all_of k) c.raise.new.z.frames c.args.z.now.frames.top c.args.prop) (sym c.raise.ensures.known) good)

pub returns-in-Some-fixed-clause-climbs : goal.returns-in-Some-fixed-clause-climbs
returns-in-Some-fixed-clause-climbs g c =
    let t = c.args.coded.now in
    let f = c.args.z.now.frames in
    let old = state c.args.z.now.known f c.args.z.now.queue (g.S.Sat.count c.args.z.now.solver) (g.S.Sat.added c.args.z.now.solver) in
    let between = state c.raise.new.z.known c.raise.new.z.frames c.raise.new.z.queue (g.S.Sat.count c.raise.new.z.solver)
    (g.S.Sat.added c.raise.new.z.solver) in
    let new = state c.fix-in-Some-fixed.new.z.known c.fix-in-Some-fixed.new.z.frames c.fix-in-Some-fixed.new.z.queue
    (g.S.Sat.count c.fix-in-Some-fixed.new.z.solver) (g.S.Sat.added c.fix-in-Some-fixed.new.z.solver) in
    let raised = c.in_ok-raise.ensures.raised in
    let own = c.in_default.ensures.none in
    let low = top_is_low t (all_of c.args.z.now.known) f _ _ c.requires.engine.search own in
    fixed_climbs t c.args.prop c.raise.new.z.frames.top old between new raised.tighter c.in_ok-fix-2.ensures.raised
    (raised.queue ∙ c.requires.empty)
    (ap problem c.fix-in-Some-fixed.ensures.closed.task ∙ ap (λ (k : KnownList). problem k.task) c.raise.ensures.known ∙ c.requires.engine.task)
    (omega (arith, low, raised.top_is)) c.in_ok-fix-2.ensures.covers

pub returns-clause-climbs : goal.returns-clause-climbs
returns-clause-climbs g c =
    let old = state c.args.z.now.known c.args.z.now.frames c.args.z.now.queue (g.S.Sat.count c.args.z.now.solver) (g.S.Sat.added c.args.z.now.solver) in
    let new = state c.raise.new.z.known c.raise.new.z.frames c.raise.new.z.queue (g.S.Sat.count c.raise.new.z.solver)
    (g.S.Sat.added c.raise.new.z.solver) in
    raised_climbs c.args.coded.now c.args.prop old new c.in_ok-raise.ensures.raised c.requires.empty
    (ap (λ (k : KnownList). problem k.task) c.raise.ensures.known ∙ c.requires.engine.task) c.in_default-fixed.ensures.none
