use Rattle.std.proofs.Common.{sym, subst}
use Rattle.ic3_frames.specs.Levels.{Levels}
use Rattle.ic3_query.specs.Known.{KnownList, all_of}
use Rattle.ic3_query.specs.Questions.{IsGoodFrom}
use Rattle.ic3_engine.specs.Clearing.{CoversTop}
use Rattle.ic3_engine.proofs.ascending.ascend.Goals as goal

pub returns-then-branch-clause-ascent : goal.returns-then-branch-clause-ascent
returns-then-branch-clause-ascent g c = (c.known_covers.ensures.engine, c.in_ok-known_covers.ensures.covers c.if-branch.true)

pub climb-requires-clause-good : goal.climb-requires-clause-good
climb-requires-clause-good g c =
    let p = c.args.aim.now.prop in
    let f : Levels = c.cover.new.z.frames in
    let covers = subst (CoversTop c.args.coded.now c.args.aim.now _ _) c.in_default.is c.in_ok-failure.ensures.covers in
    subst (λ (h : Levels). IsGoodFrom c.args.coded.now (all_of c.known_covers.new.z.known) h h.top p) (sym c.known_covers.ensures.frames)
    (subst (λ (k : KnownList). IsGoodFrom c.args.coded.now (all_of k) f f.top p) (sym c.known_covers.ensures.known)
    covers.2)

pub returns-then-branch-2-clause-ascent : goal.returns-then-branch-2-clause-ascent
returns-then-branch-2-clause-ascent g c =
    let climbs = c.in_ok-climb.ensures.climbs in (climbs.engine, climbs.covers c.if-branch-2.true)
