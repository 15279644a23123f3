use Rattle.std.proofs.Common.{subst}
use Rattle.ic3_query.specs.Known.{all_of}
use Rattle.ic3_query.specs.Questions.{BadFor, IsGoodFrom}
use Rattle.ic3_engine.proofs.CoverLemmas.{asked_goes_on}
use Rattle.ic3_engine.proofs.covering.take_round.Goals as goal

pub returns-then-not-branch-clause-round : goal.returns-then-not-branch-clause-round
returns-then-not-branch-clause-round g c =
    let t = c.args.coded.now in
    let good = subst (BadFor t (all_of c.args.z.now.known) c.args.z.now.frames c.top-top.result c.args.aim.now.prop c.ask_bad.new.room.vals)
    c.if-not-branch.true c.in_ok-ask_bad.ensures.answer in
    let goes = asked_goes_on t c.args.aim.now c.args.z.now.known c.args.z.now.frames c.args.z.now.queue _ _ _ _ c.requires.search
    c.ask_bad.ensures.count c.ask_bad.ensures.added in
    (goes, c.requires.empty, subst (λ k. IsGoodFrom t (all_of c.args.z.now.known) c.args.z.now.frames k c.args.aim.now.prop) c.top-top.ensures good)
