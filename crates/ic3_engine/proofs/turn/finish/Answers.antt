use Rattle.std.proofs.Common.{sym, ◌∙◌, subst}
use Rattle.ic3_general.specs.declared.aim.Aim.{Aim}
use Rattle.ic3_engine.specs.Waiting.{AreWaiting, IsWaiting}
use Rattle.ic3_engine.proofs.LevelLemmas.{part_is_free}
use Rattle.ic3_engine.proofs.TurnLemmas.{part_is_free_at_top}
use Rattle.ic3_engine.proofs.turn.finish.Goals as goal

pub settle_good-requires-clause-free : goal.settle_good-requires-clause-free
settle_good-requires-clause-free g c =
    let f = c.args.z.now.frames in
    let less = rw c.in-Some.is at c.in_ok-less.ensures.part in
    part_is_free_at_top f c.args.now.level c.in-Some.less c.args.part c.requires.waits.high less.within
    (part_is_free f.kept c.args.now.level c.args.part c.args.now.clause c.requires.part c.requires.free)

pub settle-requires-clause-free : goal.settle-requires-clause-free
settle-requires-clause-free g c =
    part_is_free c.args.z.now.frames.kept c.args.now.level c.args.part c.args.now.clause c.requires.part c.requires.free

pub returns-in_ok-put_again-in-None-clause-blocks :
    goal.returns-in_ok-put_again-in-None-clause-blocks
returns-in_ok-put_again-in-None-clause-blocks g c =
    let t = c.args.coded.now in
    let a : Aim = c.args.aim.now in
    let step = c.in_ok-settle-in-None.ensures.step in
    let same = c.top.ensures ∙ step.top in
    let waiting = c.put_again.ensures.waiting t a (subst (λ k. IsWaiting t a k c.args.now) (sym same) c.requires.waits)
    (subst (λ k. AreWaiting t a k c.args.z.now.queue) (sym same) c.requires.search.waiting) in
    record {
      searching = record {
        search = step.search;
        task = c.requires.search.task;
        waiting = subst (λ k. AreWaiting t a k c.put_again.new.queue) c.top.ensures waiting;
      };
      top = step.top;
      rises = step.rises;
      queue = c.put_again.ensures.longer;
    }
