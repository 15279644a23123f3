use Rattle.std.proofs.Common.{◌≡◌, ◌∙◌, sym, ap, arith}
use Rattle.ic3_frames.specs.Levels.{Levels}
use Rattle.ic3_frames.proofs.LevelLemmas.{has_own_from_any, same_without_own, own_below_more}
use Rattle.ic3_frames.proofs.frames.Frames.fixed.Goals as goal

pub returns-then-not-has_own-clause-found : goal.returns-then-not-has_own-clause-found
returns-then-not-has_own-clause-found c =
    let top : c.self.inside.top ≡ c.args.self.now.top = ap (λ (f : Levels). f.top) c.self.view_is in
    record {
      low = omega (arith, c.loop-level.auto.level);
      high = omega (arith, c.loop-level-test.true, top);
      same = same_without_own c.args.self.now.kept c.loop-level.level (sym c.has_own.ensures ∙ c.if-not-has_own.true);
      earlier = c.loop-level.invariant;
    }

pub loop-level-preserved : goal.loop-level-preserved
loop-level-preserved c =
    own_below_more c.args.self.now.kept c.loop-level.level c.loop-level.invariant
    (has_own_from_any c.args.self.now.kept c.loop-level.level (sym c.has_own.ensures ∙ c.if-not-has_own.false))
