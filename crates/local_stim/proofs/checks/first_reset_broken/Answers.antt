use Rattle.std.proofs.Common.{arith, below_more}
use Rattle.std.proofs.lemmas.Bool.{iff_false}
use Rattle.ja_base.specs.Replay.{BreaksReset}
use Rattle.aig_model.specs.Netlist.{circuit}
use Rattle.local_stim.proofs.CheckLemmas.{breaks_reset, reset_from_break, initial_from_none}
use Rattle.local_stim.proofs.checks.first_reset_broken.Goals as goal

pub returns-then-breaks_reset-clause-latch : goal.returns-then-breaks_reset-clause-latch
returns-then-breaks_reset-clause-latch c =
    let n = c.args.d.now in (
      breaks_reset n c.args.first.now c.loop-at.at c.latch.result c.latch.ensures
          (rw (← c.get.ensures) (c.breaks_reset.ensures.0 c.if-breaks_reset.true)),
      c.loop-at.invariant,
    )

pub loop-at-preserved : goal.loop-at-preserved
loop-at-preserved c =
    let n = c.args.d.now in
    below_more (λ k. BreaksReset (circuit n) c.args.first.now k → ⊥) c.loop-at.at c.loop-at.invariant
    (λ b. iff_false c.breaks_reset.ensures c.if-breaks_reset.false
    (rw c.get.ensures (reset_from_break n c.args.first.now c.loop-at.at c.latch.result c.latch.ensures b)))

pub returns-clause-latch : goal.returns-clause-latch
returns-clause-latch c = initial_from_none c.args.d.now c.args.first.now c.requires (λ k h. c.loop-at.invariant k (omega arith))
