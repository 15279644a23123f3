use Rattle.std.proofs.Common.{◌≡◌, ◌+◌, ◌-◌, ◌++◌, ◌∙◌, ℕ, ap, arith}
use Rattle.demo_ring.specs.DemoText.{numbers_line, latch_row, later_latches_text}
use Rattle.demo_ring.proofs.RangeLemmas.{grows}
use Rattle.demo_ring.proofs.text.put_later_latches.Goals as goal

pub loop-i-preserved : goal.loop-i-preserved
loop-i-preserved c = (
  grows (λ i. numbers_line (latch_row i)) 1 (c.loop-i.i - 1) (c.loop-i.i + 1 - 1) c.loop-i.i c.args.text.now c.loop-i.text
      c.put_line.new.text (omega arith) (omega arith) c.loop-i.invariant.0 c.in_ok-put_line.ensures,
  omega arith,
)

pub returns : goal.returns
returns c =
    let end : c.loop-i.i - 1 ≡ c.args.n - 1 = omega arith in
    c.loop-i.invariant.0 ∙ ap (λ (k : ℕ). c.args.text.now ++ later_latches_text k) end
