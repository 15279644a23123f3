use Rattle.std.proofs.Common.{sym, arith}
use Rattle.std.proofs.lemmas.Option.{slice_get_within}
use Rattle.ja_base.specs.Circuit.{Latch}
use Rattle.ja_base.specs.Literals.{value}
use Rattle.aig_eval.proofs.ValuationLemmas.{latches_mapped}
use Rattle.aig_eval.proofs.step.next_into.Goals as goal

pub lit_of-requires : goal.lit_of-requires
lit_of-requires c =
    let latch = c.latch.result in
    omega (arith, (c.latches-at-end.ensures.sound.latches c.loop-at.at latch c.latch.ensures).next.within)

pub returns : goal.returns
returns c =
    sym (latches_mapped c.args.d.now (λ (l : Latch). value c.args.vals.now l.next) c.loop-at.latches c.loop-at.invariant.width
    (λ k latch e. sym (c.loop-at.invariant.next k latch (omega (arith, slice_get_within c.args.d.now.latches k latch e)) e)))
