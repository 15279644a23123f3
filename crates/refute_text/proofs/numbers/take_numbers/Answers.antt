use Rattle.std.proofs.Common.{List, ℕ, subst, sym}
use Rattle.ja_text.specs.Repeated.{Chain}
use Rattle.refute_text.specs.Reading.{TakesSpaced}
use Rattle.refute_text.proofs.ChainLemmas.{Chain-more}
use Rattle.refute_text.proofs.NumberLemmas.{spaced_takes, spaced_none}
use Rattle.refute_text.proofs.numbers.take_numbers.Goals as goal

pub loop-number-preserved : goal.loop-number-preserved
loop-number-preserved c =
    let taken = spaced_takes c.loop-number.rest.now c.in-Some.number c.in-Some.after.now c.in-Some.ensures.read in
    let P : List ℕ → Type 0 = λ ns. Chain TakesSpaced c.args.bytes.now ns c.in-Some.after.now in
    subst P (sym c.in_ok-push.ensures.ok)
    (Chain-more TakesSpaced c.args.bytes.now c.loop-number.numbers c.loop-number.rest.now c.in-Some.number c.in-Some.after.now
    c.loop-number.invariant taken)

pub returns : goal.returns
returns c = record { taken = c.loop-number.invariant; ends = spaced_none c.loop-number.rest.now c.in_default.ensures.read }
