use Rattle.std.proofs.Common.{length}
use Rattle.ja_text.specs.Repeated.{Chain}
use Rattle.refute_text.specs.Reading.{TakesSpaced}
use Rattle.refute_text.proofs.numbers.take_numbers.Given as goal

abbrev pub invariant-loop-number : goal.invariant-loop-number
invariant-loop-number l = Chain TakesSpaced l.bytes l.numbers l.rest

abbrev pub decreases-loop-number : goal.decreases-loop-number
decreases-loop-number l = length l.rest
