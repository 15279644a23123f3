use Rattle.std.proofs.Common.{◌≡◌, true, take}
use Rattle.std.specs.Prelude.{All}
use Rattle.ja_base.specs.Literals.{value}
use Rattle.ic3_general.proofs.tests.is_met.Given as goal

abbrev pub invariant-loop-lit : goal.invariant-loop-lit
invariant-loop-lit l = All (λ m. value l.vals m ≡ true) (take l.lit-index l.target)
