use Rattle.std.proofs.Common.{◌≡◌, ◌++◌, take}
use Rattle.ic3_query.proofs.under.add_lits.Given as goal

abbrev pub invariant-loop-lit : goal.invariant-loop-lit
invariant-loop-lit l = l.lits ≡ l.initial.lits ++ take l.lit-index l.more
