use Rattle.std.proofs.Common.{◌≡◌, ◌∷◌, take}
use Rattle.ic3_general.proofs.lifting.extended.Given as goal

abbrev pub invariant-loop-row : goal.invariant-loop-row
invariant-loop-row l = l.rows ≡ l.fn.first ∷ take l.row-index l.chain
