use Rattle.std.proofs.Common.{[], ◌∷◌, map, take}
use Rattle.inv_cert.specs.Taken.{Loads}
use Rattle.inv_cert.proofs.load.add_units.Given as goal

abbrev pub invariant-loop-lit : goal.invariant-loop-lit
invariant-loop-lit l = Loads l.fn.checker (map (λ k. k ∷ []) (take l.lit-index l.lits)) l.checker
