use Rattle.std.proofs.Common.{arith}
use Rattle.std.proofs.lemmas.List.{length-map}
use Rattle.sat_plain.proofs.trail.Trail.len.Goals as goal

pub overflow_cast-result : goal.overflow_cast-result
overflow_cast-result c = let is = c.self.invariant.0 in let s =
    is.short in omega (arith, length-map c.self.inside.places.items (λ p. p.lit))
