-- Literals within a row that has one bit a literal.
use Rattle.std.specs.Prelude.{ℕ, ◌<◌, List, All, ⊤}
use Rattle.ja_base.specs.Literals.{negated}
use Rattle.refute_check.specs.declared.found.Found.{Found}
use Rattle.refute_check.specs.declared.found.Found.TheVariants.{False, Forces, Other}

-- a row of n bits has one for each of these literals, and for its negation
abbrev pub Spans : ℕ → List ℕ → Type 0
Spans n lits = All (λ l. (l < n) × (negated l < n)) lits

-- the fact holds of the literal that is forced, if one is
abbrev pub IfForces : Found → (ℕ → Type 0) → Type 0
IfForces False P = ⊤
IfForces (Forces l) P = P l
IfForces Other P = ⊤
