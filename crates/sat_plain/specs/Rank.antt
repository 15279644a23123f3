-- How far a search has come: a number that rises with each place of the trail, and where a decision gives way to a forced
-- literal.
use Rattle.std.specs.Prelude.{ℕ, ◌+◌, ◌*◌, ◌^◌, Bool, if◌then◌else◌, List, [], ◌∷◌, zero, suc}

-- the kinds of places (true where it was decided) as digits in base 3, of v digits
abbrev pub rank : ℕ → List Bool → ℕ
rank zero kinds = 0
rank (suc v) [] = 0
rank (suc v) (kind ∷ kinds) = (if kind then 1 else 2) * 3 ^ v + rank v kinds
