-- How many units suffice to decide a property of a task. It is a number of contracts alone, and is never computed.
use Rattle.std.specs.Prelude.{ℕ, ◌+◌, ◌*◌, ◌^◌, length}
use Rattle.ja_base.specs.Circuit.{Problem}

-- how many cubes over the latches there are, in each of which a latch is 0, is 1 or is left out
unfoldable pub cube_count : Problem → ℕ
cube_count t = 3 ^ length t.circuit.latches

-- the most variables of a solver: those of the design, one for each level, and some to spare
unfoldable pub solver_variables : Problem → ℕ
solver_variables t = t.circuit.vars + cube_count t + 6

-- a query ticks at most once more than three to the number of variables
unfoldable pub sufficient_budget : Problem → ℕ
sufficient_budget t = 16 * (cube_count t + 4) ^ 4 * (1 + 3 ^ solver_variables t)
