-- A task for tests, and a stimulus of it.
use Rattle.std.specs.Prelude.{true, [], ◌∷◌}
use Rattle.std.specs.FinMap as finite_map
use Rattle.ja_base.specs.Circuit.{Problem}
use Rattle.ja_base.specs.Runs.{Trace}

-- two properties, both expected to hold, that are broken at each step; nothing else
abbrev pub two_broken : Problem
two_broken = record {
  circuit = record {
    vars = 0;
    inputs = [];
    latches = [];
    gates = finite_map.empty;
    bads = 1 ∷ 1 ∷ [];
    constraints = [];
  };
  assumed = true ∷ true ∷ [];
}

-- one step without inputs
abbrev pub one_step : Trace
one_step = record { first = []; inputs = [] ∷ [] }
