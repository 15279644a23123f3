-- What a list of depths says, and what a property is ordered by.
use Rattle.std.specs.Prelude.{◌≡◌, ℕ, ◌+◌, ◌<◌, max, Bool, not, List, length, slice_index, slice_index_or}
use Rattle.ja_base.specs.Literals.{bit, variable}
use Rattle.ja_base.specs.Circuit.{Problem}
use Rattle.aig_model.specs.declared.netlist.AndGate.{AndGate}
use Rattle.aig_model.specs.Netlist.{Netlist, circuit}
use Rattle.job_plan.specs.Plans.{IsDepth, depth_of}

-- the depth of each variable stands at its place
pub record AreDepths (n : Netlist) (depths : List ℕ) : Type 0 where
  pub width : length depths ≡ n.vars + 1
  pub are : IsDepth (circuit n) (slice_index depths)

-- one more than the greater depth of the gate's right sides
abbrev pub above : List ℕ → AndGate → ℕ
above depths gate = max (slice_index depths (variable gate.rhs0))
    (slice_index depths (variable gate.rhs1)) + 1

-- what a property is ordered by: what is expected to hold comes first, then the depth, then the number
abbrev pub rank_of : Problem → List ℕ → ℕ → Bool × ℕ × ℕ
rank_of t depths p = (not (bit t.assumed p), depth_of t (slice_index depths) p, p)

-- the ranks of the first n properties
pub record AreRanks (t : Problem) (depths : List ℕ) (n : ℕ)
    (ranks : List (Bool × ℕ × ℕ)) : Type 0 where
  pub long : length ranks ≡ n
  pub at : (p : ℕ) (d : Bool × ℕ × ℕ) → p < n → slice_index_or ranks p d ≡ rank_of t depths p
