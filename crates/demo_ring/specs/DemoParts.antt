-- The lists of the demonstration's design.
use Rattle.std.specs.Prelude.{ℕ, ◌+◌, ◌-◌, ◌*◌, ◌≤◌, List, [], ◌∷◌, ◌++◌, map}
use Rattle.std.specs.List.{range_with_len}
use Rattle.aig_model.specs.declared.netlist.Reset.TheVariants.{Zero, One}
use Rattle.aig_model.specs.declared.netlist.Latch.{Latch}
use Rattle.aig_model.specs.declared.netlist.AndGate.{AndGate}
use Rattle.aig_model.specs.declared.netlist.Parts.{Parts}
use Rattle.aig_model.specs.Netlist.{circuit}
use Rattle.aig_model.specs.Refusals.{netlist_of}
use Rattle.aiger_ascii.specs.Grammar.{IsAsciiDesign}
use Rattle.demo_ring.specs.DemoText.{demo_text}

-- the first latch takes the last one's bit, and is 1 at the start
abbrev pub first_latch : ℕ → Latch
first_latch n = record { lit = 2; next = 2 * n; reset = One }

-- the latch at place i takes the bit of the one before it, and is 0 at the start
abbrev pub later_latch : ℕ → Latch
later_latch i = record { lit = 2 * (i + 1); next = 2 * i; reset = Zero }

-- the latches of variables 1 to n
abbrev pub demo_latches : ℕ → List Latch
demo_latches n = first_latch n ∷ map later_latch (range_with_len 1 (n - 1))

-- the gate at place i tells that the latch there and the next one are both 1
abbrev pub neighbour_gate : ℕ → ℕ → AndGate
neighbour_gate n i = record { lhs = 2 * (n + 1 + i); rhs0 = 2 * (i + 2); rhs1 = 2 * (i + 1) }

-- the last gate tells it of the last latch and the first one
abbrev pub last_gate : ℕ → AndGate
last_gate n = record { lhs = 4 * n; rhs0 = 2 * n; rhs1 = 2 }

-- the gates of variables n + 1 to 2n
abbrev pub demo_gates : ℕ → List AndGate
demo_gates n = map (neighbour_gate n) (range_with_len 0 (n - 1)) ++ last_gate n ∷ []

-- each gate, and the last latch
abbrev pub demo_bads : ℕ → List ℕ
demo_bads n = map (λ i. 2 * (n + 1 + i)) (range_with_len 0 n) ++ (2 * n) ∷ []

-- the lists of the design of n latches
unfoldable pub demo_parts : ℕ → Parts
demo_parts n = record {
  vars = 2 * n;
  inputs = [];
  latches = demo_latches n;
  bads = demo_bads n;
  constraints = [];
  outputs = [];
  gates = demo_gates n;
}

-- the text is a design in the ASCII form, and its circuit is that of the lists
abbrev pub DemoTextIsADesign : Type 0
DemoTextIsADesign = (n : ℕ) → 3 ≤ n → n ≤ 1000
    → IsAsciiDesign (demo_text n) (circuit (netlist_of (demo_parts n)))
