-- The text of the demonstration's design: a one-hot ring of n latches, a property for each two neighbours, and a wrong one.
use Rattle.std.specs.Prelude.{ℕ, ◌+◌, ◌-◌, ◌*◌, List, [], ◌∷◌, ◌++◌, flat_map, codes, decimal}
use Rattle.std.specs.List.{range_with_len}

-- a number behind a space
abbrev pub spaced : ℕ → List ℕ
spaced n = 32 ∷ decimal n

-- a line of numbers, one space between two
abbrev pub numbers_line : List ℕ → List ℕ
numbers_line [] = 10 ∷ []
numbers_line (n ∷ ns) = decimal n ++ flat_map spaced ns ++ 10 ∷ []

-- the numbers of variables, inputs, latches, outputs, gates and properties
abbrev pub sizes_row : ℕ → List ℕ
sizes_row n = (2 * n) ∷ 0 ∷ n ∷ 0 ∷ n ∷ (n + 1) ∷ []

abbrev pub header_text : ℕ → List ℕ
header_text n = codes "aag " ++ numbers_line (sizes_row n)

-- the first latch takes the last one's bit, and is 1 at the start
abbrev pub first_latch_row : ℕ → List ℕ
first_latch_row n = 2 ∷ (2 * n) ∷ 1 ∷ []

-- the latch at place i takes the bit of the one before it, and is 0 at the start
abbrev pub latch_row : ℕ → List ℕ
latch_row i = (2 * (i + 1)) ∷ (2 * i) ∷ []

-- the latches behind the first, up to place k
abbrev pub later_latches_text : ℕ → List ℕ
later_latches_text k = flat_map (λ i. numbers_line (latch_row i)) (range_with_len 1 k)

-- a line for each latch
abbrev pub latches_text : ℕ → List ℕ
latches_text n = numbers_line (first_latch_row n) ++ later_latches_text (n - 1)

-- the gate at place i is bad
abbrev pub bad_row : ℕ → ℕ → List ℕ
bad_row n i = (2 * (n + 1 + i)) ∷ []

-- the first k gates are bad
abbrev pub neighbour_bads_text : ℕ → ℕ → List ℕ
neighbour_bads_text n k = flat_map (λ i. numbers_line (bad_row n i)) (range_with_len 0 k)

-- each gate is bad, and so is the last latch
abbrev pub bads_text : ℕ → List ℕ
bads_text n = neighbour_bads_text n n ++ numbers_line ((2 * n) ∷ [])

-- the gate at place i tells that the latch there and the next one are both 1
abbrev pub gate_row : ℕ → ℕ → List ℕ
gate_row n i = (2 * (n + 1 + i)) ∷ (2 * (i + 2)) ∷ (2 * (i + 1)) ∷ []

-- the last gate tells it of the last latch and the first one
abbrev pub last_gate_row : ℕ → List ℕ
last_gate_row n = (4 * n) ∷ (2 * n) ∷ 2 ∷ []

-- the first k gates
abbrev pub neighbour_gates_text : ℕ → ℕ → List ℕ
neighbour_gates_text n k = flat_map (λ i. numbers_line (gate_row n i)) (range_with_len 0 k)

-- a line for each gate
abbrev pub gates_text : ℕ → List ℕ
gates_text n = neighbour_gates_text n (n - 1) ++ numbers_line (last_gate_row n)

-- the design of n latches as a file in the ASCII form of AIGER 1.9
unfoldable pub demo_text : ℕ → List ℕ
demo_text n = header_text n ++ latches_text n ++ bads_text n ++ gates_text n
