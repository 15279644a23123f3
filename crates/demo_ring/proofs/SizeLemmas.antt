-- How long the text is at most.
use Rattle.std.proofs.Common.{ℕ, zero, suc, ◌+◌, ◌-◌, ◌*◌, ◌<◌, ◌≤◌, List, [], ◌∷◌, ◌++◌, length, length-append, arith}
use Rattle.std.specs.Fmt.{decimal}
use Rattle.std.specs.List.{AllByRecursion, flat_map, range_with_len}
use Rattle.std.proofs.lemmas.Fmt.{length-decimal-le}
use Rattle.demo_ring.specs.DemoText.{spaced, numbers_line, sizes_row, header_text, first_latch_row, latch_row, later_latches_text, latches_text, bad_row, neighbour_bads_text, bads_text, gate_row, last_gate_row, neighbour_gates_text, gates_text, demo_text}
use Rattle.demo_ring.proofs.RowLemmas.{IsShortRow, short_sizes, short_first_latch, short_latch, short_bad, short_last_bad, short_gate, short_last_gate}

short_number : (m : ℕ) → m ≤ 4000 → length (decimal m) ≤ 4
short_number m small = length-decimal-le 4 m (omega arith) (omega arith) (omega arith)

short_rest : (ns : List ℕ) → AllByRecursion (λ m. m ≤ 4000) ns → length (flat_map spaced ns) ≤ 5 * length ns
short_rest [] small = omega arith
short_rest (n ∷ ns) small =
    omega (arith, length-append (decimal n) (flat_map spaced ns), short_number n small.0, short_rest ns small.1)

short_line : (ns : List ℕ) → IsShortRow ns → length (numbers_line ns) ≤ 40
short_line [] short = omega arith
short_line (n ∷ ns) short =
    omega (
      arith,
      length-append (decimal n ++ flat_map spaced ns) (10 ∷ []),
      length-append (decimal n) (flat_map spaced ns),
      short_number n short.small.0,
      short_rest ns short.small.1,
      short.few,
    )

short_lines : (row : ℕ → List ℕ) (a k : ℕ) → ((i : ℕ) → i < a + k → IsShortRow (row i))
    → length (flat_map (λ i. numbers_line (row i)) (range_with_len a k)) ≤ 40 * k
short_lines row a zero h = omega arith
short_lines row a (suc k) h =
    omega (
      arith,
      length-append (numbers_line (row a)) (flat_map (λ i. numbers_line (row i)) (range_with_len (a + 1) k)),
      short_line (row a) (h a (omega arith)),
      short_lines row (a + 1) k (λ i within. h i (omega arith)),
    )

-- two texts, each of a length that is known
both : (t u : List ℕ) (a b : ℕ) → length t ≤ a → length u ≤ b → length (t ++ u) ≤ a + b
both t u a b g h = omega (arith, length-append t u)

short_latches : (n : ℕ) → 3 ≤ n → n ≤ 1000 → length (latches_text n) ≤ 40 + 40 * (n - 1)
short_latches n three most =
    both (numbers_line (first_latch_row n)) (later_latches_text (n - 1)) 40 (40 * (n - 1))
    (short_line (first_latch_row n) (short_first_latch n most))
    (short_lines latch_row 1 (n - 1) (λ i within. short_latch i (omega arith)))

short_bads : (n : ℕ) → 3 ≤ n → n ≤ 1000 → length (bads_text n) ≤ 40 * n + 40
short_bads n three most =
    both (neighbour_bads_text n n) (numbers_line ((2 * n) ∷ [])) (40 * n) 40
    (short_lines (bad_row n) 0 n (λ i within. short_bad n i most (omega arith)))
    (short_line ((2 * n) ∷ []) (short_last_bad n most))

short_gates : (n : ℕ) → 3 ≤ n → n ≤ 1000 → length (gates_text n) ≤ 40 * (n - 1) + 40
short_gates n three most =
    both (neighbour_gates_text n (n - 1)) (numbers_line (last_gate_row n)) (40 * (n - 1)) 40
    (short_lines (gate_row n) 0 (n - 1) (λ i within. short_gate n i most (omega arith)))
    (short_line (last_gate_row n) (short_last_gate n most))

pub short_text : (n : ℕ) → 3 ≤ n → n ≤ 1000 → length (demo_text n) ≤ 67108864
unfolding demo_text
short_text n three most =
    omega (
      arith,
      length-append (header_text n ++ latches_text n ++ bads_text n) (gates_text n),
      length-append (header_text n ++ latches_text n) (bads_text n),
      length-append (header_text n) (latches_text n),
      short_line (sizes_row n) (short_sizes n most),
      short_latches n three most,
      short_bads n three most,
      short_gates n three most,
    )
