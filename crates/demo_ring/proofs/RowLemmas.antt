-- The numbers of a row are small, and there are few.
use Rattle.std.proofs.Common.{ℕ, ◌+◌, ◌*◌, ◌<◌, ◌≤◌, List, [], ◌∷◌, length, arith}
use Rattle.std.specs.List.{AllByRecursion}
use Rattle.demo_ring.specs.DemoText.{sizes_row, first_latch_row, latch_row, bad_row, gate_row, last_gate_row}

pub record IsShortRow (ns : List ℕ) : Type 0 where
  pub small : AllByRecursion (λ m. m ≤ 4000) ns
  pub few : length ns ≤ 6

pub short_sizes : (n : ℕ) → n ≤ 1000 → IsShortRow (sizes_row n)
short_sizes n most = record {
  small = (omega arith, (omega arith, (omega arith, (omega arith, (omega arith, (omega arith, tt))))));
  few = omega arith;
}

pub short_first_latch : (n : ℕ) → n ≤ 1000 → IsShortRow (first_latch_row n)
short_first_latch n most = record { small = (omega arith, (omega arith, (omega arith, tt))); few = omega arith }

pub short_latch : (i : ℕ) → i < 1000 → IsShortRow (latch_row i)
short_latch i within = record { small = (omega arith, (omega arith, tt)); few = omega arith }

pub short_bad : (n i : ℕ) → n ≤ 1000 → i < n → IsShortRow (bad_row n i)
short_bad n i most within = record { small = (omega arith, tt); few = omega arith }

pub short_last_bad : (n : ℕ) → n ≤ 1000 → IsShortRow ((2 * n) ∷ [])
short_last_bad n most = record { small = (omega arith, tt); few = omega arith }

pub short_gate : (n i : ℕ) → n ≤ 1000 → i + 1 < n → IsShortRow (gate_row n i)
short_gate n i most within = record { small = (omega arith, (omega arith, (omega arith, tt))); few = omega arith }

pub short_last_gate : (n : ℕ) → n ≤ 1000 → IsShortRow (last_gate_row n)
short_last_gate n most = record { small = (omega arith, (omega arith, (omega arith, tt))); few = omega arith }
