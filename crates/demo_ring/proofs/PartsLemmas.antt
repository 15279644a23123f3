-- The lists are in range, and they make a design.
use Rattle.std.proofs.Common.{◌≡◌, ℕ, ◌+◌, ◌-◌, ◌*◌, ◌/◌, ◌<◌, ◌≤◌, true, false, eqb, List, [], ◌∷◌, ◌++◌, length, map, refl, ap, ◌∙◌, arith}
use Rattle.std.specs.Prelude.{slice_index}
use Rattle.std.specs.List.{AllByRecursion, list_any, range_with_len}
use Rattle.std.proofs.lemmas.List.{map-append}
use Rattle.std.proofs.lemmas.List.FromFn.{length-range_with_len, get_or-range_with_len}
use Rattle.ja_base.specs.Literals.{variable}
use Rattle.aig_model.specs.declared.netlist.Latch.{Latch}
use Rattle.aig_model.specs.Netlist.{IsNew, gate_var, definitions}
use Rattle.aig_model.specs.Refusals.{netlist_of, uses, AreInRange, IsDefinedTwice, IsUndefined, ReachesCycle, MakesDesign}
use Rattle.aiger_lines.specs.Lines.{IsUsed}
use Rattle.aiger_lines.proofs.ListLemmas.{all_join, all_mapped, all_from_at}
use Rattle.aiger_lines.proofs.PartsLemmas.{IsLatchInRange, IsGateInRange, range_of_lists}
use Rattle.demo_ring.specs.DemoParts.{later_latch, demo_latches, neighbour_gate, last_gate, demo_gates, demo_bads, demo_parts}
use Rattle.demo_ring.proofs.RangeLemmas.{all_items, all_held, numbered, joined, in_range}
use Rattle.demo_ring.proofs.GateLemmas.{ReadsBelow, no_cycle}

-- ---- literals in range

new_literal : (vars v l : ℕ) → l ≡ 2 * v → 1 ≤ v → v ≤ vars → IsNew vars l
new_literal vars v l is low high = record { even = omega arith; above = omega arith; within = omega arith }

latches_in_range : (n : ℕ) → 3 ≤ n → AllByRecursion (IsLatchInRange (2 * n)) (demo_latches n)
latches_in_range n three = (
  record { lit = new_literal (2 * n) 1 2 refl (omega arith) (omega arith); next = omega arith },
  all_items (IsLatchInRange (2 * n)) later_latch 1 (n - 1) (λ i low high. record {
    lit = new_literal (2 * n) (i + 1) (2 * (i + 1)) refl (omega arith) (omega arith);
    next = omega arith;
  }),
)

gates_in_range : (n : ℕ) → 3 ≤ n → AllByRecursion (IsGateInRange (2 * n)) (demo_gates n)
gates_in_range n three =
    all_join (IsGateInRange (2 * n)) (map (neighbour_gate n) (range_with_len 0 (n - 1))) (last_gate n ∷ [])
    (all_items (IsGateInRange (2 * n)) (neighbour_gate n) 0 (n - 1) (λ i low high. record {
      lhs = new_literal (2 * n) (n + 1 + i) (2 * (n + 1 + i)) refl (omega arith) (omega arith);
      rhs0 = omega arith;
      rhs1 = omega arith;
    })) (
      record {
        lhs = new_literal (2 * n) (2 * n) (4 * n) (omega arith) (omega arith) (omega arith);
        rhs0 = omega arith;
        rhs1 = omega arith;
      },
      tt,
    )

bads_in_range : (n : ℕ) → 3 ≤ n → AllByRecursion (IsUsed (2 * n)) (demo_bads n)
bads_in_range n three =
    all_join (IsUsed (2 * n)) (map (λ i. 2 * (n + 1 + i)) (range_with_len 0 n)) ((2 * n) ∷ [])
    (all_items (IsUsed (2 * n)) (λ i. 2 * (n + 1 + i)) 0 n (λ i low high. omega arith)) (omega arith, tt)

pub parts_in_range : (n : ℕ) → 3 ≤ n → n ≤ 1000 → AreInRange (demo_parts n)
unfolding demo_parts
parts_in_range n three most =
    range_of_lists (2 * n) (demo_parts n) refl (omega arith)
    (record {
      inputs = tt;
      latches = latches_in_range n three;
      outputs = tt;
      bads = bads_in_range n three;
      constraints = tt;
      gates = gates_in_range n three;
    })

-- ---- each variable is defined once

latch_variables : (n : ℕ) → 3 ≤ n → map (λ (k : Latch). variable k.lit) (demo_latches n) ≡ range_with_len 1 n
latch_variables n three =
    ap (λ (vs : List ℕ). 1 ∷ vs)
    (numbered (λ (k : Latch). variable k.lit) later_latch 1 2 (n - 1) (λ i j e. omega arith))
    ∙ joined 1 1 (n - 1) 2 n refl (omega arith)

gate_variables : (n : ℕ) → 3 ≤ n → map gate_var (demo_gates n) ≡ range_with_len (n + 1) n
gate_variables n three =
    let last : 4 * n / 2 ≡ 2 * n = omega arith in
    map-append gate_var (map (neighbour_gate n) (range_with_len 0 (n - 1))) (last_gate n ∷ [])
    ∙ ap (λ (vs : List ℕ). vs ++ (4 * n / 2) ∷ [])
    (numbered gate_var (neighbour_gate n) 0 (n + 1) (n - 1) (λ i j e. omega arith))
    ∙ ap (λ (v : ℕ). range_with_len (n + 1) (n - 1) ++ v ∷ []) last
    ∙ joined (n + 1) (n - 1) 1 (2 * n) n (omega arith) (omega arith)

defined_variables : (n : ℕ) → 3 ≤ n → definitions (netlist_of (demo_parts n)) ≡ range_with_len 1 (2 * n)
unfolding demo_parts
defined_variables n three =
    ap (λ (vs : List ℕ). vs ++ map gate_var (demo_gates n)) (latch_variables n three)
    ∙ ap (λ (vs : List ℕ). range_with_len 1 n ++ vs) (gate_variables n three)
    ∙ joined 1 n n (n + 1) (2 * n) (omega arith) (omega arith)

-- in a range no number stands twice
no_number_twice : (k i j v : ℕ) (vs : List ℕ) → vs ≡ range_with_len 1 k → i < j → j < length vs → slice_index vs i ≡ v
    → slice_index vs j ≡ v → ⊥
no_number_twice k i j v vs is apart within one other =
    let long : length vs ≡ k = ap length is ∙ length-range_with_len 1 k in
    let here : slice_index vs i ≡ 1 + i =
    ap (λ (l : List ℕ). slice_index l i) is ∙ get_or-range_with_len 1 k i 0 (omega arith) in
    let there : slice_index vs j ≡ 1 + j =
    ap (λ (l : List ℕ). slice_index l j) is ∙ get_or-range_with_len 1 k j 0 (omega arith) in
    omega (arith, here, there, one, other)

once : (n v : ℕ) → 3 ≤ n → IsDefinedTwice (demo_parts n) v → ⊥
once n v three twice =
    no_number_twice (2 * n) twice.one twice.other v (definitions (netlist_of (demo_parts n))) (defined_variables n three)
    twice.apart twice.within twice.one_is twice.other_is

-- ---- what is used is defined

used_variables : (n : ℕ) → 3 ≤ n → n ≤ 1000 → AllByRecursion (λ v. v ≤ 2 * n) (map variable (uses (demo_parts n)))
unfolding demo_parts
used_variables n three most =
    all_mapped variable (IsUsed (2 * n)) (λ v. v ≤ 2 * n) (λ l used. omega arith) (uses (demo_parts n))
    (all_from_at (IsUsed (2 * n)) (uses (demo_parts n)) (parts_in_range n three most).used)

defined : (n v : ℕ) → 3 ≤ n → n ≤ 1000 → IsUndefined (demo_parts n) v → ⊥
defined n v three most undefined =
    let small : v ≤ 2 * n =
    all_held (λ u. u ≤ 2 * n) (map variable (uses (demo_parts n))) v (used_variables n three most) undefined.used in
    let found : list_any (λ u. eqb u v) (definitions (netlist_of (demo_parts n))) ≡ true =
    ap (list_any (λ u. eqb u v)) (defined_variables n three) ∙ in_range 1 (2 * n) v undefined.above (omega arith) in
    let missing : list_any (λ u. eqb u v) (definitions (netlist_of (demo_parts n))) ≡ false = undefined.undefined in
    cc

-- ---- gates read latches alone

gates_read_latches : (n : ℕ) → 3 ≤ n → AllByRecursion (ReadsBelow n) (demo_gates n)
gates_read_latches n three =
    all_join (ReadsBelow n) (map (neighbour_gate n) (range_with_len 0 (n - 1))) (last_gate n ∷ [])
    (all_items (ReadsBelow n) (neighbour_gate n) 0 (n - 1)
    (λ i low high. record { own = omega arith; rhs0 = omega arith; rhs1 = omega arith }))
    (record { own = omega arith; rhs0 = omega arith; rhs1 = omega arith }, tt)

acyclic : (n v : ℕ) → 3 ≤ n → ReachesCycle (demo_parts n).gates v → ⊥
unfolding demo_parts
acyclic n v three reaches = no_cycle n (demo_gates n) (gates_read_latches n three) v reaches

pub parts_make_design : (n : ℕ) → 3 ≤ n → n ≤ 1000 → MakesDesign (demo_parts n)
parts_make_design n three most = record {
  once = λ v twice. once n v three twice;
  defined = λ v undefined. defined n v three most undefined;
  acyclic = λ v reaches. acyclic n v three reaches;
}
