-- What a gate's clauses say, and where the circuit has the gate.
use Rattle.std.proofs.Common.{◌≡◌, ℕ, zero, suc, ◌+◌, ◌%◌, ◌&&◌, ◌||◌, Bool, true, false, not, cond, List, [], ◌∷◌, ◌++◌, length, map, Option, Some, slice_get, refl, sym, ap, ◌∙◌, arith}
use Rattle.std.specs.FinMap as finite_map
use Rattle.std.specs.FinMap.{get-from_entries, find}
use Rattle.std.specs.Cmp.{nat_cmp_total, unsigned_tied}
use Rattle.std.specs.Ordering.{nat_cmp, eq_by_cmp}
use Rattle.std.specs.List.{AllByRecursion}
use Rattle.std.proofs.lemmas.Bool.{eq-eqb}
use Rattle.std.proofs.lemmas.Bool.Decides.{nat_tests}
use Rattle.ja_base.specs.Literals.{bit, variable, is_negated, negated, value, SatisfiedBy}
use Rattle.ja_base.proofs.LiteralLemmas.{value_negated}
use Rattle.aig_model.specs.declared.netlist.AndGate.{AndGate}
use Rattle.aig_model.specs.declared.netlist.Latch.{Latch}
use Rattle.aig_model.specs.Netlist.{Netlist, IsSound, circuit, definitions, entry_of, gate_var}
use Rattle.aig_model.proofs.GateHeights.{entry_has_gate}
use Rattle.aig_model.proofs.Places.{get_right, get_map, one_place}
use Rattle.ja_project.specs.CodedClauses.{gate_clauses}
use Rattle.ja_project.proofs.ClauseLemmas.{any_clause}

gate_from : (g a b : Bool) → (not g || (a || false)) ≡ true → (not g || (b || false)) ≡ true
    → (g || (not a || (not b || false))) ≡ true → g ≡ (a && b)
gate_from true true true x y z = refl
gate_from true true false x y z = absurd cc
gate_from true false b x y z = absurd cc
gate_from false true true x y z = absurd cc
gate_from false true false x y z = refl
gate_from false false b x y z = refl

gate_left : (a b : Bool) → (not (a && b) || (a || false)) ≡ true
gate_left true true = refl
gate_left true false = refl
gate_left false b = refl

gate_right : (a b : Bool) → (not (a && b) || (b || false)) ≡ true
gate_right true true = refl
gate_right true false = refl
gate_right false b = refl

gate_both : (a b : Bool) → ((a && b) || (not a || (not b || false))) ≡ true
gate_both true true = refl
gate_both true false = refl
gate_both false b = refl

module _ (row : List Bool) where
  pub value_even : (l : ℕ) → l % 2 ≡ 0 → value row l ≡ bit row (variable l)
  value_even l even = let plain : is_negated l ≡ false = grind (arith, nat_tests) in rw plain refl

  -- the three clauses, by the values of the gate and its right sides
  at_left : (g : AndGate)
      → ◌≡◌ (value row (negated g.lhs) || (value row g.rhs0 || false)) (not (value row g.lhs) || (value row g.rhs0 || false))
  at_left g = ap (λ (b : Bool). b || (value row g.rhs0 || false)) (value_negated row g.lhs)

  at_right : (g : AndGate)
      → ◌≡◌ (value row (negated g.lhs) || (value row g.rhs1 || false)) (not (value row g.lhs) || (value row g.rhs1 || false))
  at_right g = ap (λ (b : Bool). b || (value row g.rhs1 || false)) (value_negated row g.lhs)

  at_both : (g : AndGate)
      → ◌≡◌ (value row g.lhs || (value row (negated g.rhs0) || (value row (negated g.rhs1) || false)))
      (value row g.lhs || (not (value row g.rhs0) || (not (value row g.rhs1) || false)))
  at_both g =
      ap (λ (b : Bool). value row g.lhs || (b || (value row (negated g.rhs1) || false))) (value_negated row g.rhs0)
      ∙ ap (λ (b : Bool). value row g.lhs || (not (value row g.rhs0) || (b || false))) (value_negated row g.rhs1)

  pub gate_holds : (g : AndGate) → AllByRecursion (SatisfiedBy (value row)) (gate_clauses g)
      → value row g.lhs ≡ (value row g.rhs0 && value row g.rhs1)
  gate_holds g h =
      gate_from (value row g.lhs) (value row g.rhs0) (value row g.rhs1)
      (sym (at_left g) ∙ sym (any_clause (value row) (negated g.lhs ∷ g.rhs0 ∷ [])) ∙ h.0)
      (sym (at_right g) ∙ sym (any_clause (value row) (negated g.lhs ∷ g.rhs1 ∷ [])) ∙ h.1.0)
      (sym (at_both g) ∙ sym (any_clause (value row) (g.lhs ∷ negated g.rhs0 ∷ negated g.rhs1 ∷ [])) ∙ h.1.1.0)

  pub holds_gate : (g : AndGate) → value row g.lhs ≡ (value row g.rhs0 && value row g.rhs1)
      → AllByRecursion (SatisfiedBy (value row)) (gate_clauses g)
  holds_gate g e =
      let a = value row g.rhs0 in
      let b = value row g.rhs1 in
      let left = any_clause (value row) (negated g.lhs ∷ g.rhs0 ∷ []) ∙ at_left g ∙ ap (λ (v : Bool). not v || (a || false)) e
      ∙ gate_left a b in
      let right = any_clause (value row) (negated g.lhs ∷ g.rhs1 ∷ []) ∙ at_right g ∙ ap (λ (v : Bool). not v || (b || false)) e
      ∙ gate_right a b in
      let both = any_clause (value row) (g.lhs ∷ negated g.rhs0 ∷ negated g.rhs1 ∷ []) ∙ at_both g
      ∙ ap (λ (v : Bool). v || (not a || (not b || false))) e ∙ gate_both a b in
      (left, (right, (both, tt)))

-- ---- the gates of the circuit

-- some gate of the list has the variable
is_found : (gates : List AndGate) (k : ℕ) (g : AndGate) → slice_get gates k ≡ Some g
    → (rights : ℕ × ℕ) × (find nat_cmp (gate_var g) (map entry_of gates) ≡ Some rights)
is_found [] k g is = absurd cc
is_found (x ∷ gates) zero g is =
    let same : x ≡ g = cc in
    let here : eq_by_cmp nat_cmp (gate_var g) (gate_var x) ≡ true = unsigned_tied (gate_var g) (gate_var x)
    ∙ eq-eqb (gate_var g) (gate_var x) (ap gate_var (sym same)) in
    ((entry_of x).1, ap (λ (b : Bool). cond b (Some (entry_of x).1) (find nat_cmp (gate_var g) (map entry_of gates))) here)
is_found (x ∷ gates) (suc k) g is = by_test (eq_by_cmp nat_cmp (gate_var g) (gate_var x)) (is_found gates k g is)
  where
    by_test : (b : Bool) → (rights : ℕ × ℕ) × (find nat_cmp (gate_var g) (map entry_of gates) ≡ Some rights)
        → (rights : ℕ × ℕ) × (cond b (Some (entry_of x).1) (find nat_cmp (gate_var g) (map entry_of gates)) ≡ Some rights)
    by_test true h = ((entry_of x).1, refl)
    by_test false h = h

-- the gates' variables stand behind those of inputs and latches
gates_behind : Netlist → List ℕ
gates_behind n = map variable n.inputs ++ map (λ (k : Latch). variable k.lit) n.latches

place_of_gate : (n : Netlist) (k : ℕ) (g : AndGate) → slice_get n.gates k ≡ Some g
    → slice_get (definitions n) (length (gates_behind n) + k) ≡ Some (gate_var g)
unfolding gates_behind
place_of_gate n k g is = get_right (gates_behind n) (map gate_var n.gates) k (gate_var g) (get_map gate_var n.gates k g is)

-- the circuit has each gate of the list
pub gate_of_circuit : (n : Netlist) → IsSound n → (k : ℕ) (g : AndGate) → slice_get n.gates k ≡ Some g
    → finite_map.get (circuit n).gates (gate_var g) ≡ Some (g.rhs0, g.rhs1)
gate_of_circuit n sound k g is =
    let some = is_found n.gates k g is in
    let get : finite_map.get (circuit n).gates (gate_var g) ≡ Some some.0 = get-from_entries nat_cmp_total (map entry_of n.gates)
    (gate_var g) ∙ some.1 in
    let h = entry_has_gate n (gate_var g) some.0 get in
    let places : length (gates_behind n) + h.place ≡ length (gates_behind n) + k
    = one_place (definitions n) (length (gates_behind n) + h.place) (length (gates_behind n) + k) (gate_var h.gate)
    (gate_var g) sound.once
    (place_of_gate n h.place h.gate h.is) (place_of_gate n k g is) h.var in
    let place : h.place ≡ k = omega (arith, places) in
    let same : ◌≡◌ {A = Option AndGate} (Some h.gate) (Some g) = sym h.is ∙ ap (slice_get n.gates) place ∙ is in
    let gate : h.gate ≡ g = cc in
    get ∙ ap (λ (r : ℕ × ℕ). Some r) (sym h.rights_are ∙ ap (λ (x : AndGate). (entry_of x).1) gate)
