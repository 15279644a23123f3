-- One more bit, and one more gate, written into a row of values.
use Rattle.std.proofs.Common.{◌≡◌, ℕ, ◌+◌, ◌<◌, ◌≤◌, ◌&&◌, Bool, false, List, Some, length, get_or, set, slice_get, sym, ap, ap₂, ◌∙◌, refl, arith, length-set, get_or-set_other, get_or-set_same, below_more, subst, le_refl}
use Rattle.std.proofs.lemmas.List.{length-map}
use Rattle.std.proofs.lemmas.Option.{same_Some, slice_get_within}
use Rattle.ja_base.specs.Literals.{bit, value, variable, with_sign}
use Rattle.aig_model.specs.declared.netlist.AndGate.{AndGate}
use Rattle.aig_model.specs.Netlist.{Netlist, AreApart, IsSound, gate_var}
use Rattle.aig_eval.specs.Rows.{Puts, PutsGates}
use Rattle.aig_eval.proofs.PlaceLemmas.{HasOwnVars, map_at, gate_vars}

pub Puts-none : (vars : List ℕ) (bits old : List Bool) → Puts vars bits 0 old old
Puts-none vars bits old = record { width = refl; put = λ k h. absurd (omega arith); others = λ u h. refl }

pub Puts-more : (vars : List ℕ) (bits : List Bool) (n v : ℕ) (b : Bool) (old new : List Bool) → AreApart vars
    → n < length vars → get_or vars n 0 ≡ v → b ≡ bit bits n → v < length old → Puts vars bits n old new
    → Puts vars bits (n + 1) old (set new v b)
Puts-more vars bits n v b old new apart within is is_bit fits p =
    let kept : (k : ℕ) → k < n → bit (set new v b) (get_or vars k 0) ≡ bit bits k
    = λ k h. get_or-set_other new v (get_or vars k 0) b false (λ e. apart k n h within (e ∙ sym is)) ∙ p.put k h in
    let here : bit (set new v b) (get_or vars n 0) ≡ bit bits n
    = ap (bit (set new v b)) is ∙ get_or-set_same new v b false (omega (arith, p.width)) ∙ is_bit in
    record {
      width = length-set new v b ∙ p.width;
      put = below_more (λ k. bit (set new v b) (get_or vars k 0) ≡ bit bits k) n kept here;
      others = λ u h. get_or-set_other new v u b false (λ e. h n (omega arith) (is ∙ sym e))
          ∙ p.others u (λ k l. h k (omega arith));
    }

pub value-set_other : (row : List Bool) (v l : ℕ) (b : Bool) → (variable l ≡ v → ⊥) → value (set row v b) l ≡ value row l
value-set_other row v l b apart = ap (with_sign l) (get_or-set_other row v (variable l) b false apart)

pub PutsGates-none : (gates : List AndGate) (old : List Bool) → PutsGates gates 0 old old
PutsGates-none gates old = record { width = refl; put = λ k g h. absurd (omega arith); others = λ u h. refl }

module _ (n : Netlist) (sound : IsSound n) (own : HasOwnVars n) (at : ℕ) (gate : AndGate)
    (is : slice_get n.gates at ≡ Some gate) (old new : List Bool) (b : Bool) where
  -- a gate that is not later keeps its equation
  keeps_gate : (k : ℕ) (g : AndGate) → k ≤ at → slice_get n.gates k ≡ Some g
      → (value (set new (gate_var gate) b) g.rhs0 && value (set new (gate_var gate) b) g.rhs1) ≡
      (value new g.rhs0 && value new g.rhs1)
  keeps_gate k g h e =
      ap₂ (λ x y. x && y)
      (value-set_other new (gate_var gate) g.rhs0 b ((sound.gates k g e).before0 at gate h is))
      (value-set_other new (gate_var gate) g.rhs1 b ((sound.gates k g e).before1 at gate h is))

  pub PutsGates-more : gate_var gate < length old → b ≡ (value new gate.rhs0 && value new gate.rhs1)
      → PutsGates n.gates at old new
      → PutsGates n.gates (at + 1) old (set new (gate_var gate) b)
  PutsGates-more fits is_b p =
      let row = set new (gate_var gate) b in
      let within : at < length (gate_vars n) = omega (arith, length-map n.gates gate_var, slice_get_within n.gates at gate is) in
      let apart : (k : ℕ) (g : AndGate) → k < at → slice_get n.gates k ≡ Some g → gate_var g ≡ gate_var gate → ⊥
      = λ k g h e same. own.gates k at h within (map_at gate_var n.gates k g 0 e ∙ same
      ∙ sym (map_at gate_var n.gates at gate 0 is)) in
      let kept : (k : ℕ) → k < at → (g : AndGate) → slice_get n.gates k ≡ Some g
      → bit row (gate_var g) ≡ (value row g.rhs0 && value row g.rhs1)
      = λ k h g e. get_or-set_other new (gate_var gate) (gate_var g) b false (apart k g h e) ∙ p.put k g h e
      ∙ sym (keeps_gate k g (omega arith) e) in
      let own_value : bit row (gate_var gate) ≡ (value row gate.rhs0 && value row gate.rhs1)
      = get_or-set_same new (gate_var gate) b false (omega (arith, p.width)) ∙ is_b ∙ sym (keeps_gate at gate (le_refl at) is) in
      let here : (g : AndGate) → slice_get n.gates at ≡ Some g → bit row (gate_var g) ≡ (value row g.rhs0 && value row g.rhs1)
      = λ g e. subst (λ x. bit row (gate_var x) ≡ (value row x.rhs0 && value row x.rhs1)) (same_Some gate g (sym is
      ∙ e)) own_value in
      let all = below_more (λ k. (g : AndGate) → slice_get n.gates k ≡ Some g
      → bit row (gate_var g) ≡ (value row g.rhs0 && value row g.rhs1)) at kept here in
      record {
        width = length-set new (gate_var gate) b ∙ p.width;
        put = λ k g h e. all k h g e;
        others = λ u h. get_or-set_other new (gate_var gate) u b false (λ e. h at gate (omega arith) is (sym e))
            ∙ p.others u (λ k g l. h k g (omega arith));
      }
