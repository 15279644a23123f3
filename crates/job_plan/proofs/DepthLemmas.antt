-- The depths of the first gates, and of one gate more.
use Rattle.std.proofs.Common.{◌≡◌, ℕ, ◌+◌, ◌<◌, ◌≤◌, max, List, Some, length, get_or, set, slice_get, sym, ap, ap₂, ◌∙◌, arith, length-set, get_or-set_other, get_or-set_same, below_more, subst, le_refl, ⊎_elim}
use Rattle.std.proofs.Math.Nat.{max-le}
use Rattle.std.proofs.lemmas.Bool.{cases_eq}
use Rattle.std.proofs.lemmas.Option.{same_Some}
use Rattle.ja_base.specs.Literals.{variable}
use Rattle.aig_model.specs.declared.netlist.AndGate.{AndGate}
use Rattle.aig_model.specs.Netlist.{Netlist, IsSound, gate_var}
use Rattle.job_plan.specs.Depths.{above}

-- no two gates have one variable
abbrev pub AreOwn : List AndGate → Type 0
AreOwn gates = (j k : ℕ) (g h : AndGate) → j < k → slice_get gates j ≡ Some g → slice_get gates k ≡ Some h
    → gate_var g ≡ gate_var h → ⊥

-- each of the first n gates is one deeper than its right sides, and nothing else is deep
pub record DepthsTo (n : Netlist) (at : ℕ) (depths : List ℕ) : Type 0 where
  pub width : length depths ≡ n.vars + 1
  pub put : (k : ℕ) (g : AndGate) → k < at → slice_get n.gates k ≡ Some g → get_or depths (gate_var g) 0 ≡ above depths g
  pub others : (u : ℕ) → ((k : ℕ) (g : AndGate) → k < at → slice_get n.gates k ≡ Some g → gate_var g ≡ u → ⊥)
      → get_or depths u 0 ≡ 0
  pub small : (u : ℕ) → get_or depths u 0 ≤ at

pub above_is_small : (depths : List ℕ) (g : AndGate) (at : ℕ) → ((u : ℕ) → get_or depths u 0 ≤ at) → above depths g ≤ at + 1
above_is_small depths g at small =
    let most = max-le (small (variable g.rhs0)) (small (variable g.rhs1)) in omega (arith, most)

module _ (n : Netlist) (sound : IsSound n) (own : AreOwn n.gates) (at : ℕ) (gate : AndGate)
    (is : slice_get n.gates at ≡ Some gate) (old : List ℕ) (depth : ℕ) where
  -- a gate that is not later stays as deep
  stays : (k : ℕ) (g : AndGate) → k ≤ at → slice_get n.gates k ≡ Some g → above (set old (gate_var gate) depth) g ≡ above old g
  stays k g h e =
      ap₂ (λ x y. max x y + 1)
      (get_or-set_other old (gate_var gate) (variable g.rhs0) depth 0 ((sound.gates k g e).before0 at gate h is))
      (get_or-set_other old (gate_var gate) (variable g.rhs1) depth 0 ((sound.gates k g e).before1 at gate h is))

  pub DepthsTo-more : gate_var gate < n.vars + 1 → depth ≡ above old gate → DepthsTo n at old
      → DepthsTo n (at + 1) (set old (gate_var gate) depth)
  DepthsTo-more fits is_depth p =
      let new = set old (gate_var gate) depth in
      let kept : (k : ℕ) → k < at → (g : AndGate) → slice_get n.gates k ≡ Some g → get_or new (gate_var g) 0 ≡ above new g
      = λ k h g e. get_or-set_other old (gate_var gate) (gate_var g) depth 0 (own k at g gate h e is) ∙ p.put k g h e
      ∙ sym (stays k g (omega arith) e) in
      let written : get_or new (gate_var gate) 0 ≡ depth
      = get_or-set_same old (gate_var gate) depth 0 (omega (arith, fits, p.width)) in
      let own_depth : get_or new (gate_var gate) 0 ≡ above new gate
      = written ∙ is_depth ∙ sym (stays at gate (le_refl at) is) in
      let here : (g : AndGate) → slice_get n.gates at ≡ Some g → get_or new (gate_var g) 0 ≡ above new g
      = λ g e. subst (λ x. get_or new (gate_var x) 0 ≡ above new x) (same_Some gate g (sym is ∙ e)) own_depth in
      let all = below_more (λ k. (g : AndGate) → slice_get n.gates k ≡ Some g → get_or new (gate_var g) 0 ≡ above new g)
      at kept here in
      let small_here : (u : ℕ) → u ≡ gate_var gate → get_or new u 0 ≤ at + 1
      = λ u e. let at_u : get_or new u 0 ≡ depth = ap (λ x. get_or new x 0) e ∙ written in
      omega (arith, at_u, is_depth, above_is_small old gate at p.small) in
      let small_else : (u : ℕ) → (u ≡ gate_var gate → ⊥) → get_or new u 0 ≤ at + 1
      = λ u other. omega (arith, get_or-set_other old (gate_var gate) u depth 0 other, p.small u) in
      record {
        width = length-set old (gate_var gate) depth ∙ p.width;
        put = λ k g h e. all k h g e;
        others = λ u h. get_or-set_other old (gate_var gate) u depth 0 (λ e. h at gate (omega arith) is (sym e))
            ∙ p.others u (λ k g l. h k g (omega arith));
        small = λ u. ⊎_elim (small_here u) (small_else u) (cases_eq u (gate_var gate));
      }
