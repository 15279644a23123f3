-- A sound design has a valuation for each latch row and input row of its widths, and an acyclic circuit has at most one.
use Rattle.std.proofs.Common.{◌≡◌, ℕ, suc, zero, ◌+◌, ◌<◌, ◌≤◌, ◌&&◌, ◌||◌, ◌==◌, Bool, false, List, Some, length, get_or, set, replicate, slice_get, is_some, sym, ap, ap₂, ◌∙◌, subst, refl, arith, eqb-true, add-one, ext_get_or, ⊎_elim}
use Rattle.std.specs.List.{list_any}
use Rattle.std.specs.FinMap as finite_map
use Rattle.std.proofs.lemmas.Bool.{cases_Bool, cases_lt, or_cases}
use Rattle.std.proofs.lemmas.List.{length-map, length-replicate, get_or-replicate, get_or_past}
use Rattle.ja_base.specs.Literals.{bit, value, variable, with_sign}
use Rattle.ja_base.specs.Circuit.{Circuit, Latch, IsAcyclic, is_defined}
use Rattle.ja_base.specs.Valuation.{IsValuation}
use Rattle.aig_model.specs.Netlist.{Netlist, AreApart, IsSound, circuit, gate_var}
use Rattle.aig_eval.specs.Rows.{latch_var, input_vars, latch_vars, IsClear, Puts, PutsGates}
use Rattle.aig_eval.proofs.PlaceLemmas.{HasOwnVars, own_vars, map_at}
use Rattle.aig_eval.proofs.PutLemmas.{Puts-none, Puts-more, PutsGates-none, PutsGates-more}
use Rattle.aig_eval.proofs.DefinedLemmas.{item_at, found_in, some_value}
use Rattle.aig_eval.proofs.ValuationLemmas.{new_is_within, valuation}

module _ (c : Circuit) (acyclic : IsAcyclic c) (state input v w : List Bool)
    (a : IsValuation c state input v) (b : IsValuation c state input w) where
  same_input : (k u : ℕ) → slice_get c.inputs k ≡ Some u → bit v u ≡ bit w u
  same_input k u e =
      sym (map_at (bit v) c.inputs k u false e) ∙ ap (λ r. get_or r k false) (a.inputs ∙ sym b.inputs)
      ∙ map_at (bit w) c.inputs k u false e

  same_latch : (k : ℕ) (l : Latch) → slice_get c.latches k ≡ Some l → bit v l.var ≡ bit w l.var
  same_latch k l e =
      sym (map_at (λ (x : Latch). bit v x.var) c.latches k l false e) ∙ ap (λ r. get_or r k false) (a.latches ∙ sym b.latches)
      ∙ map_at (λ (x : Latch). bit w x.var) c.latches k l false e

  same_gate : (g : ℕ) (rights : ℕ × ℕ) → finite_map.get c.gates g ≡ Some rights
      → ((u : ℕ) → acyclic.height u < acyclic.height g → bit v u ≡ bit w u) → bit v g ≡ bit w g
  same_gate g rights e below =
      let rises = acyclic.rises g rights e in
      a.gates g rights e
      ∙ ap₂ (λ x y. x && y) (ap (with_sign rights.0) (below (variable rights.0) rises.0))
      (ap (with_sign rights.1) (below (variable rights.1) rises.1))
      ∙ sym (b.gates g rights e)

  -- variables that are lower agree, so this one does
  agree_from_below : (u : ℕ) → ((x : ℕ) → acyclic.height x < acyclic.height u → bit v x ≡ bit w x) → bit v u ≡ bit w u
  agree_from_below u below =
      ⊎_elim
      (λ defined. ⊎_elim
      (λ listed. ⊎_elim
      (λ t. let r = found_in (λ x. u == x) c.inputs t in
      let same = eqb-true u r.1 r.3 in ap (bit v) same ∙ same_input r.0 r.1 r.2 ∙ ap (bit w) (sym same))
      (λ t. let r = found_in (λ (l : Latch). u == l.var) c.latches t in
      let same = eqb-true u r.1.var r.3 in ap (bit v) same ∙ same_latch r.0 r.1 r.2 ∙ ap (bit w) (sym same))
      (or_cases (list_any (λ x. u == x) c.inputs) (list_any (λ (l : Latch). u == l.var) c.latches) listed))
      (λ t. let r = some_value (finite_map.get c.gates u) t in same_gate u r.0 r.1 below)
      (or_cases (list_any (λ x. u == x) c.inputs || list_any (λ (l : Latch). u == l.var) c.latches)
      (is_some (finite_map.get c.gates u)) defined))
      (λ undefined. a.rest u undefined ∙ sym (b.rest u undefined))
      (cases_Bool (is_defined c u))

  agree_below : (n u : ℕ) → acyclic.height u < n → bit v u ≡ bit w u
  agree_below zero u h = absurd (omega arith)
  agree_below (suc n) u h = agree_from_below u (λ x lower. agree_below n x (omega arith))

  pub agree : v ≡ w
  agree = ext_get_or false v w (a.width ∙ sym b.width) (λ u h. agree_below (suc (acyclic.height u)) u (omega arith))

-- all bits of a row of zeros are 0, and so are those past its end
pub bit-zeros : (m u : ℕ) → bit (replicate m false) u ≡ false
bit-zeros m u =
    ⊎_elim (λ h. get_or-replicate m u false false h)
    (λ h. get_or_past (replicate m false) u false (omega (arith, length-replicate m false))) (cases_lt u m)

pub zeros_are_clear : (c : Circuit) → IsClear c (replicate (c.vars + 1) false)
zeros_are_clear c = record { width = length-replicate (c.vars + 1) false; rest = λ u h. bit-zeros (c.vars + 1) u }

puts_exist : (vars : List ℕ) (bits old : List Bool) → AreApart vars → ((k : ℕ) → k < length vars → get_or vars k 0 < length old)
    → (m : ℕ) → m ≤ length vars → (new : List Bool) × Puts vars bits m old new
puts_exist vars bits old apart fit zero h = (old, Puts-none vars bits old)
puts_exist vars bits old apart fit (suc m) h =
    let r = puts_exist vars bits old apart fit m (omega arith) in
    let within : m < length vars = omega arith in
    let next = Puts-more vars bits m (get_or vars m 0) (bit bits m) old r.0 apart within refl refl (fit m within) r.1 in (
      set r.0 (get_or vars m 0) (bit bits m),
      subst (λ j. Puts vars bits j old (set r.0 (get_or vars m 0) (bit bits m)))
          (add-one m) next,
    )

gates_exist : (n : Netlist) → IsSound n → HasOwnVars n → (old : List Bool) → length old ≡ n.vars + 1
    → (m : ℕ) → m ≤ length n.gates → (new : List Bool) × PutsGates n.gates m old new
gates_exist n sound own old width zero h = (old, PutsGates-none n.gates old)
gates_exist n sound own old width (suc m) h =
    let r = gates_exist n sound own old width m (omega arith) in
    let item = item_at n.gates m (omega arith) in
    let gate = item.0 in
    let b = value r.0 gate.rhs0 && value r.0 gate.rhs1 in
    let fits : gate_var gate < length old = omega (arith, new_is_within n.vars gate.lhs (sound.gates m gate item.1).lhs) in
    let next = PutsGates-more n sound own m gate item.1 old r.0 b fits refl r.1 in
    (set r.0 (gate_var gate) b, subst (λ j. PutsGates n.gates j old (set r.0 (gate_var gate) b)) (add-one m) next)

inputs_exist : (n : Netlist) (input old : List Bool) → IsSound n → HasOwnVars n → length old ≡ n.vars + 1
    → (new : List Bool) × Puts (input_vars n) input (length n.inputs) old new
inputs_exist n input old sound own width =
    puts_exist (input_vars n) input old own.inputs
    (λ k h. let item = item_at n.inputs k (omega (arith, length-map n.inputs variable)) in
    omega (arith, map_at variable n.inputs k item.0 0 item.1, new_is_within n.vars item.0 (sound.inputs k item.0 item.1)))
    (length n.inputs) (omega (arith, length-map n.inputs variable))

latches_exist : (n : Netlist) (state old : List Bool) → IsSound n → HasOwnVars n → length old ≡ n.vars + 1
    → (new : List Bool) × Puts (latch_vars n) state (length n.latches) old new
latches_exist n state old sound own width =
    puts_exist (latch_vars n) state old own.latches
    (λ k h. let item = item_at n.latches k (omega (arith, length-map n.latches latch_var)) in
    omega (
      arith,
      map_at latch_var n.latches k item.0 0 item.1,
      new_is_within n.vars item.0.lit
          (sound.latches k item.0 item.1).lit,
    ))
    (length n.latches) (omega (arith, length-map n.latches latch_var))

pub valuation_exists : (n : Netlist) (state input : List Bool) → IsSound n → length state ≡ length n.latches
    → length input ≡ length n.inputs → (values : List Bool) × IsValuation (circuit n) state input values
valuation_exists n state input sound state_width input_width =
    let own = own_vars n sound in
    let v0 = replicate (n.vars + 1) false in
    let clear = zeros_are_clear (circuit n) in
    let ins = inputs_exist n input v0 sound own clear.width in
    let las = latches_exist n state ins.0 sound own (omega (arith, ins.1.width, clear.width)) in
    let gas = gates_exist n sound own las.0 (omega (arith, las.1.width, ins.1.width, clear.width)) (length n.gates)
    (omega arith) in
    (gas.0, valuation n sound own state input v0 ins.0 las.0 gas.0 state_width input_width ins.1 las.1 gas.1 clear)
