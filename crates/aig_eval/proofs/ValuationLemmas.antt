-- What the three passes over a clear row leave is the valuation.
use Rattle.std.proofs.Common.{◌≡◌, ℕ, ◌+◌, ◌<◌, ◌&&◌, Bool, false, List, Some, length, map, slice_get, sym, ap, ◌∙◌, subst, arith, ext_get_or}
use Rattle.std.specs.FinMap as finite_map
use Rattle.std.proofs.lemmas.List.{length-map}
use Rattle.std.proofs.lemmas.Option.{slice_get_within}
use Rattle.ja_base.specs.Literals.{bit, value, variable}
use Rattle.ja_base.specs.Circuit as plain
use Rattle.ja_base.specs.Valuation.{IsValuation, input_row, latch_row}
use Rattle.aig_model.specs.declared.netlist.Latch.{Latch}
use Rattle.aig_model.specs.Netlist.{Netlist, IsSound, IsNew, circuit, latch_of, gate_var}
use Rattle.aig_eval.specs.Rows.{latch_var, input_vars, latch_vars, IsClear, Puts, PutsGates}
use Rattle.aig_eval.proofs.PlaceLemmas.{HasOwnVars, map_at}
use Rattle.aig_eval.proofs.DefinedLemmas.{IsFree, item_at, slice_get_mapped, has_gate, free_from_undefined, undefined_from_free}

-- what may be defined has a variable above 0 and up to the greatest
pub new_is_above : (vars l : ℕ) → IsNew vars l → 0 < variable l
new_is_above vars l new = omega (arith, new.above)

pub new_is_within : (vars l : ℕ) → IsNew vars l → variable l < vars + 1
new_is_within vars l new = omega (arith, new.within)

-- nothing defines the constant
pub constant_is_free : (n : Netlist) → IsSound n → IsFree n 0
constant_is_free n sound = record {
  no_input = λ k h same. let item = item_at n.inputs k h in
      omega (arith, new_is_above n.vars item.0 (sound.inputs k item.0 item.1), map_at variable n.inputs k item.0 0 item.1, same);
  no_latch = λ k h same. let item = item_at n.latches k h in
      omega (
        arith,
        new_is_above n.vars item.0.lit (sound.latches k item.0 item.1).lit,
        map_at latch_var n.latches k item.0 0
            item.1,
        same,
      );
  no_gate = λ k g h e same. omega (arith, new_is_above n.vars g.lhs (sound.gates k g e).lhs, same);
}

-- a row made from the latches, against the latches of the circuit
pub latches_mapped : (n : Netlist) (f : plain.Latch → Bool) (row : List Bool) → length row ≡ length n.latches
    → ((k : ℕ) (latch : Latch) → slice_get n.latches k ≡ Some latch → f (latch_of latch) ≡ bit row k)
    → map f (circuit n).latches ≡ row
latches_mapped n f row width each =
    ext_get_or false (map f (circuit n).latches) row (length-map (circuit n).latches f ∙ length-map n.latches latch_of
    ∙ sym width) (λ k h.
    let within : k < length n.latches = omega (arith, length-map (circuit n).latches f, length-map n.latches latch_of) in
    let item = item_at n.latches k within in
    map_at f (circuit n).latches k (latch_of item.0) false (slice_get_mapped latch_of n.latches k item.0 item.1)
    ∙ each k item.0 item.1)

-- v0 is the row before the three passes; v1, v2 and v3 are what they leave
module _ (n : Netlist) (sound : IsSound n) (own : HasOwnVars n) (state input v0 v1 v2 v3 : List Bool)
    (state_width : length state ≡ length n.latches) (input_width : length input ≡ length n.inputs)
    (ins : Puts (input_vars n) input (length n.inputs) v0 v1) (las : Puts (latch_vars n) state (length n.latches) v1 v2)
    (gas : PutsGates n.gates (length n.gates) v2 v3) where
  kept : (u : ℕ) → IsFree n u → bit v3 u ≡ bit v0 u
  kept u free = gas.others u free.no_gate ∙ las.others u free.no_latch ∙ ins.others u free.no_input

  latch_bit : (k : ℕ) (latch : Latch) → slice_get n.latches k ≡ Some latch → bit v3 (variable latch.lit) ≡ bit state k
  latch_bit k latch e =
      let within = slice_get_within n.latches k latch e in
      let is = map_at latch_var n.latches k latch 0 e in
      gas.others (variable latch.lit) (λ j g h at same. own.latch_gate k j (omega (arith, length-map n.latches latch_var))
      (omega (arith, length-map n.gates gate_var)) (is ∙ sym (map_at gate_var n.gates j g 0 at ∙ same)))
      ∙ ap (bit v2) (sym is) ∙ las.put k within

  input_bit : (k : ℕ) (l : ℕ) → slice_get n.inputs k ≡ Some l → bit v3 (variable l) ≡ bit input k
  input_bit k l e =
      let within = slice_get_within n.inputs k l e in
      let is = map_at variable n.inputs k l 0 e in
      let there : k < length (input_vars n) = omega (arith, length-map n.inputs variable) in
      gas.others (variable l) (λ j g h at same. own.input_gate k j there
      (omega (arith, length-map n.gates gate_var)) (is ∙ sym (map_at gate_var n.gates j g 0 at ∙ same)))
      ∙ las.others (variable l) (λ j h same. own.input_latch k j there
      (omega (arith, length-map n.latches latch_var)) (is ∙ sym same))
      ∙ ap (bit v1) (sym is) ∙ ins.put k within

  gate_bit : (u : ℕ) (rights : ℕ × ℕ) → finite_map.get (circuit n).gates u ≡ Some rights
      → bit v3 u ≡ (value v3 rights.0 && value v3 rights.1)
  gate_bit u rights e =
      let h = has_gate n u rights e in
      subst (λ w. bit v3 w ≡ (value v3 rights.0 && value v3 rights.1)) h.var
      (subst (λ (r : ℕ × ℕ). bit v3 (gate_var h.gate) ≡ (value v3 r.0 && value v3 r.1)) h.rights_are
      (gas.put h.place h.gate (slice_get_within n.gates h.place h.gate h.is) h.is))

  pub valuation : IsClear (circuit n) v0 → IsValuation (circuit n) state input v3
  valuation clear = record {
    width = gas.width ∙ las.width ∙ ins.width ∙ clear.width;
    constant = let free = constant_is_free n sound in kept 0 free ∙ clear.rest 0 (undefined_from_free n 0 free);
    latches = latches_mapped n (λ (l : plain.Latch). bit v3 l.var) state state_width latch_bit;
    inputs = ext_get_or false (input_row (circuit n) v3) input (length-map (input_vars n) (bit v3) ∙ length-map n.inputs variable
        ∙ sym input_width)
        (λ k h. let within : k < length n.inputs = omega
        (arith, length-map (input_vars n) (bit v3), length-map n.inputs variable) in
        let item = item_at n.inputs k within in
        map_at (bit v3) (input_vars n) k (variable item.0) false (slice_get_mapped variable n.inputs k item.0 item.1)
        ∙ input_bit k item.0 item.1);
    gates = gate_bit;
    rest = λ u undefined. kept u (free_from_undefined n u undefined) ∙ clear.rest u undefined;
  }

-- the same where the latch row and the input row are those of a row of values
pub filled : (n : Netlist) → IsSound n → HasOwnVars n → (row v0 v1 v2 v3 : List Bool)
    → Puts (input_vars n) (input_row (circuit n) row) (length n.inputs) v0 v1
    → Puts (latch_vars n) (latch_row (circuit n) row) (length n.latches) v1 v2
    → PutsGates n.gates (length n.gates) v2 v3 → IsClear (circuit n) v0
    → IsValuation (circuit n) (latch_row (circuit n) row) (input_row (circuit n) row) v3
filled n sound own row v0 v1 v2 v3 ins las gas clear =
    valuation n sound own (latch_row (circuit n) row) (input_row (circuit n) row) v0 v1 v2 v3
    (length-map (circuit n).latches (λ (l : plain.Latch). bit row l.var) ∙ length-map n.latches latch_of)
    (length-map (input_vars n) (bit row) ∙ length-map n.inputs variable) ins las gas clear
