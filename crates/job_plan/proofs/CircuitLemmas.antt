-- The gates of a circuit are those of its list.
use Rattle.std.proofs.Common.{◌≡◌, ℕ, zero, suc, ◌+◌, ◌<◌, ◌≤◌, Bool, true, false, cond, max, List, [], ◌∷◌, ◌++◌, Option, Some, None, length, map, get_or, replicate, slice_get, sym, ap, ◌∙◌, arith, nat_cmp, ⊎_elim}
use Rattle.std.specs.FinMap as finite_map
use Rattle.std.specs.FinMap.{get-from_entries, find}
use Rattle.std.specs.Cmp.{nat_cmp_total, unsigned_tied}
use Rattle.std.specs.Ordering.{eq_by_cmp}
use Rattle.std.proofs.lemmas.Bool.{cases_lt, eq-eqb}
use Rattle.std.proofs.lemmas.List.{length-map, length-append, get_or-append-add, get_or-map, get_or_past, get_or-replicate, length-replicate}
use Rattle.std.proofs.lemmas.Option.{none-some, same_Some, slice_get_within, get_or_from_slice_get}
use Rattle.ja_base.specs.Literals.{variable}
use Rattle.aig_model.specs.declared.netlist.AndGate.{AndGate}
use Rattle.aig_model.specs.declared.netlist.Latch.{Latch}
use Rattle.aig_model.specs.Netlist.{Netlist, IsNew, IsSound, circuit, entry_of, gate_var}
use Rattle.aig_model.proofs.GateHeights.{entry_has_gate}
use Rattle.job_plan.specs.Depths.{AreDepths}
use Rattle.job_plan.proofs.DepthLemmas.{AreOwn, DepthsTo}

found_later : (first : ℕ × ℕ) (rest : Option (ℕ × ℕ)) (b : Bool) → cond b (Some first) rest ≡ None → (rest ≡ None → ⊥) → ⊥
found_later first rest true none later = none-some first (sym none)
found_later first rest false none later = later none

-- a gate of the list has an entry
found : (gates : List AndGate) (k : ℕ) (g : AndGate) → slice_get gates k ≡ Some g
    → find nat_cmp (gate_var g) (map entry_of gates) ≡ None → ⊥
found [] k g is none = absurd (cc)
found (x ∷ gates) zero g is none =
    let same : eq_by_cmp nat_cmp (gate_var g) (gate_var x) ≡ true = unsigned_tied (gate_var g) (gate_var x)
    ∙ eq-eqb (gate_var g) (gate_var x) (ap gate_var (sym (same_Some x g is))) in
    none-some (entry_of x).1 (sym none
    ∙ ap (λ (b : Bool). cond b (Some (entry_of x).1) (find nat_cmp (gate_var g) (map entry_of gates))) same)
found (x ∷ gates) (suc k) g is none =
    found_later (entry_of x).1 (find nat_cmp (gate_var g) (map entry_of gates)) (eq_by_cmp nat_cmp (gate_var g) (gate_var x)) none
    (found gates k g is)

-- what stands before the gates' variables
abbrev front : Netlist → List ℕ
front n = map variable n.inputs ++ map (λ (k : Latch). variable k.lit) n.latches

gate_place : (n : Netlist) (k : ℕ) (g : AndGate) → slice_get n.gates k ≡ Some g
    → get_or (map gate_var n.gates) k 0 ≡ gate_var g
gate_place n k g e = get_or-map gate_var n.gates k g 0 (slice_get_within n.gates k g e)
    ∙ ap gate_var (get_or_from_slice_get n.gates k g g e)

pub own_gates : (n : Netlist) → IsSound n → AreOwn n.gates
own_gates n sound j k g h lt at_j at_k same =
    let gates = map gate_var n.gates in
    let behind = slice_get_within n.gates k h at_k in
    sound.once (length (front n) + j) (length (front n) + k) (omega (arith, lt))
    (omega (arith, behind, length-append (front n) gates, length-map n.gates gate_var))
    (get_or-append-add (front n) gates j 0 ∙ gate_place n j g at_j ∙ same ∙ sym (gate_place n k h at_k)
    ∙ sym (get_or-append-add (front n) gates k 0))

pub new_is_within : (vars l : ℕ) → IsNew vars l → variable l < vars + 1
new_is_within vars l new = omega (arith, new.within)

pub no_depths : (n : Netlist) → DepthsTo n 0 (replicate (n.vars + 1) 0)
no_depths n = record {
  width = length-replicate {A = ℕ} (n.vars + 1) 0;
  put = λ k g h. absurd (omega (arith, h));
  others = λ u free. zero_at u;
  small = λ u. omega (arith, zero_at u);
}
  where
    zero_at : (u : ℕ) → get_or {A = ℕ} (replicate (n.vars + 1) 0) u 0 ≡ 0
    zero_at u = ⊎_elim (λ lt. get_or-replicate {A = ℕ} (n.vars + 1) u 0 0 lt)
        (λ past. get_or_past (replicate (n.vars + 1) 0) u 0 (omega (arith, past, length-replicate {A = ℕ} (n.vars + 1) 0)))
        (cases_lt u (n.vars + 1))

pub depths_of_all : (n : Netlist) (at : ℕ) (depths : List ℕ) → length n.gates ≤ at → DepthsTo n at depths → AreDepths n depths
depths_of_all n at depths all d = record { width = d.width; are = record { gates = gates; others = others } }
  where
    gates : (g : ℕ) (rights : ℕ × ℕ) → finite_map.get (circuit n).gates g ≡ Some rights
        → get_or depths g 0 ≡ max (get_or depths (variable rights.0) 0) (get_or depths (variable rights.1) 0) + 1
    gates u rights is =
        let h = entry_has_gate n u rights is in
        let put = d.put h.place h.gate (omega (arith, all, slice_get_within n.gates h.place h.gate h.is)) h.is in
        ap (λ x. get_or depths x 0) (sym h.var) ∙ put
        ∙ ap (λ (r : ℕ × ℕ). max (get_or depths (variable r.0) 0) (get_or depths (variable r.1) 0) + 1) h.rights_are

    others : (u : ℕ) → finite_map.get (circuit n).gates u ≡ None → get_or depths u 0 ≡ 0
    others u none = d.others u (λ k g lt is var. found n.gates k g is
        (ap (λ x. find nat_cmp x (map entry_of n.gates)) var ∙ sym (get-from_entries nat_cmp_total (map entry_of n.gates) u)
        ∙ none))
