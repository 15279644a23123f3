-- The height of a variable in a gate list: one more than the place of its last gate, 0 where it has none.
use Rattle.std.proofs.Common.{◌≡◌, ◌≢◌, ℕ, zero, suc, ◌<◌, ◌≤◌, Bool, true, false, cond, eqb, List, [], ◌∷◌, Some, map, slice_get, refl, sym, ap, ◌∙◌, arith}
use Rattle.std.specs.FinMap as finite_map
use Rattle.std.specs.FinMap.{get-from_entries, find}
use Rattle.std.specs.Cmp.{nat_cmp_total, unsigned_ties}
use Rattle.std.specs.Ordering.{nat_cmp, eq_by_cmp}
use Rattle.std.proofs.lemmas.Bool.{ne_eqb, eq-eqb, eqb-true}
use Rattle.ja_base.specs.Literals.{variable}
use Rattle.ja_base.specs.Circuit.{IsAcyclic}
use Rattle.aig_model.specs.declared.netlist.AndGate.{AndGate}
use Rattle.aig_model.specs.Netlist.{Netlist, IsSound, circuit, entry_of, gate_var}

-- the height with a gate of the variable in front, or another one
abbrev above : Bool → ℕ → ℕ
above here zero = cond here 1 0
above here (suc h) = suc (suc h)

abbrev pub height : List AndGate → ℕ → ℕ
height [] u = 0
height (g ∷ gs) u = above (eqb (gate_var g) u) (height gs u)

above_here : (here : Bool) (h : ℕ) → here ≡ true → 0 < above here h
above_here here zero e = rw e (omega arith)
above_here here (suc h) e = omega arith

above_later : (here : Bool) (k h : ℕ) → k < h → suc k < above here h
above_later here k zero lt = absurd (omega arith)
above_later here k (suc h) lt = omega arith

above_none : (here : Bool) (h : ℕ) → here ≡ false → h ≤ 0 → above here h ≤ 0
above_none here zero e le = rw e (omega arith)
above_none here (suc h) e le = absurd (omega arith)

above_within : (here : Bool) (a h : ℕ) → h ≤ a → above here h ≤ suc a
above_within true a zero le = omega arith
above_within false a zero le = omega arith
above_within here a (suc h) le = omega arith

-- a gate at place k lifts its variable above k
pub height_at : (gs : List AndGate) (k : ℕ) (gate : AndGate) (u : ℕ) → slice_get gs k ≡ Some gate → gate_var gate ≡ u
    → k < height gs u
height_at [] k gate u at is = absurd (cc)
height_at (g ∷ gs) zero gate u at is =
    let same : g ≡ gate = cc in
    above_here (eqb (gate_var g) u) (height gs u) (eq-eqb _ _ (ap gate_var same ∙ is))
height_at (g ∷ gs) (suc k) gate u at is = above_later (eqb (gate_var g) u) k (height gs u) (height_at gs k gate u at is)

-- a variable of no gate from a place on is no higher than that place
pub height_before : (gs : List AndGate) (at u : ℕ)
    → ((j : ℕ) (later : AndGate) → at ≤ j → slice_get gs j ≡ Some later → u ≢ gate_var later) → height gs u ≤ at
height_before [] at u before = omega arith
height_before (g ∷ gs) zero u before =
    above_none (eqb (gate_var g) u) (height gs u) (ne_eqb _ _ (λ e. before 0 g (omega arith) refl (sym e)))
    (height_before gs zero u (λ j later le is. before (suc j) later (omega arith) is))
height_before (g ∷ gs) (suc at) u before =
    above_within (eqb (gate_var g) u) at (height gs u)
    (height_before gs at u (λ j later le is. before (suc j) later (omega arith) is))

-- a gate of the list with this variable and these right sides
pub record HasEntry (gs : List AndGate) (u : ℕ) (rights : ℕ × ℕ) : Type 0 where
  pub place : ℕ
  pub gate : AndGate
  pub is : slice_get gs place ≡ Some gate
  pub var : gate_var gate ≡ u
  pub rights_are : (entry_of gate).1 ≡ rights

HasEntry-later : (g : AndGate) (gs : List AndGate) (u : ℕ) (rights : ℕ × ℕ) → HasEntry gs u rights → HasEntry (g ∷ gs) u rights
HasEntry-later g gs u rights h = record { place = suc h.place; gate = h.gate; is = h.is; var = h.var; rights_are = h.rights_are }

found_cases : (b : Bool) (g : AndGate) (gs : List AndGate) (u : ℕ) (rights : ℕ × ℕ) → (b ≡ true → gate_var g ≡ u)
    → (find nat_cmp u (map entry_of gs) ≡ Some rights → HasEntry gs u rights)
    → cond b (Some (entry_of g).1) (find nat_cmp u (map entry_of gs)) ≡ Some rights → HasEntry (g ∷ gs) u rights
found_cases true g gs u rights var later is = record { place = 0; gate = g; is = refl; var = var refl; rights_are = cc }
found_cases false g gs u rights var later is = HasEntry-later g gs u rights (later is)

tied : (u v : ℕ) → eq_by_cmp nat_cmp u v ≡ true → v ≡ u
tied u v e = sym (eqb-true u v (unsigned_ties u v ∙ e))

pub found : (gs : List AndGate) (u : ℕ) (rights : ℕ × ℕ) → find nat_cmp u (map entry_of gs) ≡ Some rights → HasEntry gs u rights
found [] u rights is = absurd (cc)
found (g ∷ gs) u rights is = found_cases (eq_by_cmp nat_cmp u (gate_var g)) g gs u rights (tied u (gate_var g))
    (found gs u rights) is

-- the entry that the circuit has for a variable is that of a gate
pub entry_has_gate : (n : Netlist) (u : ℕ) (rights : ℕ × ℕ) → finite_map.get (circuit n).gates u ≡ Some rights
    → HasEntry n.gates u rights
entry_has_gate n u rights is = found n.gates u rights (sym (get-from_entries nat_cmp_total (map entry_of n.gates) u) ∙ is)

pub acyclic_from_sound : (n : Netlist) → IsSound n → IsAcyclic (circuit n)
acyclic_from_sound n sound =
    record {
      height = height n.gates;
      rises = λ u rights is.
          let h = entry_has_gate n u rights is in
          let ok = sound.gates h.place h.gate h.is in
          let here = height_at n.gates h.place h.gate u h.is h.var in
          let e0 : h.gate.rhs0 ≡ rights.0 = ap (λ (r : ℕ × ℕ). r.0) h.rights_are in
          let e1 : h.gate.rhs1 ≡ rights.1 = ap (λ (r : ℕ × ℕ). r.1) h.rights_are in
          let b0 = height_before n.gates h.place (variable h.gate.rhs0) ok.before0 in
          let b1 = height_before n.gates h.place (variable h.gate.rhs1) ok.before1 in
          (rw (← e0) (omega arith), rw (← e1) (omega arith));
    }
