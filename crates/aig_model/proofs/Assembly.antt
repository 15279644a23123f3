-- A design from lists that break no rule, with its gates in an order: it is sound, and its circuit is that of the lists.
use Rattle.std.proofs.Common.{◌≡◌, ◌≢◌, ℕ, zero, suc, ◌+◌, ◌<◌, true, false, eqb, Option, Some, None, List, [], ◌∷◌, ◌++◌, length, map, slice_get, ◌⊎◌, inl, inr, ⊎_elim, refl, sym, ap, ◌∙◌, arith}
use Rattle.std.specs.List.{list_any}
use Rattle.std.specs.FinMap as finite_map
use Rattle.std.specs.FinMap.{get-from_entries, find, same_map, nat_cmp-IsAntisymmetric}
use Rattle.std.specs.Cmp.{nat_cmp_total, unsigned_ties}
use Rattle.std.specs.Ordering.{nat_cmp, eq_by_cmp}
use Rattle.std.proofs.lemmas.List.Folds.{list_any-append}
use Rattle.std.proofs.lemmas.Option.{slice_get_within}
use Rattle.std.proofs.lemmas.Bool.{cases_Bool, eqb-true, eq-eqb, ne_eqb, or_cases, or_left, or_right, cond-true, cond-false}
use Rattle.ja_base.specs.Literals.{variable}
use Rattle.ja_base.specs.Circuit as plain
use Rattle.aig_model.specs.declared.netlist.Latch.{Latch}
use Rattle.aig_model.specs.declared.netlist.AndGate.{AndGate}
use Rattle.aig_model.specs.declared.netlist.Parts.{Parts}
use Rattle.aig_model.specs.Netlist.{circuit, entry_of, gate_var, definitions, IsKnown, AreApart, IsSound}
use Rattle.aig_model.specs.Refusals.{netlist_of, with_gates, uses, AreInRange, AreOnce, AreDefined, MakesDesign}
use Rattle.aig_model.specs.Order.{HasGate, IsOrderOf, AreGates, Has}
use Rattle.aig_model.proofs.Places.{get_left, get_right, get_map, map_cases, append_cases, apart_at, AreApart-from_at}
use Rattle.aig_model.proofs.GateHeights.{found}
use Rattle.aig_model.proofs.Uses.{Contains-from_Has, next_used, bad_used, constraint_used, rhs0_used, rhs1_used, used_within, new_within}
use Rattle.aig_model.proofs.WalkEnd.{acyclic_from_order}

-- ---- each variable is defined once

pub apart_from_once : (p : Parts) → AreOnce p → AreApart (definitions (netlist_of p))
apart_from_once p once i j lt within e =
    once _ (record { one = i; other = j; apart = lt; within = within; one_is = e; other_is = refl })

AreApart-back : (xs ys : List ℕ) → AreApart (xs ++ ys) → AreApart ys
AreApart-back xs ys apart = AreApart-from_at ys (λ i j a b lt at_i at_j.
    apart_at (xs ++ ys) (length xs + i) (length xs + j) a b apart (omega arith) (get_right xs ys i a at_i)
    (get_right xs ys j b at_j))

AreApart-joined : (xs ys zs : List ℕ) → AreApart (xs ++ ys) → AreApart zs → ((l : ℕ) → Has zs l → Has ys l) → AreApart (xs ++ zs)
AreApart-joined xs ys zs apart new there = AreApart-from_at (xs ++ zs) (λ i j a b lt at_i at_j.
    ⊎_elim
    (λ left_j.
    ⊎_elim (λ left_i. apart_at (xs ++ ys) i j a b apart lt (get_left xs ys i a left_i) (get_left xs ys j b left_j))
    (λ right_i. absurd (let w = slice_get_within xs j b left_j in omega (arith, right_i.1)))
    (append_cases xs zs i a at_i))
    (λ right_j.
    ⊎_elim
    (λ left_i.
    let h = there b (right_j.0, right_j.2) in
    let w = slice_get_within xs i a left_i in
    apart_at (xs ++ ys) i (length xs + h.0) a b apart (omega arith) (get_left xs ys i a left_i) (get_right xs ys h.0 b h.1))
    (λ right_i. apart_at zs right_i.0 right_j.0 a b new (omega (arith, right_i.1, right_j.1)) right_i.2 right_j.2)
    (append_cases xs zs i a at_i))
    (append_cases xs zs j b at_j))

-- ---- what is used is defined

any_from_Has : (xs : List ℕ) (v at : ℕ) → slice_get xs at ≡ Some v → list_any (λ u. eqb u v) xs ≡ true
any_from_Has [] v at is = absurd (cc)
any_from_Has (x ∷ xs) v zero is = or_left (eqb x v) _ (eq-eqb x v (cc))
any_from_Has (x ∷ xs) v (suc at) is = or_right (eqb x v) _ (any_from_Has xs v at is)

Has-from_any : (xs : List ℕ) (v : ℕ) → list_any (λ u. eqb u v) xs ≡ true → Has xs v
Has-from_any [] v e = absurd (cc)
Has-from_any (x ∷ xs) v e =
    ⊎_elim (λ here. (0, ap Some (eqb-true x v here))) (λ later. let h = Has-from_any xs v later in (suc h.0, h.1))
    (or_cases (eqb x v) (list_any (λ u. eqb u v) xs) e)

any_kept : (xs ys : List ℕ) (v : ℕ) → ((l : ℕ) → Has xs l → Has ys l) → list_any (λ u. eqb u v) xs ≡ true
    → list_any (λ u. eqb u v) ys ≡ true
any_kept xs ys v there e = let h = there v (Has-from_any xs v e) in any_from_Has ys v h.0 h.1

pub known_from_defined : (p : Parts) → AreInRange p → AreDefined p → (l : ℕ) → Has (uses p) l
    → IsKnown p.vars (definitions (netlist_of p)) l
known_from_defined p range defined l has =
    record {
      within = range.used has.0 l has.1;
      defined_is = ⊎_elim (λ zero. or_left _ _ (eq-eqb 0 (variable l) (sym zero))) (λ above.
          or_right _ _ (⊎_elim (λ yes. yes)
          (λ no. absurd (defined (variable l)
          (record {
            used = Contains-from_Has (map variable (uses p)) (variable l)
                (has.0, get_map variable (uses p) has.0 l has.1);
            above = above;
            undefined = no;
          })))
          (cases_Bool (list_any (λ u. eqb u (variable l)) (definitions (netlist_of p))))))
          (zero_or_above (variable l));
    }
  where
    zero_or_above : (n : ℕ) → (n ≡ 0) ⊎ (0 < n)
    zero_or_above zero = inl refl
    zero_or_above (suc n) = inr (omega arith)

-- ---- the gates in their order

HasGate-var : (xs ys : List AndGate) → ((at : ℕ) (g : AndGate) → slice_get xs at ≡ Some g → HasGate ys g) → (l : ℕ)
    → Has (map gate_var xs) l → Has (map gate_var ys) l
HasGate-var xs ys there l has =
    let m = map_cases gate_var xs has.0 l has.1 in
    let h = there has.0 m.0 m.1 in
    (h.0, get_map gate_var ys h.0 m.0 h.1 ∙ ap Some m.2)

-- the variables but those of gates
abbrev front : Parts → List ℕ
front p = map variable p.inputs ++ map (λ (k : Latch). variable k.lit) p.latches

any_order : (p : Parts) (order : List AndGate) → IsOrderOf p.gates order → (v : ℕ)
    → list_any (λ u. eqb u v) (definitions (netlist_of p)) ≡ true
    → list_any (λ u. eqb u v) (definitions (with_gates (netlist_of p) order)) ≡ true
any_order p order is v e =
    list_any-append (λ u. eqb u v) (front p) (map gate_var order)
    ∙ ⊎_elim (λ left. or_left _ _ left)
    (λ right. or_right (list_any (λ u. eqb u v) (front p)) _
    (any_kept (map gate_var p.gates) (map gate_var order) v (HasGate-var p.gates order is.all) right))
    (or_cases (list_any (λ u. eqb u v) (front p)) (list_any (λ u. eqb u v) (map gate_var p.gates))
    (sym (list_any-append (λ u. eqb u v) (front p) (map gate_var p.gates)) ∙ e))

known_order : (p : Parts) (order : List AndGate) → IsOrderOf p.gates order → (l : ℕ)
    → IsKnown p.vars (definitions (netlist_of p)) l
    → IsKnown p.vars (definitions (with_gates (netlist_of p) order)) l
known_order p order is l known =
    record {
      within = known.within;
      defined_is = ⊎_elim (λ zero. or_left _ _ zero)
          (λ later. or_right (eqb 0 (variable l)) _ (any_order p order is (variable l) later))
          (or_cases (eqb 0 (variable l)) (list_any (λ u. eqb u (variable l)) (definitions (netlist_of p))) known.defined_is);
    }

pub sound_from_order : (p : Parts) (order : List AndGate) → AreInRange p → AreOnce p → AreDefined p → IsOrderOf p.gates order
    → IsSound (with_gates (netlist_of p) order)
sound_from_order p order range once defined is =
    record {
      small = range.small;
      inputs = range.inputs;
      latches = λ k latch at. record {
        lit = range.latches k latch at;
        next = known latch.next (next_used p latch.next (k, get_map (λ (l : Latch). l.next) p.latches k latch at));
      };
      gates = λ k gate at.
          let h = is.from k gate at in
          record {
            lhs = range.gates h.0 gate h.1;
            rhs0 = known gate.rhs0 (rhs0_used p gate.rhs0 (h.0, get_map (λ (g : AndGate). g.rhs0) p.gates h.0 gate h.1));
            rhs1 = known gate.rhs1 (rhs1_used p gate.rhs1 (h.0, get_map (λ (g : AndGate). g.rhs1) p.gates h.0 gate h.1));
            before0 = is.before0 k gate at;
            before1 = is.before1 k gate at;
          };
      bads = λ k l at. known l (bad_used p l (k, at));
      constraints = λ k l at. known l (constraint_used p l (k, at));
      once = AreApart-joined (front p) (map gate_var p.gates) (map gate_var order) (apart_from_once p once) is.apart
          (HasGate-var order p.gates is.from);
    }
  where
    known : (l : ℕ) → Has (uses p) l → IsKnown p.vars (definitions (with_gates (netlist_of p) order)) l
    known l has = known_order p order is l (known_from_defined p range defined l has)

-- ---- the circuit has no order of its gates

-- the entry of a gate is found where no other gate has its variable
find_at : (gs : List AndGate) (at u : ℕ) (gate : AndGate) → AreApart (map gate_var gs) → slice_get gs at ≡ Some gate
    → gate_var gate ≡ u
    → find nat_cmp u (map entry_of gs) ≡ Some (entry_of gate).1
find_at [] at u gate apart is var = absurd (cc)
find_at (g ∷ gs) zero u gate apart is var =
    let same : g ≡ gate = cc in
    let tie : eq_by_cmp nat_cmp u (gate_var g) ≡ true = sym (unsigned_ties u (gate_var g))
    ∙ eq-eqb u (gate_var g) (sym (ap gate_var same ∙ var)) in
    cond-true _ _ _ tie ∙ ap (λ (h : AndGate). Some (entry_of h).1) same
find_at (g ∷ gs) (suc at) u gate apart is var =
    let other : u ≢ gate_var g = λ e. apart_at (map gate_var (g ∷ gs)) 0 (suc at) (gate_var g) (gate_var gate) apart
    (omega arith) refl (get_map gate_var gs at gate is) (sym e ∙ sym var) in
    let tie : eq_by_cmp nat_cmp u (gate_var g) ≡ false = sym (unsigned_ties u (gate_var g)) ∙ ne_eqb u (gate_var g) other in
    cond-false _ _ _ tie ∙ find_at gs at u gate (AreApart-back (gate_var g ∷ []) (map gate_var gs) apart) is var

find_kept : (gs hs : List AndGate) (u : ℕ) (rights : ℕ × ℕ) → AreApart (map gate_var hs)
    → ((at : ℕ) (g : AndGate) → slice_get gs at ≡ Some g → HasGate hs g)
    → find nat_cmp u (map entry_of gs) ≡ Some rights → find nat_cmp u (map entry_of hs) ≡ Some rights
find_kept gs hs u rights apart there is =
    let e = found gs u rights is in
    let h = there e.place e.gate e.is in
    find_at hs h.0 u e.gate apart h.1 e.var ∙ ap Some e.rights_are

same_options : (a b : Option (ℕ × ℕ)) → ((r : ℕ × ℕ) → a ≡ Some r → b ≡ Some r) → ((r : ℕ × ℕ) → b ≡ Some r → a ≡ Some r) → a ≡ b
same_options None None there back = refl
same_options (Some r) b there back = sym (there r refl)
same_options None (Some r) there back = back r refl

pub circuit_from_order : (p : Parts) (order : List AndGate) → AreOnce p → IsOrderOf p.gates order
    → circuit (with_gates (netlist_of p) order) ≡ circuit (netlist_of p)
circuit_from_order p order once is =
    let apart = AreApart-back (front p) (map gate_var p.gates) (apart_from_once p once) in
    let gates : finite_map.from_entries {R = nat_cmp} (map entry_of order) ≡ finite_map.from_entries (map entry_of p.gates) =
    same_map nat_cmp_total nat_cmp-IsAntisymmetric _ _ (λ q.
    get-from_entries nat_cmp_total (map entry_of order) q
    ∙ same_options (find nat_cmp q (map entry_of order)) (find nat_cmp q (map entry_of p.gates))
    (λ r e. find_kept order p.gates q r apart is.from e) (λ r e. find_kept p.gates order q r is.apart is.all e)
    ∙ sym (get-from_entries nat_cmp_total (map entry_of p.gates) q)) in
    let base : plain.Circuit = circuit (netlist_of p) in
    ap (λ (m : finite_map.FinMap nat_cmp (ℕ × ℕ)). record base { gates = m }) gates

-- ---- what the order needs, and what it shows

pub gates_from_once : (p : Parts) → AreInRange p → AreOnce p → AreGates (p.vars + 1) p.gates
gates_from_once p range once =
    record {
      within = λ at gate is. record {
        lhs = new_within p.vars gate.lhs (range.gates at gate is);
        rhs0 = used_within p range gate.rhs0 (rhs0_used p gate.rhs0 (at, get_map (λ (g : AndGate). g.rhs0) p.gates at gate is));
        rhs1 = used_within p range gate.rhs1 (rhs1_used p gate.rhs1 (at, get_map (λ (g : AndGate). g.rhs1) p.gates at gate is));
      };
      apart = AreApart-back (front p) (map gate_var p.gates) (apart_from_once p once);
    }

pub makes_from_order : (p : Parts) (order : List AndGate) → AreOnce p → AreDefined p → IsOrderOf p.gates order → MakesDesign p
makes_from_order p order once defined is = record {
  once = once;
  defined = defined;
  acyclic = acyclic_from_order p.gates order is;
}
