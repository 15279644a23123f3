-- The variables that are marked are those that the circuit defines.
use Rattle.std.proofs.Common.{◌≡◌, ℕ, ◌+◌, ◌<◌, ◌≤◌, ◌||◌, eqb, Bool, true, false, cond, List, [], ◌∷◌, ◌++◌, length, set, take, map, Some, is_some, replicate, slice_get, refl, sym, ap, ◌∙◌, arith, add-one, length-set, get_or-set_other, get_or-set_same, ◌⊎◌, inl, inr}
use Rattle.std.specs.FinMap as finite_map
use Rattle.std.specs.FinMap.{get-from_entries, find}
use Rattle.std.specs.Cmp.{nat_cmp_total, unsigned_tied}
use Rattle.std.specs.Ordering.{nat_cmp, eq_by_cmp}
use Rattle.std.specs.List.{list_any}
use Rattle.std.proofs.Math.Bool.{or-false}
use Rattle.std.proofs.Math.Seq.{take-suc}
use Rattle.std.proofs.lemmas.Bool.{cases_Bool, cases_lt, eqb-true, eqb-false}
use Rattle.std.proofs.lemmas.List.{take_all, map-append, get_or-replicate, get_or_past, length-replicate}
use Rattle.std.proofs.lemmas.List.Folds.{list_any-append}
use Rattle.std.proofs.lemmas.Option.{get_or_from_slice_get, slice_get_within}
use Rattle.ja_base.specs.Literals.{bit, variable}
use Rattle.ja_base.specs.Circuit as plain
use Rattle.aig_model.specs.declared.netlist.AndGate.{AndGate}
use Rattle.aig_model.specs.declared.netlist.Latch.{Latch}
use Rattle.aig_model.specs.Netlist.{Netlist, circuit, entry_of, gate_var, latch_of}
use Rattle.ja_project.specs.Coding.{Marks}

pub Marks-none : (row : List Bool) → Marks [] row row
Marks-none row = record { width = refl; marked = λ u. sym (or-false (bit row u)) }

or_last : (a b : Bool) → (a || (b || true)) ≡ true
or_last true b = refl
or_last false true = refl
or_last false false = refl

or_no_last : (a b c : Bool) → c ≡ false → (a || (b || (c || false))) ≡ (a || b)
or_no_last a true c e = refl
or_no_last a false true e = absurd cc
or_no_last a false false e = refl

set_marks : (vars : List ℕ) (v : ℕ) (old row : List Bool) → v < length old → Marks vars old row
    → Marks (vars ++ v ∷ []) old (set row v true)
set_marks vars v old row fits m =
    record { width = length-set row v true ∙ m.width; marked = λ u. by_test u (cases_Bool (eqb u v)) }
  where
    more : (u : ℕ) → list_any (λ w. eqb u w) (vars ++ v ∷ []) ≡ (list_any (λ w. eqb u w) vars || (eqb u v || false))
    more u = list_any-append (λ w. eqb u w) vars (v ∷ [])

    by_test : (u : ℕ) → ((eqb u v ≡ true) ⊎ (eqb u v ≡ false))
        → bit (set row v true) u ≡ (bit old u || list_any (λ w. eqb u w) (vars ++ v ∷ []))
    by_test u (inl e) =
        let same : u ≡ v = eqb-true u v e in
        let here : bit (set row v true) u ≡ true = ap (bit (set row v true)) same
        ∙ get_or-set_same row v true false (omega (arith, m.width)) in
        here ∙ sym (ap (λ (b : Bool). bit old u || b) (more u ∙ ap (λ (b : Bool). list_any (λ w. eqb u w) vars || (b || false)) e)
        ∙ or_last (bit old u) (list_any (λ w. eqb u w) vars))
    by_test u (inr e) =
        get_or-set_other row v u true false (eqb-false u v e) ∙ m.marked u
        ∙ sym (ap (λ (b : Bool). bit old u || b) (more u) ∙ or_no_last (bit old u) (list_any (λ w. eqb u w) vars) (eqb u v) e)

module _ {X : Type 0} (f : X → ℕ) (xs : List X) (old : List Bool) where
  -- one more is marked
  pub Marks-more : (i : ℕ) (x : X) (v : ℕ) (row next : List Bool) → slice_get xs i ≡ Some x → v ≡ f x → v < length old
      → next ≡ set row v true
      → Marks (map f (take i xs)) old row → Marks (map f (take (i + 1) xs)) old next
  Marks-more i x v row next is same fits made m =
      let taken : take (i + 1) xs ≡ take i xs ++ x ∷ []
      = ap (λ (k : ℕ). take k xs) (add-one i) ∙ take-suc xs i x (slice_get_within xs i x is)
      ∙ ap (λ (y : X). take i xs ++ y ∷ []) (get_or_from_slice_get xs i x x is) in
      let vars : map f (take (i + 1) xs) ≡ map f (take i xs) ++ v ∷ []
      = ap (map f) taken ∙ map-append f (take i xs) (x ∷ []) ∙ ap (λ (k : ℕ). map f (take i xs) ++ k ∷ []) (sym same) in
      rw (made, vars) (set_marks (map f (take i xs)) v old row fits m)

  -- all are marked
  pub Marks-all : (i : ℕ) (row : List Bool) → length xs ≤ i → Marks (map f (take i xs)) old row → Marks (map f xs) old row
  Marks-all i row end m = rw (← take_all i xs end) m

-- ---- against the circuit

zeros_have_no_bit : (n u : ℕ) → bit (replicate n false) u ≡ false
zeros_have_no_bit n u =
    elim (cases_lt u n) [
      | inl lt ↦ get_or-replicate n u false false lt
      | inr le ↦ get_or_past (replicate n false) u false (omega (arith, length-replicate n false))
    ]

latches_marked : (u : ℕ) (latches : List Latch)
    → list_any (λ v. eqb u v) (map (λ (k : Latch). variable k.lit) latches) ≡ list_any (λ (l : plain.Latch). eqb u l.var)
    (map latch_of latches)
latches_marked u [] = refl
latches_marked u (k ∷ ks) = ap (λ (b : Bool). eqb u (variable k.lit) || b) (latches_marked u ks)

entry_marked : (b : Bool) (u v : ℕ) (rights : ℕ × ℕ) (gates : List AndGate) → b ≡ eqb u v
    → list_any (λ w. eqb u w) (map gate_var gates) ≡ is_some (find nat_cmp u (map entry_of gates))
    → (eqb u v || list_any (λ w. eqb u w) (map gate_var gates)) ≡ is_some
    (cond b (Some rights) (find nat_cmp u (map entry_of gates)))
entry_marked true u v rights gates e ih = ap (λ (t : Bool). t || list_any (λ w. eqb u w) (map gate_var gates)) (sym e)
entry_marked false u v rights gates e ih = ap (λ (t : Bool). t || list_any (λ w. eqb u w) (map gate_var gates)) (sym e) ∙ ih

entries_marked : (u : ℕ) (gates : List AndGate)
    → list_any (λ w. eqb u w) (map gate_var gates) ≡ is_some (find nat_cmp u (map entry_of gates))
entries_marked u [] = refl
entries_marked u (g ∷ gates) = entry_marked (eq_by_cmp nat_cmp u (gate_var g)) u (gate_var g) (entry_of g).1 gates
    (unsigned_tied u (gate_var g)) (entries_marked u gates)

gates_marked : (n : Netlist) (u : ℕ)
    → list_any (λ w. eqb u w) (map gate_var n.gates) ≡ is_some (finite_map.get (circuit n).gates u)
gates_marked n u = entries_marked u n.gates ∙ ap is_some (sym (get-from_entries nat_cmp_total (map entry_of n.gates) u))

pub marked_is_defined : (n : Netlist) (zeros a b c : List Bool) (width : ℕ) → zeros ≡ replicate width false
    → Marks (map variable n.inputs) zeros a
    → Marks (map (λ (k : Latch). variable k.lit) n.latches) a b → Marks (map gate_var n.gates) b c → (u : ℕ)
    → bit c u ≡ plain.is_defined (circuit n) u
marked_is_defined n zeros a b c width start ins las gas u =
    let ins_any = list_any (λ v. eqb u v) (map variable n.inputs) in
    let las_any = list_any (λ v. eqb u v) (map (λ (k : Latch). variable k.lit) n.latches) in
    let gas_any = list_any (λ v. eqb u v) (map gate_var n.gates) in
    let none : bit zeros u ≡ false = ap (λ (r : List Bool). bit r u) start ∙ zeros_have_no_bit width u in
    let first : bit a u ≡ ins_any = ins.marked u ∙ ap (λ (t : Bool). t || ins_any) none in
    gas.marked u ∙ ap (λ (t : Bool). t || gas_any) (las.marked u ∙ ap (λ (t : Bool). t || las_any) first
    ∙ ap (λ (t : Bool). ins_any || t) (latches_marked u n.latches))
    ∙ ap (λ (t : Bool). ins_any || list_any (λ (l : plain.Latch). eqb u l.var) (circuit n).latches || t) (gates_marked n u)
