-- What the circuit of a netlist defines, against the lists of the netlist.
use Rattle.std.proofs.Common.{◌≡◌, ℕ, suc, zero, ◌<◌, ◌==◌, ◌||◌, Bool, true, false, List, [], ◌∷◌, Some, None, length, map, cond, get_or, slice_get, option_map, is_some, sym, ap, ◌∙◌, refl, arith, eq-eqb, eqb-true, nat_cmp, Option, ⊎_elim}
use Rattle.std.specs.Ordering.{eq_by_cmp}
use Rattle.std.specs.List.{list_any}
use Rattle.std.specs.FinMap as finite_map
use Rattle.std.specs.Cmp.{unsigned_tied}
use Rattle.std.proofs.lemmas.Cmp.{nat_cmp_total}
use Rattle.std.proofs.lemmas.Bool.{both_ways, or_parts, or_cases, or_from, false_from_ne_true}
use Rattle.std.proofs.lemmas.List.{length-map}
use Rattle.std.proofs.lemmas.List.Folds.{list_any_at}
use Rattle.std.proofs.lemmas.Option.{slice_get-map, slice_get_within, get_or_from_slice_get, same_Some}
use Rattle.ja_base.specs.Literals.{variable}
use Rattle.ja_base.specs.Circuit as plain
use Rattle.aig_model.specs.declared.netlist.AndGate.{AndGate}
use Rattle.aig_model.specs.Netlist.{Netlist, circuit, entry_of, latch_of, gate_var}
use Rattle.aig_eval.specs.Rows.{latch_var, input_vars, latch_vars}
use Rattle.aig_eval.proofs.PlaceLemmas.{map_at}

-- there is an item at each place of a list
pub item_at : {A : Type 0} (xs : List A) (k : ℕ) → k < length xs → (x : A) × (slice_get xs k ≡ Some x)
item_at [] k h = absurd (omega arith)
item_at (x ∷ xs) zero h = (x, refl)
item_at (x ∷ xs) (suc k) h = item_at xs k (omega arith)

pub slice_get_mapped : {A B : Type 0} (f : A → B) (xs : List A) (k : ℕ) (x : A) → slice_get xs k ≡ Some x
    → slice_get (map f xs) k ≡ Some (f x)
slice_get_mapped f xs k x e = slice_get-map f xs k ∙ ap (option_map f) e

-- a test that an item passes is passed by some item
any_mapped : {A B : Type 0} (p : B → Bool) (f : A → B) (xs : List A) (k : ℕ) (x : A) → slice_get xs k ≡ Some x → p (f x) ≡ true
    → list_any p (map f xs) ≡ true
any_mapped p f xs k x e h =
    list_any_at p (map f xs) k (f x) (omega (arith, length-map xs f, slice_get_within xs k x e))
    (ap p (map_at f xs k x (f x) e) ∙ h)

-- the gate of this variable, with its place
pub record HasGate (gates : List AndGate) (u : ℕ) (rights : ℕ × ℕ) : Type 0 where
  pub place : ℕ
  pub gate : AndGate
  pub is : slice_get gates place ≡ Some gate
  pub var : gate_var gate ≡ u
  pub rights_are : ◌≡◌ {A = ℕ × ℕ} (gate.rhs0, gate.rhs1) rights

-- the values of the first entries, by whether the first has this variable
first_or_later : (g : AndGate) (gates : List AndGate) (u : ℕ) (rights : ℕ × ℕ) (b : Bool) → (u == gate_var g) ≡ b
    → cond b (Some (g.rhs0, g.rhs1)) (finite_map.find nat_cmp u (map entry_of gates)) ≡ Some rights
    → (finite_map.find nat_cmp u (map entry_of gates) ≡ Some rights → HasGate gates u rights) → HasGate (g ∷ gates) u rights
first_or_later g gates u rights true is found rest =
    record {
      place = 0;
      gate = g;
      is = refl;
      var = sym (eqb-true u (gate_var g) is);
      rights_are = same_Some
          (g.rhs0, g.rhs1) rights found;
    }
first_or_later g gates u rights false is found rest =
    let h = rest found in record { place = suc h.place; gate = h.gate; is = h.is; var = h.var; rights_are = h.rights_are }

has_entry : (gates : List AndGate) (u : ℕ) (rights : ℕ × ℕ) → finite_map.find nat_cmp u (map entry_of gates) ≡ Some rights
    → HasGate gates u rights
has_entry [] u rights e = absurd (cc)
has_entry (g ∷ gates) u rights e =
    first_or_later g gates u rights (u == gate_var g) refl
    (ap (λ b. cond b (Some (g.rhs0, g.rhs1)) (finite_map.find nat_cmp u (map entry_of gates)))
    (sym (unsigned_tied u (gate_var g))) ∙ e)
    (has_entry gates u rights)

-- each right side of the circuit is that of a gate of the list
pub has_gate : (n : Netlist) (u : ℕ) (rights : ℕ × ℕ) → finite_map.get (circuit n).gates u ≡ Some rights
    → HasGate n.gates u rights
has_gate n u rights e = has_entry n.gates u rights (sym (finite_map.get-from_entries nat_cmp_total (map entry_of n.gates) u) ∙ e)

first_is_some : (b : Bool) (x : ℕ × ℕ) (o : Option (ℕ × ℕ)) → b ≡ true → is_some (cond b (Some x) o) ≡ true
first_is_some b x o h = ap (λ c. is_some (cond c (Some x) o)) h

rest_is_some : (b : Bool) (x : ℕ × ℕ) (o : Option (ℕ × ℕ)) → is_some o ≡ true → is_some (cond b (Some x) o) ≡ true
rest_is_some true x o h = refl
rest_is_some false x o h = h

entry_found : (gates : List AndGate) (k u : ℕ) (g : AndGate) → slice_get gates k ≡ Some g → gate_var g ≡ u
    → is_some (finite_map.find nat_cmp u (map entry_of gates)) ≡ true
entry_found [] k u g e same = absurd (cc)
entry_found (x ∷ gates) zero u g e same =
    first_is_some (eq_by_cmp nat_cmp u (gate_var x)) (x.rhs0, x.rhs1) (finite_map.find nat_cmp u (map entry_of gates))
    (unsigned_tied u (gate_var x) ∙ eq-eqb u (gate_var x) (sym (ap gate_var (same_Some x g e) ∙ same)))
entry_found (x ∷ gates) (suc k) u g e same =
    rest_is_some (eq_by_cmp nat_cmp u (gate_var x)) (x.rhs0, x.rhs1) (finite_map.find nat_cmp u (map entry_of gates))
    (entry_found gates k u g e same)

-- no place of the netlist defines the variable
pub record IsFree (n : Netlist) (u : ℕ) : Type 0 where
  pub no_input : (k : ℕ) → k < length n.inputs → get_or (input_vars n) k 0 ≡ u → ⊥
  pub no_latch : (k : ℕ) → k < length n.latches → get_or (latch_vars n) k 0 ≡ u → ⊥
  pub no_gate : (k : ℕ) (g : AndGate) → k < length n.gates → slice_get n.gates k ≡ Some g → gate_var g ≡ u → ⊥

pub free_from_undefined : (n : Netlist) (u : ℕ) → plain.is_defined (circuit n) u ≡ false → IsFree n u
free_from_undefined n u undefined =
    let ins = list_any (λ v. u == v) (circuit n).inputs in
    let las = list_any (λ (l : plain.Latch). u == l.var) (circuit n).latches in
    let parts = or_parts (ins || las) (is_some (finite_map.get (circuit n).gates u)) undefined in
    let lists = or_parts ins las parts.0 in
    record {
      no_input = λ k h same. both_ways ins lists.0
          (list_any_at (λ v. u == v) (input_vars n) k 0 (omega (arith, length-map n.inputs variable))
          (eq-eqb u (get_or (input_vars n) k 0) (sym same)));
      no_latch = λ k h same. let item = item_at n.latches k h in
          both_ways las lists.1 (any_mapped (λ (l : plain.Latch). u == l.var) latch_of n.latches k item.0 item.1
          (eq-eqb u (variable item.0.lit) (sym same ∙ map_at latch_var n.latches k item.0 0 item.1)));
      no_gate = λ k g h e same. both_ways (is_some (finite_map.get (circuit n).gates u)) parts.1
          (ap is_some (finite_map.get-from_entries nat_cmp_total (map entry_of n.gates) u) ∙ entry_found n.gates k u g e same);
    }

-- what passes a test somewhere in a list, with its place
pub found_in : {A : Type 0} (p : A → Bool) (xs : List A) → list_any p xs ≡ true
    → (k : ℕ) × (x : A) × (slice_get xs k ≡ Some x) × (p x ≡ true)
found_in p [] h = absurd (cc)
found_in p (x ∷ xs) h = ⊎_elim (λ t. (0, x, refl, t)) (λ t. let r = found_in p xs t in (suc r.0, r.1, r.2, r.3))
    (or_cases (p x) (list_any p xs) h)

pub some_value : {A : Type 0} (o : Option A) → is_some o ≡ true → (x : A) × (o ≡ Some x)
some_value None h = absurd (cc)
some_value (Some x) h = (x, refl)

pub undefined_from_free : (n : Netlist) (u : ℕ) → IsFree n u → plain.is_defined (circuit n) u ≡ false
undefined_from_free n u free =
    or_from (list_any (λ v. u == v) (circuit n).inputs || list_any (λ (l : plain.Latch). u == l.var) (circuit n).latches)
    (is_some (finite_map.get (circuit n).gates u))
    (or_from (list_any (λ v. u == v) (circuit n).inputs) (list_any (λ (l : plain.Latch). u == l.var) (circuit n).latches)
    (false_from_ne_true (list_any (λ v. u == v) (circuit n).inputs) (λ t. no_input (found_in (λ v. u == v) (circuit n).inputs t)))
    (false_from_ne_true (list_any (λ (l : plain.Latch). u == l.var) (circuit n).latches)
    (λ t. no_latch (found_in (λ (l : plain.Latch). u == l.var) (circuit n).latches t))))
    (false_from_ne_true (is_some (finite_map.get (circuit n).gates u))
    (λ t. no_gate (some_value (finite_map.get (circuit n).gates u) t)))
  where
    no_input : (k : ℕ) × (x : ℕ) × (slice_get (circuit n).inputs k ≡ Some x) × ((u == x) ≡ true) → ⊥
    no_input r = free.no_input r.0 (omega (arith, slice_get_within (circuit n).inputs r.0 r.1 r.2, length-map n.inputs variable))
        (get_or_from_slice_get (circuit n).inputs r.0 r.1 0 r.2 ∙ sym (eqb-true u r.1 r.3))

    no_latch : (k : ℕ) × (x : plain.Latch) × (slice_get (circuit n).latches k ≡ Some x) × ((u == x.var) ≡ true) → ⊥
    no_latch r =
        let within : r.0 < length n.latches = omega
        (arith, slice_get_within (circuit n).latches r.0 r.1 r.2, length-map n.latches latch_of) in
        let item = item_at n.latches r.0 within in
        let same = same_Some (latch_of item.0) r.1 (sym (slice_get_mapped latch_of n.latches r.0 item.0 item.1) ∙ r.2) in
        free.no_latch r.0 within (map_at latch_var n.latches r.0 item.0 0 item.1 ∙ ap (λ (l : plain.Latch). l.var) same
        ∙ sym (eqb-true u r.1.var r.3))

    no_gate : (x : ℕ × ℕ) × (finite_map.get (circuit n).gates u ≡ Some x) → ⊥
    no_gate r = let h = has_gate n u r.0 r.1 in free.no_gate h.place h.gate
        (slice_get_within n.gates h.place h.gate h.is) h.is h.var
