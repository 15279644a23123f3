-- The literals that are used, in the order of the lists and gate by gate.
use Rattle.std.proofs.Common.{◌≡◌, ℕ, zero, suc, ◌+◌, ◌<◌, List, [], ◌∷◌, ◌++◌, length, map, Option, Some, slice_get, ◌⊎◌, inl, inr, ⊎_elim, sym, ap, ◌∙◌, arith}
use Rattle.std.specs.List.{Contains}
use Rattle.std.proofs.lemmas.Option.{slice_get-get_or, slice_get_within, get_or_from_slice_get}
use Rattle.ja_base.specs.Literals.{variable}
use Rattle.aig_model.specs.declared.netlist.Latch.{Latch}
use Rattle.aig_model.specs.declared.netlist.AndGate.{AndGate}
use Rattle.aig_model.specs.declared.netlist.Parts.{Parts}
use Rattle.aig_model.specs.declared.definitions.Defined.{Defined}
use Rattle.aig_model.specs.Netlist.{IsNew}
use Rattle.aig_model.specs.Refusals.{uses, AreInRange, IsUndefined}
use Rattle.aig_model.specs.Least.{IsLeastOf}
use Rattle.aig_model.specs.Order.{Has}
use Rattle.aig_model.specs.Definitions.{AreWithin, IsTableOf, IsMissing, rights, nexts}
use Rattle.aig_model.proofs.LeastLemmas.{least_same}
use Rattle.aig_model.proofs.Places.{get_left, get_right, get_map, map_cases, append_cases}

pub Has-left : (xs ys : List ℕ) (l : ℕ) → Has xs l → Has (xs ++ ys) l
Has-left xs ys l has = (has.0, get_left xs ys has.0 l has.1)

pub Has-right : (xs ys : List ℕ) (l : ℕ) → Has ys l → Has (xs ++ ys) l
Has-right xs ys l has = (length xs + has.0, get_right xs ys has.0 l has.1)

pub Has-cases : (xs ys : List ℕ) (l : ℕ) → Has (xs ++ ys) l → Has xs l ⊎ Has ys l
Has-cases xs ys l has = ⊎_elim (λ left. inl (has.0, left)) (λ right. inr (right.0, right.2)) (append_cases xs ys has.0 l has.1)

pub Has-from_Contains : (xs : List ℕ) (l : ℕ) → Contains xs l → Has xs l
Has-from_Contains xs l c = (c.0, slice_get-get_or xs c.0 l c.1 ∙ ap Some c.2)

pub Contains-from_Has : (xs : List ℕ) (l : ℕ) → Has xs l → Contains xs l
Contains-from_Has xs l has = (has.0, slice_get_within xs has.0 l has.1, get_or_from_slice_get xs has.0 l l has.1)

-- the lists of literals that are used, but for the gates
abbrev pub outside : Parts → List ℕ
outside p = nexts p.latches ++ p.outputs ++ p.bads ++ p.constraints

abbrev pub rhs0s : Parts → List ℕ
rhs0s p = map (λ (g : AndGate). g.rhs0) p.gates

abbrev pub rhs1s : Parts → List ℕ
rhs1s p = map (λ (g : AndGate). g.rhs1) p.gates

Has-later : (x l : ℕ) (xs : List ℕ) → Has xs l → Has (x ∷ xs) l
Has-later x l xs has = (suc has.0, has.1)

right_cases : (gates : List AndGate) (at l : ℕ) → slice_get (rights gates) at ≡ Some l
    → Has (map (λ (g : AndGate). g.rhs0) gates) l ⊎ Has (map (λ (g : AndGate). g.rhs1) gates) l
right_cases [] at l is = absurd (cc)
right_cases (g ∷ gates) zero l is = inl (0, is)
right_cases (g ∷ gates) (suc zero) l is = inr (0, is)
right_cases (g ∷ gates) (suc (suc at)) l is =
    ⊎_elim (λ has. inl (suc has.0, has.1)) (λ has. inr (suc has.0, has.1)) (right_cases gates at l is)

right0_there : (gates : List AndGate) (at l : ℕ) → slice_get (map (λ (g : AndGate). g.rhs0) gates) at ≡ Some l
    → Has (rights gates) l
right0_there [] at l is = absurd (cc)
right0_there (g ∷ gates) zero l is = (0, is)
right0_there (g ∷ gates) (suc at) l is = let h = right0_there gates at l is in (suc (suc h.0), h.1)

right1_there : (gates : List AndGate) (at l : ℕ) → slice_get (map (λ (g : AndGate). g.rhs1) gates) at ≡ Some l
    → Has (rights gates) l
right1_there [] at l is = absurd (cc)
right1_there (g ∷ gates) zero l is = (1, is)
right1_there (g ∷ gates) (suc at) l is = let h = right1_there gates at l is in (suc (suc h.0), h.1)

-- what is used is the same in both orders
used_there : (p : Parts) (l : ℕ) → Has (outside p ++ rights p.gates) l → Has (uses p) l
used_there p l has =
    ⊎_elim (λ out. Has-left (outside p ++ rhs0s p) (rhs1s p) l (Has-left (outside p) (rhs0s p) l out))
    (λ right.
    ⊎_elim (λ r0. Has-left (outside p ++ rhs0s p) (rhs1s p) l (Has-right (outside p) (rhs0s p) l r0))
    (λ r1. Has-right (outside p ++ rhs0s p) (rhs1s p) l r1)
    (right_cases p.gates right.0 l right.1))
    (Has-cases (outside p) (rights p.gates) l has)

used_back : (p : Parts) (l : ℕ) → Has (uses p) l → Has (outside p ++ rights p.gates) l
used_back p l has =
    ⊎_elim
    (λ more.
    ⊎_elim (λ out. Has-left (outside p) (rights p.gates) l out)
    (λ r0. Has-right (outside p) (rights p.gates) l (right0_there p.gates r0.0 l r0.1))
    (Has-cases (outside p) (rhs0s p) l more))
    (λ r1. Has-right (outside p) (rights p.gates) l (right1_there p.gates r1.0 l r1.1))
    (Has-cases (outside p ++ rhs0s p) (rhs1s p) l has)

Has-mapped : (xs ys : List ℕ) (v : ℕ) → ((l : ℕ) → Has xs l → Has ys l) → Has (map variable xs) v → Has (map variable ys) v
Has-mapped xs ys v there has =
    let m = map_cases variable xs has.0 v has.1 in
    let h = there m.0 (has.0, m.1) in
    (h.0, get_map variable ys h.0 m.0 h.1 ∙ ap Some m.2)

-- what is missing from the table is undefined, and what is undefined is missing
pub undefined_from_missing : (p : Parts) (defined : Defined) (o : Option ℕ) → IsTableOf p defined
    → IsLeastOf (IsMissing defined.row (outside p ++ rights p.gates)) o
    → IsLeastOf (IsUndefined p) o
undefined_from_missing p defined o table least =
    least_same (IsMissing defined.row (outside p ++ rights p.gates)) (IsUndefined p)
    (λ v m. record {
      used = Contains-from_Has (map variable (uses p)) v (Has-mapped (outside p ++ rights p.gates) (uses p) v (used_there p)
          (m.at, m.used));
      above = m.above;
      undefined = sym (table.marks v) ∙ m.unmarked;
    })
    (λ v u.
    let has = Has-mapped (uses p) (outside p ++ rights p.gates) v (used_back p)
    (Has-from_Contains (map variable (uses p)) v u.used) in
    record { at = has.0; used = has.1; above = u.above; unmarked = table.marks v ∙ u.undefined })
    o least

pub new_within : (vars l : ℕ) → IsNew vars l → variable l < vars + 1
new_within vars l new = let w = new.within in omega (arith, w)

pub used_within : (p : Parts) → AreInRange p → (l : ℕ) → Has (uses p) l → variable l < p.vars + 1
used_within p range l has = let w = range.used has.0 l has.1 in omega (arith, w)

-- where each literal of the list is used, their variables have a bit
pub within_from_used : (p : Parts) (n : ℕ) (lits : List ℕ) → AreInRange p → n ≡ p.vars + 1
    → ((l : ℕ) → Has lits l → Has (uses p) l) → AreWithin n lits
within_from_used p n lits range n_is there at l is = rw n_is (used_within p range l (there l (at, is)))

pub outside_used : (p : Parts) (l : ℕ) → Has (outside p) l → Has (uses p) l
outside_used p l has = Has-left (outside p ++ rhs0s p) (rhs1s p) l (Has-left (outside p) (rhs0s p) l has)

pub next_used : (p : Parts) (l : ℕ) → Has (nexts p.latches) l → Has (uses p) l
next_used p l has =
    outside_used p l (Has-left (nexts p.latches ++ p.outputs ++ p.bads) p.constraints l
    (Has-left (nexts p.latches ++ p.outputs) p.bads l (Has-left (nexts p.latches) p.outputs l has)))

pub output_used : (p : Parts) (l : ℕ) → Has p.outputs l → Has (uses p) l
output_used p l has =
    outside_used p l (Has-left (nexts p.latches ++ p.outputs ++ p.bads) p.constraints l
    (Has-left (nexts p.latches ++ p.outputs) p.bads l (Has-right (nexts p.latches) p.outputs l has)))

pub bad_used : (p : Parts) (l : ℕ) → Has p.bads l → Has (uses p) l
bad_used p l has =
    outside_used p l (Has-left (nexts p.latches ++ p.outputs ++ p.bads) p.constraints l
    (Has-right (nexts p.latches ++ p.outputs) p.bads l has))

pub constraint_used : (p : Parts) (l : ℕ) → Has p.constraints l → Has (uses p) l
constraint_used p l has = outside_used p l (Has-right (nexts p.latches ++ p.outputs ++ p.bads) p.constraints l has)

pub rhs0_used : (p : Parts) (l : ℕ) → Has (rhs0s p) l → Has (uses p) l
rhs0_used p l has = Has-left (outside p ++ rhs0s p) (rhs1s p) l (Has-right (outside p) (rhs0s p) l has)

pub rhs1_used : (p : Parts) (l : ℕ) → Has (rhs1s p) l → Has (uses p) l
rhs1_used p l has = Has-right (outside p ++ rhs0s p) (rhs1s p) l has

-- what is defined has a bit too
pub inputs_within : (p : Parts) (n : ℕ) → AreInRange p → n ≡ p.vars + 1 → AreWithin n p.inputs
inputs_within p n range n_is at l is = rw n_is (new_within p.vars l (range.inputs at l is))

pub latches_within : (p : Parts) (n : ℕ) → AreInRange p → n ≡ p.vars + 1 → AreWithin n (map (λ (k : Latch). k.lit) p.latches)
latches_within p n range n_is at l is =
    let m = map_cases (λ (k : Latch). k.lit) p.latches at l is in
    rw (n_is, ← m.2) (new_within p.vars m.0.lit (range.latches at m.0 m.1))

pub gates_within : (p : Parts) (n : ℕ) → AreInRange p → n ≡ p.vars + 1 → AreWithin n (map (λ (g : AndGate). g.lhs) p.gates)
gates_within p n range n_is at l is =
    let m = map_cases (λ (g : AndGate). g.lhs) p.gates at l is in
    rw (n_is, ← m.2) (new_within p.vars m.0.lhs (range.gates at m.0 m.1))
