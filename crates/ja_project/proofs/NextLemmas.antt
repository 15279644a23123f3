-- What a literal over a latch says one step later.
use Rattle.std.proofs.Common.{◌≡◌, ◌≢◌, ℕ, zero, suc, ◌+◌, ◌<◌, ◌≤◌, eqb, Bool, true, false, not, cond, List, [], ◌∷◌, ◌++◌, length, map, set, Some, slice_get, refl, sym, ap, ◌∙◌, arith, ◌⊎◌, inl, inr, length-set}
use Rattle.std.proofs.lemmas.Bool.{cases_order, eqb-true, eq-eqb}
use Rattle.std.proofs.lemmas.Option.{same_Some, slice_get_within}
use Rattle.ja_base.specs.Literals.{variable, is_negated, negated, value, with_sign}
use Rattle.ja_base.specs.Circuit as plain
use Rattle.ja_base.specs.Invariants.{latch_value}
use Rattle.ja_base.specs.Valuation.{next_state}
use Rattle.ja_base.proofs.LiteralLemmas.{value_negated}
use Rattle.aig_model.specs.declared.netlist.Latch.{Latch}
use Rattle.aig_model.specs.Netlist.{Netlist, IsSound, circuit, definitions, gate_var, latch_of}
use Rattle.aig_model.proofs.Places.{get_left, get_right, get_map, one_place}
use Rattle.ja_project.specs.CodedClauses.{next_literal, with_sign_of}
use Rattle.ja_project.specs.Coding.{HasNexts}
use Rattle.ja_project.proofs.BelowLemmas.{lit_is_below, negated_is_below}
use Rattle.ja_project.proofs.OverLemmas.{HasLatch}

signed_value : (row : List Bool) (l next : ℕ) (b : Bool) → b ≡ is_negated l
    → value row (cond b (negated next) next) ≡ cond b (not (value row next)) (value row next)
signed_value row l next true e = value_negated row next
signed_value row l next false e = refl

pub value_signed : (row : List Bool) (l next : ℕ) → value row (with_sign_of l next) ≡ with_sign l (value row next)
value_signed row l next = signed_value row l next (is_negated l) refl

pub signed_is_below : (vars l next : ℕ) → variable next < vars + 1 → variable (with_sign_of l next) < vars + 1
signed_is_below vars l next h = by_test (is_negated l)
  where
    by_test : (b : Bool) → variable (cond b (negated next) next) < vars + 1
    by_test true = negated_is_below vars next h
    by_test false = h

-- a latch with the variable decides what a literal over it says
latch_value_at : (latches : List Latch) (row : List Bool) (l next k : ℕ) (latch : Latch) → slice_get latches k ≡ Some latch
    → variable latch.lit ≡ variable l
    → ((j : ℕ) (other : Latch) → slice_get latches j ≡ Some other → variable other.lit ≡ variable l → other.next ≡ next)
    → latch_value (map latch_of latches) (map (λ (x : plain.Latch). value row x.next) (map latch_of latches)) l ≡ with_sign l
    (value row next)
latch_value_at [] row l next k latch is var each = absurd cc
latch_value_at (x ∷ xs) row l next zero latch is var each =
    let same : x ≡ latch = same_Some x latch is in
    let here : eqb (variable l) (variable x.lit) ≡ true = eq-eqb (variable l) (variable x.lit)
    (sym (ap (λ (y : Latch). variable y.lit) same ∙ var)) in
    let says : x.next ≡ next = each 0 x refl (ap (λ (y : Latch). variable y.lit) same ∙ var) in
    ap (λ (b : Bool). cond b (with_sign l (value row x.next))
    (latch_value (map latch_of xs) (map (λ (y : plain.Latch). value row y.next) (map latch_of xs)) l)) here
    ∙ ap (λ (m : ℕ). with_sign l (value row m)) says
latch_value_at (x ∷ xs) row l next (suc k) latch is var each =
    by_test (eqb (variable l) (variable x.lit)) refl
    (latch_value_at xs row l next k latch is var (λ j other at. each (suc j) other at))
  where
    by_test : (b : Bool) → b ≡ eqb (variable l) (variable x.lit)
        → latch_value (map latch_of xs) (map (λ (y : plain.Latch). value row y.next) (map latch_of xs)) l ≡ with_sign l
        (value row next)
        → cond b (with_sign l (value row x.next))
        (latch_value (map latch_of xs) (map (λ (y : plain.Latch). value row y.next) (map latch_of xs)) l) ≡ with_sign l
        (value row next)
    by_test true e h =
        let var : variable x.lit ≡ variable l = sym (eqb-true (variable l) (variable x.lit) (sym e)) in
        ap (λ (m : ℕ). with_sign l (value row m)) (each 0 x refl var)
    by_test false e h = h

-- what stands in the table for the variable of the literal
abbrev pub Says : List ℕ → ℕ → ℕ → Type 0
Says nexts l next = slice_get nexts (variable l) ≡ Some next

module _ (n : Netlist) (nexts : List ℕ) (table : HasNexts n nexts) (l next : ℕ) (says : Says nexts l next) where
  pub next_of_latch : (k : ℕ) (latch : Latch) → slice_get n.latches k ≡ Some latch → variable latch.lit ≡ variable l
      → latch.next ≡ next
  next_of_latch k latch is var =
      same_Some latch.next next (sym (table.each k latch is) ∙ ap (slice_get nexts) var ∙ says)

  pub next_is_exact : (k : ℕ) (latch : Latch) → slice_get n.latches k ≡ Some latch → variable latch.lit ≡ variable l
      → with_sign_of l next ≡ with_sign_of l latch.next
  next_is_exact k latch is var = ap (with_sign_of l) (sym (next_of_latch k latch is var))

  pub next_value : (over : HasLatch n l) (row : List Bool)
      → value row (with_sign_of l next) ≡ latch_value (circuit n).latches (next_state (circuit n) row) l
  next_value over row =
      value_signed row l next
      ∙ sym (latch_value_at n.latches row l next over.place over.latch over.latch_is over.var_is next_of_latch)

  pub next_is_below : IsSound n → (over : HasLatch n l) → variable (with_sign_of l next) < n.vars + 1
  next_is_below sound over =
      let same : over.latch.next ≡ next = next_of_latch over.place over.latch over.latch_is over.var_is in
      let below : variable over.latch.next < n.vars + 1 = lit_is_below n.vars over.latch.next
      (sound.latches over.place over.latch over.latch_is).next.within in
      signed_is_below n.vars l next (omega (arith, below, ap variable same))

-- the latch that decides what the literal is one step later
pub record HasNext (latches : List Latch) (l next : ℕ) : Type 0 where
  pub place : ℕ
  pub latch : Latch
  pub latch_is : slice_get latches place ≡ Some latch
  pub var_is : variable latch.lit ≡ variable l
  pub next_is : with_sign_of l latch.next ≡ next

HasNext-later : (x : Latch) (xs : List Latch) (l next : ℕ) → HasNext xs l next → HasNext (x ∷ xs) l next
HasNext-later x xs l next h = record {
  place = suc h.place;
  latch = h.latch;
  latch_is = h.latch_is;
  var_is = h.var_is;
  next_is = h.next_is;
}

first_next : (latches : List Latch) (l k : ℕ) (latch : Latch) → slice_get latches k ≡ Some latch → variable latch.lit ≡ variable l
    → HasNext latches l (next_literal latches l)
first_next [] l k latch is var = absurd cc
first_next (x ∷ xs) l zero latch is var =
    let same : x ≡ latch = same_Some x latch is in
    let own : variable x.lit ≡ variable l = ap (λ (y : Latch). variable y.lit) same ∙ var in
    record {
      place = 0;
      latch = x;
      latch_is = refl;
      var_is = own;
      next_is = sym
          (ap (λ (b : Bool). cond b (with_sign_of l x.next) (next_literal xs l)) (eq-eqb (variable x.lit) (variable l) own));
    }
first_next (x ∷ xs) l (suc k) latch is var = by_test (eqb (variable x.lit) (variable l)) refl (first_next xs l k latch is var)
  where
    by_test : (b : Bool) → b ≡ eqb (variable x.lit) (variable l) → HasNext xs l (next_literal xs l)
        → HasNext (x ∷ xs) l (cond b (with_sign_of l x.next) (next_literal xs l))
    by_test true e h = record {
      place = 0;
      latch = x;
      latch_is = refl;
      var_is = eqb-true (variable x.lit) (variable l)
          (sym e);
      next_is = refl;
    }
    by_test false e h = HasNext-later x xs l (next_literal xs l) h

pub next_is_first : (n : Netlist) (nexts : List ℕ) → HasNexts n nexts → (l next : ℕ) → Says nexts l next → HasLatch n l
    → with_sign_of l next ≡ next_literal n.latches l
next_is_first n nexts table l next says over =
    let first = first_next n.latches l over.place over.latch over.latch_is over.var_is in
    next_is_exact n nexts table l next says first.place first.latch first.latch_is first.var_is ∙ first.next_is

pub is_over_within : (n : Netlist) (nexts : List ℕ) (l : ℕ) → HasNexts n nexts → HasLatch n l → variable l < length nexts
is_over_within n nexts l table over =
    let within = slice_get_within nexts (variable over.latch.lit) over.latch.next
    (table.each over.place over.latch over.latch_is) in
    omega (arith, over.var_is, within)

-- ---- the table, as it is filled

-- the latches below this place stand in it
pub record HasFirst (n : Netlist) (at : ℕ) (nexts : List ℕ) : Type 0 where
  pub width : length nexts ≡ n.vars + 1
  pub each : (k : ℕ) (latch : Latch) → k < at → slice_get n.latches k ≡ Some latch
      → slice_get nexts (variable latch.lit) ≡ Some latch.next

place_of_latch : (n : Netlist) (k : ℕ) (latch : Latch) → slice_get n.latches k ≡ Some latch
    → slice_get (definitions n) (length (map variable n.inputs) + k) ≡ Some (variable latch.lit)
place_of_latch n k latch is =
    get_left (map variable n.inputs ++ map (λ (k : Latch). variable k.lit) n.latches) (map gate_var n.gates)
    (length (map variable n.inputs) + k) (variable latch.lit)
    (get_right (map variable n.inputs) (map (λ (k : Latch). variable k.lit) n.latches) k (variable latch.lit)
    (get_map (λ (k : Latch). variable k.lit) n.latches k latch is))

pub own_var : (n : Netlist) → IsSound n → (j k : ℕ) (other latch : Latch) → slice_get n.latches j ≡ Some other
    → slice_get n.latches k ≡ Some latch → variable other.lit ≡ variable latch.lit → j ≡ k
own_var n sound j k other latch at_j at_k same =
    let places = one_place (definitions n) (length (map variable n.inputs) + j) (length (map variable n.inputs) + k)
    (variable other.lit) (variable latch.lit) sound.once (place_of_latch n j other at_j)
    (place_of_latch n k latch at_k) same in
    omega (arith, places)

set_here : {X : Type 0} (xs : List X) (i : ℕ) (x : X) → i < length xs → slice_get (set xs i x) i ≡ Some x
set_here [] i x h = absurd (omega arith)
set_here (y ∷ xs) zero x h = refl
set_here (y ∷ xs) (suc i) x h = set_here xs i x (omega arith)

set_elsewhere : {X : Type 0} (xs : List X) (i j : ℕ) (x y : X) → j ≢ i → slice_get xs j ≡ Some y
    → slice_get (set xs i x) j ≡ Some y
set_elsewhere [] i j x y apart is = absurd cc
set_elsewhere (z ∷ xs) zero zero x y apart is = absurd (apart refl)
set_elsewhere (z ∷ xs) zero (suc j) x y apart is = is
set_elsewhere (z ∷ xs) (suc i) zero x y apart is = is
set_elsewhere (z ∷ xs) (suc i) (suc j) x y apart is = set_elsewhere xs i j x y (λ e. apart (ap suc e)) is

pub HasFirst-none : (n : Netlist) (nexts : List ℕ) → length nexts ≡ n.vars + 1 → HasFirst n 0 nexts
HasFirst-none n nexts width = record { width = width; each = λ k latch below. absurd (omega arith) }

pub HasFirst-more : (n : Netlist) → IsSound n → (at : ℕ) (latch : Latch) (nexts : List ℕ) → slice_get n.latches at ≡ Some latch
    → variable latch.lit < length nexts → HasFirst n at nexts
    → HasFirst n (at + 1) (set nexts (variable latch.lit) latch.next)
HasFirst-more n sound at latch nexts is fits h =
    record {
      width = length-set nexts (variable latch.lit) latch.next
          ∙ h.width;
      each = λ k other below at_k. by_place k other at_k (cases_order k at) below;
    }
  where
    by_place : (k : ℕ) (other : Latch) → slice_get n.latches k ≡ Some other → ((k ≡ at) ⊎ ((k < at) ⊎ (at < k))) → k < at + 1
        → slice_get (set nexts (variable latch.lit) latch.next) (variable other.lit) ≡ Some other.next
    by_place k other at_k (inl same) below =
        let one : other ≡ latch = same_Some other latch (sym at_k ∙ ap (slice_get n.latches) same ∙ is) in
        ap (λ (x : Latch). slice_get (set nexts (variable latch.lit) latch.next) (variable x.lit)) one
        ∙ set_here nexts (variable latch.lit) latch.next fits
        ∙ ap (λ (x : Latch). Some x.next) (sym one)
    by_place k other at_k (inr (inl less)) below =
        set_elsewhere nexts (variable latch.lit) (variable other.lit) latch.next other.next
        (λ same. let place = own_var n sound k at other latch at_k is same in absurd (omega (arith, place)))
        (h.each k other less at_k)
    by_place k other at_k (inr (inr more)) below = absurd (omega arith)

pub HasFirst-all : (n : Netlist) (at : ℕ) (nexts : List ℕ) → length n.latches ≤ at → HasFirst n at nexts → HasNexts n nexts
HasFirst-all n at nexts end h =
    record {
      width = h.width;
      each = λ k latch is. let within = slice_get_within n.latches k latch is in h.each k latch
          (omega (arith, within)) is;
    }
