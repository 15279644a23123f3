-- The table of resets, and what it says of literals.
use Rattle.std.proofs.Common.{◌≡◌, ℕ, zero, suc, ◌+◌, ◌<◌, ◌==◌, ◌&&◌, ◌||◌, eqb, Bool, true, false, cond, Option, Some, None, List, [], ◌∷◌, length, get_or, set, replicate, map, slice_get, refl, sym, ap, ◌∙◌, arith, eqb-true, length-set, ◌≢◌, get_or-set_same, get_or-set_other, subst, drop, ◌-◌}
use Rattle.std.proofs.Math.Seq.{drop-cons}
use Rattle.std.proofs.lemmas.List.{length-replicate}
use Rattle.std.proofs.lemmas.Option.{get_or_from_slice_get, slice_get_within}
use Rattle.std.specs.Option.{is_some}
use Rattle.std.specs.List.{list_any}
use Rattle.std.proofs.lemmas.Bool.{eqb-false}
use Rattle.ja_base.specs.Literals.{variable}
use Rattle.ja_base.specs.Circuit as plain
use Rattle.aig_model.specs.declared.netlist.Latch.{Latch}
use Rattle.aig_model.specs.declared.netlist.Reset.{Reset}
use Rattle.aig_model.specs.Netlist.{Netlist, IsSound, circuit, latch_of, reset_bit}
use Rattle.ja_project.proofs.NextLemmas.{own_var}
use Rattle.ja_project.specs.Latches.{is_over_latch}
use Rattle.ja_project.specs.Start.{reset_sets, agrees_with_reset}
use Rattle.ja_project.specs.Resets.{reset_of, HasResets}

-- the reset makes the literal 1, if there is one
abbrev pub sets : Option Reset → ℕ → Bool
sets None l = false
sets (Some reset) l = reset_sets (reset_bit reset) l

abbrev has_var : List Latch → ℕ → Bool
has_var ks u = list_any (λ (k : plain.Latch). u == k.var) (map latch_of ks)

over_by : (ks : List Latch) (u : ℕ) → is_some (reset_of ks u) ≡ has_var ks u
over_by [] u = refl
over_by (x ∷ xs) u = by_test (eqb u (variable x.lit)) (over_by xs u)
  where
    by_test : (b : Bool) → is_some (reset_of xs u) ≡ has_var xs u
        → is_some (cond b (Some x.reset) (reset_of xs u)) ≡ (b || has_var xs u)
    by_test true h = refl
    by_test false h = h

pub is_over : (n : Netlist) (l : ℕ) → is_some (reset_of n.latches (variable l)) ≡ is_over_latch (circuit n) l
is_over n l = over_by n.latches (variable l)

-- ---- no variable is that of two latches

abbrev Differ : List Latch → Type 0
Differ [] = Unit {0}
Differ (k ∷ ks) = (has_var ks (variable k.lit) ≡ false) × Differ ks

none_has : (ks : List Latch) (u : ℕ) → ((k : ℕ) (latch : Latch) → slice_get ks k ≡ Some latch → u ≡ variable latch.lit → ⊥)
    → has_var ks u ≡ false
none_has [] u h = refl
none_has (x ∷ xs) u h = by_test (eqb u (variable x.lit)) refl (none_has xs u (λ k latch is. h (suc k) latch is))
  where
    by_test : (b : Bool) → b ≡ eqb u (variable x.lit) → has_var xs u ≡ false → (b || has_var xs u) ≡ false
    by_test true e later = absurd (h 0 x refl (eqb-true u (variable x.lit) (sym e)))
    by_test false e later = later

differ : (ks : List Latch)
    → ((i j : ℕ) (a b : Latch) → slice_get ks i ≡ Some a → slice_get ks j ≡ Some b → variable a.lit ≡ variable b.lit → i ≡ j)
    → Differ ks
differ [] h = tt
differ (x ∷ xs) h = (
  none_has xs (variable x.lit) (λ k latch is e. let place = h 0 (suc k) x latch refl is e in absurd (omega arith)),
  differ xs (λ i j a b at_i at_j e. let place = h (suc i) (suc j) a b at_i at_j e in omega (arith, place)),
)

module _ (l : ℕ) where
  abbrev agrees_in : List Latch → Bool
  agrees_in ks = list_any (λ (k : plain.Latch). variable l == k.var && reset_sets k.reset l) (map latch_of ks)

  none_agrees : (ks : List Latch) → has_var ks (variable l) ≡ false → agrees_in ks ≡ false
  none_agrees [] e = refl
  none_agrees (x ∷ xs) e = by_test (eqb (variable l) (variable x.lit)) (none_agrees xs) e
    where
      by_test : (b : Bool) → (has_var xs (variable l) ≡ false → agrees_in xs ≡ false) → (b || has_var xs (variable l)) ≡ false
          → ((b && reset_sets (reset_bit x.reset) l) || agrees_in xs) ≡ false
      by_test true h e = cc
      by_test false h e = h e

  or_none : (b c : Bool) → c ≡ false → b ≡ ((true && b) || c)
  or_none true c e = refl
  or_none false c e = sym e

  agrees_by : (ks : List Latch) → Differ ks → sets (reset_of ks (variable l)) l ≡ agrees_in ks
  agrees_by [] h = refl
  agrees_by (x ∷ xs) h = by_test (eqb (variable l) (variable x.lit)) refl (agrees_by xs h.1)
    where
      by_test : (b : Bool) → b ≡ eqb (variable l) (variable x.lit) → sets (reset_of xs (variable l)) l ≡ agrees_in xs
          → sets (cond b (Some x.reset) (reset_of xs (variable l))) l ≡ ((b && reset_sets (reset_bit x.reset) l) || agrees_in xs)
      by_test true e later =
          let same : variable l ≡ variable x.lit = eqb-true (variable l) (variable x.lit) (sym e) in
          or_none (reset_sets (reset_bit x.reset) l) (agrees_in xs) (none_agrees xs (ap (has_var xs) same ∙ h.0))
      by_test false e later = later

pub agrees : (n : Netlist) → IsSound n → (l : ℕ) → sets (reset_of n.latches (variable l)) l ≡ agrees_with_reset (circuit n) l
agrees n sound l = agrees_by l n.latches (differ n.latches (own_var n sound))

-- ---- the table, as it is filled from the last latch on

read_anywhere : {X : Type 0} (m u : ℕ) (x : X) → get_or (replicate m x) u x ≡ x
read_anywhere zero u x = refl
read_anywhere (suc m) zero x = refl
read_anywhere (suc m) (suc u) x = read_anywhere m u x

pub HasResets-none : (vars : ℕ) (resets : List (Option Reset)) → resets ≡ replicate (vars + 1) None → HasResets [] vars resets
HasResets-none vars resets e = record {
  width = ap length e ∙ length-replicate (vars + 1) None;
  each = λ u. ap (λ (xs : List (Option Reset)). get_or xs u None) e ∙ read_anywhere (vars + 1) u None;
}

pub HasResets-more : (latch : Latch) (ks : List Latch) (vars : ℕ) (resets : List (Option Reset)) → HasResets ks vars resets
    → variable latch.lit < length resets → HasResets (latch ∷ ks) vars (set resets (variable latch.lit) (Some latch.reset))
HasResets-more latch ks vars resets h within = record {
  width = length-set resets (variable latch.lit) (Some latch.reset) ∙ h.width;
  each = λ u. by_test u (eqb u (variable latch.lit)) refl (h.each u);
}
  where
    by_test : (u : ℕ) (b : Bool) → b ≡ eqb u (variable latch.lit) → get_or resets u None ≡ reset_of ks u
        → get_or (set resets (variable latch.lit) (Some latch.reset)) u None ≡ cond b (Some latch.reset) (reset_of ks u)
    by_test u true e so_far =
        let same : u ≡ variable latch.lit = eqb-true u (variable latch.lit) (sym e) in
        ap (λ (k : ℕ). get_or (set resets (variable latch.lit) (Some latch.reset)) k None) same
        ∙ get_or-set_same resets (variable latch.lit) (Some latch.reset) None within
    by_test u false e so_far =
        let other : u ≢ variable latch.lit = eqb-false u (variable latch.lit) (sym e) in
        get_or-set_other resets (variable latch.lit) u (Some latch.reset) None other ∙ so_far

drop_before : (ks : List Latch) (at : ℕ) (latch : Latch) → 0 < at → slice_get ks (at - 1) ≡ Some latch
    → drop (at - 1) ks ≡ latch ∷ drop at ks
drop_before ks at latch some is =
    let next : suc (at - 1) ≡ at = omega arith in
    drop-cons ks (at - 1) latch (slice_get_within ks (at - 1) latch is)
    ∙ ap (λ (x : Latch). x ∷ drop (suc (at - 1)) ks) (get_or_from_slice_get ks (at - 1) latch latch is)
    ∙ ap (λ (m : ℕ). latch ∷ drop m ks) next

pub HasResets-before : (ks : List Latch) (vars at : ℕ) (latch : Latch) (resets : List (Option Reset)) → 0 < at
    → slice_get ks (at - 1) ≡ Some latch → variable latch.lit < vars + 1 → HasResets (drop at ks) vars resets
    → HasResets (drop (at - 1) ks) vars (set resets (variable latch.lit) (Some latch.reset))
HasResets-before ks vars at latch resets some is below h =
    let P : List Latch → Type 0 = λ ls. HasResets ls vars (set resets (variable latch.lit) (Some latch.reset)) in
    subst P (sym (drop_before ks at latch some is))
    (HasResets-more latch (drop at ks) vars resets h (omega (arith, h.width, below)))
