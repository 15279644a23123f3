-- Down the trail to the literal that is kept.
use Rattle.std.proofs.Common.{◌≡◌, ℕ, ◌+◌, ◌-◌, ◌*◌, ◌<◌, ◌≤◌, Bool, true, false, not, List, length, get_or, take, drop, Option, Some, None, zero, suc, slice_get, inl, inr, refl, sym, subst, ◌∙◌, ap, arith}
use Rattle.std.specs.List.{Contains}
use Rattle.std.specs.Option.{is_some, IfNone}
use Rattle.std.proofs.lemmas.Bool.Decides.{eqb_tells}
use Rattle.std.proofs.lemmas.List.{length-take, length-drop, take-take, get_or-take, get_or-drop, get_or_default}
use Rattle.std.proofs.lemmas.Option.{get_or_from_slice_get, slice_get-get_or, slice_get_within, same_Some}
use Rattle.ja_base.specs.Literals.{bit, variable, negated}
use Rattle.ja_base.proofs.LiteralLemmas.{literal_within, negated_within}
use Rattle.ja_base.specs.Trails.{IsTrail, AreApart}
use Rattle.sat_plain.specs.declared.place.Place.{Place}
use Rattle.sat_plain.specs.Trails.{lits_of}
use Rattle.sat_plain.specs.Derive.{Derived, IsDerived}
use Rattle.sat_plain.proofs.Members.{taken_at, dropped_at}
use Rattle.sat_plain.proofs.DeriveLemmas.{skipped}
use Rattle.sat_plain.proofs.PlaceLemmas.{lits_at, lits_length, slice_get_take}
use Rattle.sat_plain.proofs.WalkLemmas.{place_below, walked_of}
use Rattle.sat_cdcl.specs.Walks.{AreUnmarked, GoesOn}

pub none_from : {X : Type 0} (o : Option X) (r : Bool) → is_some o ≡ not r → r ≡ true → o ≡ None
none_from None r e t = refl
none_from (Some x) true e t = cc
none_from (Some x) false e t = cc

pub none_again : {X : Type 0} (o : Option X) (P Q : Type 0) → (P → Q) → IfNone o P → IfNone o Q
none_again None P Q f h = f h
none_again (Some x) P Q f h = tt

pub unmarked_from : (b r : Bool) → r ≡ not b → r ≡ true → b ≡ false
unmarked_from true r e t = cc
unmarked_from false r e t = refl

pub marked_from : (b r : Bool) → r ≡ not b → r ≡ false → b ≡ true
marked_from true r e t = refl
marked_from false r e t = cc

-- a literal of the trail has a mark
pub within_marks : (vars n : ℕ) (values : List Bool) (places : List Place) (p : ℕ) (place : Place)
    → IsTrail vars values (lits_of places) → slice_get places p ≡ Some place → n ≡ 2 * vars
    → (place.lit < n) × (negated place.lit < n)
within_marks vars n values places p place is e wide =
    let small : variable place.lit < vars = place_below vars values places p place is e in
    (omega (arith, literal_within place.lit vars small), omega (arith, negated_within place.lit vars small))

pub unmarked_more : (places : List Place) (d : Derived) (k j p : ℕ) (place : Place) → k + 1 ≡ j
    → slice_get places k ≡ Some place → bit d.marks place.lit ≡ false → AreUnmarked places d j p → AreUnmarked places d k p
unmarked_more places d k j p place next e free h = λ q l low high f.
    elim (eqb_tells q k) [
      | inl same ↦
          let is : place.lit ≡ l =
          same_Some place.lit l (sym (lits_at places k place e) ∙ ap (slice_get (lits_of places)) (sym same.1) ∙ f) in
          ap (bit d.marks) (sym is) ∙ free
      | inr other ↦ let o = other.1 in let above : j ≤ q = grind arith in h q l above high f
    ]

-- down to place k, n places lower
pub skipped_down : (vars : ℕ) (list : List (List ℕ)) (places : List Place) (d : Derived) (k n : ℕ) → k + n ≤ length places
    → AreUnmarked places d k (k + n) → IsDerived vars list (lits_of places) (k + n) d → IsDerived vars list (lits_of places) k d
skipped_down vars list places d k zero fits h derived =
    let P : ℕ → Type 0 = λ m. IsDerived vars list (lits_of places) m d in
    let same : k + 0 ≡ k = omega arith in subst P same derived
skipped_down vars list places d k (suc n) fits h derived =
    let lits : List ℕ = lits_of places in
    let p : ℕ = k + n in
    let less : p < length lits = omega (arith, lits_length places) in
    let l : ℕ = get_or lits p 0 in
    let there : slice_get lits p ≡ Some l = slice_get-get_or lits p 0 less in
    let P : ℕ → Type 0 = λ m. IsDerived vars list lits m d in
    let next : k + suc n ≡ p + 1 = omega arith in
    skipped_down vars list places d k n (omega (arith, lits_length places)) (λ q m low high e. h q m low (omega arith) e)
    (skipped vars list lits p l d there (h p l (omega arith) (omega arith) there) (subst P next derived))

-- ---- the first of two lists

pub into_taken : (xs : List ℕ) (p n l : ℕ) → p < n → slice_get xs p ≡ Some l → slice_get (take n xs) p ≡ Some l
into_taken xs p n l less e =
    let within : p < length xs = slice_get_within xs p l e in
    slice_get-get_or (take n xs) p l (omega (arith, length-take n xs))
    ∙ ap Some (get_or-take n xs p l less ∙ get_or_from_slice_get xs p l l e)

pub taken_same_at : (xs ys : List ℕ) (p l : ℕ) → take (p + 1) xs ≡ take (p + 1) ys → slice_get ys p ≡ Some l
    → slice_get xs p ≡ Some l
taken_same_at xs ys p l same e =
    let r = slice_get_take (p + 1) xs p l (ap (λ v. slice_get v p) same ∙ into_taken ys p (p + 1) l (omega arith) e) in r.1

pub taken_same_less : (xs ys : List ℕ) (p n : ℕ) → p ≤ n → take n xs ≡ take n ys → take p xs ≡ take p ys
taken_same_less xs ys p n less same =
    sym (take-take p n xs less) ∙ ap (take p) same ∙ take-take p n ys less

pub dropped_has : (xs : List ℕ) (q p l : ℕ) → q ≤ p → slice_get xs p ≡ Some l → Contains (drop q xs) l
dropped_has xs q p l low e =
    let within : p < length xs = slice_get_within xs p l e in
    let k : ℕ = p - q in
    let at : q + k ≡ p = omega arith in
    (k, omega (arith, length-drop q xs), get_or-drop q xs k l ∙ ap (λ n. get_or xs n l) at ∙ get_or_from_slice_get xs p l l e)

-- what a place before and one from there on have are two variables
pub apart_at : (xs : List ℕ) (q l m : ℕ) → AreApart xs → Contains (drop q xs) l → Contains (take q xs) m
    → variable m ≡ variable l → ⊥
apart_at xs q l m apart high low e =
    let a = dropped_at xs q l high in
    let b = taken_at xs q m low in
    apart b.0 a.0 m (omega (arith, b.1, a.1)) a.2
    (ap variable b.3 ∙ e ∙ sym (ap variable (get_or_default xs a.0 m l a.2 ∙ a.3)))

-- a walk that goes on over the trail itself
pub goes_on : (vars : ℕ) (values : List Bool) (list : List (List ℕ)) (places : List Place) (p : ℕ) (before after : Derived)
    → IsTrail vars values (lits_of places) → GoesOn vars list places p before after
    → IsDerived vars list (lits_of places) (p + 1) before → IsDerived vars list (lits_of places) p after
goes_on vars values list places p before after is h derived =
    h (lits_of places) refl (walked_of vars values (lits_of places) is) derived
