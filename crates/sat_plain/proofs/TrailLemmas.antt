-- A trail as literals come and go.
use Rattle.std.proofs.Common.{◌≡◌, ℕ, ◌+◌, ◌*◌, ◌%◌, ◌<◌, ◌≤◌, ◌⊎◌, Bool, true, false, List, [], ◌∷◌, ◌++◌, length, get_or, set, map, take, eqb, Some, slice_get, zero, suc, inl, inr, refl, sym, subst, ◌∙◌, ap, arith}
use Rattle.std.specs.List.{AllPairs, Contains, list_any}
use Rattle.std.proofs.lemmas.Bool.Decides.{nat_tests, eqb_tells, Decides-eqb, Decides-by_or}
use Rattle.std.proofs.lemmas.List.{get_or-set_same, get_or-set_other, length-set, length-append, length-map, get_or-map, get_or_append_left, get_or_push, length_push}
use Rattle.std.proofs.lemmas.List.Elements.{All-push, All-contains, All-map, Contains-push, Contains-push_cases, Contains-append_left, Contains-get_or, Decides-contains}
use Rattle.std.proofs.lemmas.List.Quantifiers.{all_pairs_push}
use Rattle.std.proofs.lemmas.Map.Made.{IsDistinct-from_AllPairs}
use Rattle.std.proofs.lemmas.Map.Steps.{length-le_from_distinct_below}
use Rattle.ja_base.specs.Literals.{bit, variable, negated}
use Rattle.ja_base.specs.Clauses.{IsBelow}
use Rattle.ja_base.proofs.LiteralLemmas.{literal_within}
use Rattle.ja_base.specs.Trails.{IsTrail, AreApart, IsFull}
use Rattle.std.proofs.lemmas.Bool.{cases_eq, false_from_ne_true}
use Rattle.std.proofs.lemmas.Option.{get_or_from_slice_get, slice_get_within}
use Rattle.sat_plain.proofs.Members.{taken_at}

pub same_or_negated : (l m : ℕ) → variable m ≡ variable l → (m ≡ l) ⊎ (m ≡ negated l)
same_or_negated l m e = elim (eqb_tells m l) [ inl same ↦ inl same.1 | inr other ↦ inr (grind (arith, nat_tests)) ]

pub bit_set_same : (row : List Bool) (l : ℕ) (b : Bool) → l < length row → bit (set row l b) l ≡ b
bit_set_same row l b less = get_or-set_same row l b false less

pub bit_set_other : (row : List Bool) (l m : ℕ) (b : Bool) → (m ≡ l → ⊥) → bit (set row l b) m ≡ bit row m
bit_set_other row l m b other = get_or-set_other row l m b false other

pub bit_within : (row : List Bool) (l : ℕ) → bit row l ≡ true → l < length row
bit_within [] l e = cc
bit_within (b ∷ bs) zero e = omega arith
bit_within (b ∷ bs) (suc l) e = let r = bit_within bs l e in omega arith

-- literals of which no variable stands twice are no more than the variables
any_is_contained : (xs : List ℕ) (q : ℕ) → list_any (eqb q) xs ≡ true → Contains xs q
any_is_contained xs q e =
    (Decides-contains xs q (list_any (eqb q) xs)
    (Decides-by_or (eqb q) (λ m. m ≡ q) (list_any (eqb q)) (λ m. turned m) refl (λ _ _. refl) xs)).0 e
  where
    turned : (m : ℕ) → ((eqb q m ≡ true) → m ≡ q) × (m ≡ q → eqb q m ≡ true)
    turned m = (λ e. sym ((Decides-eqb q m).0 e), λ e. (Decides-eqb q m).1 (sym e))

pub apart_is_short : (vars : ℕ) (lits : List ℕ) → IsBelow vars lits → AreApart lits → length lits ≤ vars
apart_is_short vars lits below apart =
    let all : List ℕ = map variable lits in
    let width : length all ≡ length lits = length-map lits variable in
    let pairs : AllPairs (λ x y. x ≡ y → ⊥) all =
    λ i j d first last e.
    let last' : j < length lits = omega arith in
    let first' : i < length lits = omega arith in
    let a = get_or-map variable lits i 0 d first' in
    let b = get_or-map variable lits j 0 d last' in
    apart i j 0 first last' (sym a ∙ e ∙ b) in
    let few : length all ≤ vars =
    length-le_from_distinct_below all vars (IsDistinct-from_AllPairs {eq = eqb} Decides-eqb all pairs)
    (λ q e. All-contains (λ u. u < vars) all q (All-map (λ u. u < vars) variable lits below) (any_is_contained all q e)) in
    omega arith

-- where neither sign of l is true, no literal of its variable stands on the trail
other_variable : (vars l m : ℕ) (values : List Bool) (lits : List ℕ) → IsTrail vars values lits → bit values l ≡ false
    → bit values (negated l) ≡ false → Contains lits m → variable m ≡ variable l → ⊥
other_variable vars l m values lits h unset free has e =
    elim (same_or_negated l m e) [
      | inl q ↦ let t : bit values l ≡ true = ap (bit values) (sym q) ∙ h.on m has in cc
      | inr q ↦ let t : bit values (negated l) ≡ true = ap (bit values) (sym q) ∙ h.on m has in cc
    ]

pub pushed : (vars l : ℕ) (values : List Bool) (lits : List ℕ) → variable l < vars → bit values l ≡ false
    → bit values (negated l) ≡ false → IsTrail vars values lits → IsTrail vars (set values l true) (lits ++ l ∷ [])
pushed vars l values lits small unset free h =
    let within : l < length values = let w = h.width in omega (arith, literal_within l vars small) in
    let below : IsBelow vars (lits ++ l ∷ []) = All-push (λ m. variable m < vars) lits l h.below small in
    let apart : AreApart (lits ++ l ∷ []) =
    all_pairs_push (λ m n. variable m ≡ variable n → ⊥) lits l h.apart
    (λ k d less e. other_variable vars l (get_or lits k d) values lits h unset free (Contains-get_or lits k d less) e) in
    record {
      width = length-set values l true ∙ h.width;
      below = below;
      apart = apart;
      short = apart_is_short vars (lits ++ l ∷ []) below apart;
      on = λ m has.
          elim (eqb_tells m l) [
            | inl same ↦ ap (bit (set values l true)) same.1 ∙ bit_set_same values l true within
            | inr other ↦
                bit_set_other values l m true other.1
                ∙ elim (Contains-push_cases lits l m has) [ inl k ↦ h.on m k | inr q ↦ absurd (other.1 (sym q)) ]
          ];
      only = λ m e.
          elim (eqb_tells m l) [
            | inl same ↦
                let P : ℕ → Type 0 = Contains (lits ++ l ∷ []) in subst P (sym same.1) (Contains-push lits l)
            | inr other ↦
                Contains-append_left lits (l ∷ []) m (h.only m (sym (bit_set_other values l m true other.1) ∙ e))
          ];
    }

pub popped : (vars l : ℕ) (values : List Bool) (lits : List ℕ) → IsTrail vars values (lits ++ l ∷ [])
    → IsTrail vars (set values l false) lits
popped vars l values lits h =
    let whole : length (lits ++ l ∷ []) ≡ length lits + 1 = length-append lits (l ∷ []) in
    let small : variable l < vars = All-contains (λ m. variable m < vars) (lits ++ l ∷ []) l h.below (Contains-push lits l) in
    let within : l < length values = let w = h.width in omega (arith, literal_within l vars small) in
    let below : IsBelow vars lits =
    λ k d less.
    let P : ℕ → Type 0 = λ m. variable m < vars in
    subst P (get_or_append_left lits (l ∷ []) d k less) (h.below k d (omega arith)) in
    let apart : AreApart lits =
    λ i j d first last e.
    h.apart i j d first (omega arith)
    (ap variable (get_or_append_left lits (l ∷ []) d i (omega arith)) ∙ e
    ∙ sym (ap variable (get_or_append_left lits (l ∷ []) d j last))) in
    record {
      width = length-set values l false ∙ h.width;
      below = below;
      apart = apart;
      short = let s = h.short in omega arith;
      on = λ m has.
          bit_set_other values l m false (λ same. gone m has same) ∙ h.on m (Contains-append_left lits (l ∷ []) m has);
      only = λ m e.
          elim (eqb_tells m l) [
            | inl same ↦
                let f : bit (set values l false) m ≡ false =
                ap (bit (set values l false)) same.1 ∙ bit_set_same values l false within in
                cc
            | inr other ↦
                elim (Contains-push_cases lits l m (h.only m (sym (bit_set_other values l m false other.1) ∙ e))) [
                  | inl k ↦ k
                  | inr q ↦ absurd (other.1 (sym q))
                ]
          ];
    }
  where
    gone : (m : ℕ) → Contains lits m → m ≡ l → ⊥
    gone m has same =
        let k : ℕ = has.0 in
        let end : length (lits ++ l ∷ []) ≡ length lits + 1 = length-append lits (l ∷ []) in
        h.apart k (length lits) m has.1 (omega arith)
        (ap variable (get_or_append_left lits (l ∷ []) m k has.1 ∙ has.2 ∙ same)
        ∙ sym (ap variable (get_or_push lits l m (length lits) refl)))

bit_more : (xs : List Bool) (l : ℕ) → bit (xs ++ false ∷ []) l ≡ bit xs l
bit_more [] zero = refl
bit_more [] (suc l) = refl
bit_more (b ∷ bs) zero = refl
bit_more (b ∷ bs) (suc l) = bit_more bs l

-- one more variable, which has no value
pub widened : (vars : ℕ) (values : List Bool) (lits : List ℕ) → IsTrail vars values lits
    → IsTrail (vars + 1) ((values ++ false ∷ []) ++ false ∷ []) lits
widened vars values lits h =
    let more : List Bool = values ++ false ∷ [] in
    let one = length_push values false in
    let two = length_push more false in
    let wide = h.width in
    let few = h.short in
    let same : (l : ℕ) → bit (more ++ false ∷ []) l ≡ bit values l = λ l. bit_more more l ∙ bit_more values l in
    record {
      width = omega arith;
      below = λ k d less. let b = h.below k d less in omega arith;
      apart = h.apart;
      short = omega arith;
      on = λ l has. same l ∙ h.on l has;
      only = λ l e. h.only l (sym (same l) ∙ e);
    }

-- each variable has a value where one of its two literals is true
pub full_by_variables : (vars : ℕ) (values : List Bool)
    → ((var : ℕ) → var < vars → bit values (2 * var) ≡ false → bit values (2 * var + 1) ≡ true) → IsFull vars values
full_by_variables vars values h = record { other = λ l small f. go l small f (cases_eq (l % 2) 0) }
  where
    true_from : (b : Bool) → (b ≡ false → ⊥) → b ≡ true
    true_from true k = refl
    true_from false k = absurd (k refl)

    go : (l : ℕ) → variable l < vars → bit values l ≡ false → (l % 2 ≡ 0) ⊎ (l % 2 ≡ 0 → ⊥) → bit values (negated l) ≡ true
    go l small f (inl even) =
        let this : l ≡ 2 * variable l = omega arith in
        let other : negated l ≡ 2 * variable l + 1 = grind (arith, nat_tests) in
        ap (bit values) other ∙ h (variable l) small (ap (bit values) (sym this) ∙ f)
    go l small f (inr odd) =
        let this : l ≡ 2 * variable l + 1 = omega arith in
        let other : negated l ≡ 2 * variable l = grind (arith, nat_tests) in
        ap (bit values) other
        ∙ true_from (bit values (2 * variable l)) (λ e.
        let t : bit values l ≡ true = ap (bit values) this ∙ h (variable l) small e in cc)

-- once the places from p on are gone, no literal of the variable that stood at p is true
pub unset_after : (vars p l m : ℕ) (values left : List Bool) (lits : List ℕ) → IsTrail vars values lits
    → slice_get lits p ≡ Some l → IsTrail vars left (take p lits) → variable m ≡ variable l → bit left m ≡ false
unset_after vars p l m values left lits is there now e =
    false_from_ne_true (bit left m) (λ t.
    let r = taken_at lits p m (now.only m t) in
    let apart = is.apart in
    apart r.0 p m r.1 (slice_get_within lits p l there)
    (ap variable r.3 ∙ e ∙ sym (ap variable (get_or_from_slice_get lits p l m there))))
