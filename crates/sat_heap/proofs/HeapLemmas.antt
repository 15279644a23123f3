-- What a heap keeps from call to call.
use Rattle.std.proofs.Common.{◌≡◌, ◌≢◌, ℕ, ◌+◌, ◌/◌, ◌<◌, ◌≤◌, ◌^◌, Bool, true, false, nat_lt, zero, suc, List, [], ◌∷◌, ◌++◌, length, get_or, set, map, inl, inr, refl, sym, subst, ap, ◌∙◌, arith}
use Rattle.std.proofs.lemmas.Bool.Decides.{eqb_tells, nat_tests}
use Rattle.std.proofs.lemmas.List.{get_or-set_same, get_or-set_other, length-set, length-map, get_or-map, get_or_append_left, get_or_push, length_push}
use Rattle.ja_base.specs.Literals.{bit}
use Rattle.sat_heap.specs.Orders.{IsInverse, IsExchanged, IsHeap, IsOrdered, IsRising, IsSinking, IsLessAbove, IsMoreBelow, above, inside_of, key}
use Rattle.sat_heap.proofs.KeyLemmas.{keys_exchanged, rise_step, sink_step, top, first_sinks, one_rises}
use Rattle.sat_heap.proofs.PlaceLemmas.{inside_same, inside_at, true_lt}

pub own_width : (n : ℕ) (vars places : List ℕ) → IsInverse n vars places → IsInverse (length vars) vars places
own_width n vars places h = subst (λ m. IsInverse m vars places) (sym h.vars_len) h

-- after two places changed their variables
pub record IsTurned (n len : ℕ) (vars places vars' places' : List ℕ) (i j : ℕ) : Type 0 where
  pub inverse : IsInverse n vars places
  pub within_i : i < n
  pub within_j : j < n
  pub exchanged : IsExchanged vars vars' i j
  pub moved : IsExchanged places places' (get_or vars i 0) (get_or vars j 0)
  pub again : IsInverse (length vars) vars' places'

pub turned_inverse : (n len : ℕ) (vars places vars' places' : List ℕ) (i j : ℕ) → IsTurned n len vars places vars' places' i j
    → IsInverse n vars' places'
turned_inverse n len vars places vars' places' i j t =
    let w = t.inverse.vars_len in
    subst (λ m. IsInverse m vars' places') w t.again

pub turned_inside : (n len : ℕ) (vars places vars' places' : List ℕ) (i j : ℕ) → IsTurned n len vars places vars' places' i j
    → i < len → j < len → inside_of len places' ≡ inside_of len places
turned_inside n len vars places vars' places' i j t low_i low_j =
    let new = turned_inverse n len vars places vars' places' i j t in
    inside_same n len vars places places' i j t.inverse t.within_i t.within_j new.places_len t.moved low_i low_j

pub turned_rises : (n len : ℕ) (activity vars places vars' places' : List ℕ) (i p : ℕ)
    → IsTurned n len vars places vars' places' i p
    → IsRising len (key activity vars) i → i < len → IsLessAbove (key activity vars) i p → IsRising len (key activity vars') p
turned_rises n len activity vars places vars' places' i p t h within less =
    rise_step len (key activity vars) (key activity vars') i p h within less (keys_exchanged activity vars vars' i p t.exchanged)

pub turned_sinks : (n len : ℕ) (activity vars places vars' places' : List ℕ) (i c : ℕ)
    → IsTurned n len vars places vars' places' i c
    → IsSinking len (key activity vars) i → IsMoreBelow len (key activity vars) i c → IsSinking len (key activity vars') c
turned_sinks n len activity vars places vars' places' i c t h more =
    sink_step len (key activity vars) (key activity vars') i c h more (keys_exchanged activity vars vars' i c t.exchanged)

-- ---- a variable that is not in the heap

grown_inverse : (n : ℕ) (vars places : List ℕ) → IsInverse n vars places → IsInverse (n + 1) (vars ++ n ∷ []) (places ++ n ∷ [])
grown_inverse n vars places h =
    let wide = h.vars_len in
    let wide' = h.places_len in
    let one = length_push vars n in
    let one' = length_push places n in
    record {
      vars_len = omega arith;
      places_len = omega arith;
      at_place = λ k below. at_one vars places h.at_place wide wide' k below;
      of_var = λ k below. at_one places vars h.of_var wide' wide k below;
    }
  where
    at_one : (xs ys : List ℕ) → ((k : ℕ) → k < n → (get_or xs k 0 < n) × (get_or ys (get_or xs k 0) 0 ≡ k))
        → length xs ≡ n → length ys ≡ n
        → (k : ℕ) → k < n + 1
        → (get_or (xs ++ n ∷ []) k 0 < n + 1) × (get_or (ys ++ n ∷ []) (get_or (xs ++ n ∷ []) k 0) 0 ≡ k)
    at_one xs ys old wide_x wide_y k below =
        elim (eqb_tells k n) [
          | inl same ↦
              let e = same.1 in
              let first : get_or (xs ++ n ∷ []) k 0 ≡ n = get_or_push xs n 0 k (wide_x ∙ sym e) in
              let second : get_or (ys ++ n ∷ []) n 0 ≡ n = get_or_push ys n 0 n wide_y in
              (omega arith, ap (λ m. get_or (ys ++ n ∷ []) m 0) first ∙ second ∙ sym e)
          | inr other ↦
              let o = other.1 in
              let small : k < n = grind (arith) in
              let r = old k small in
              let first : get_or (xs ++ n ∷ []) k 0 ≡ get_or xs k 0 = get_or_append_left xs (n ∷ []) 0 k (omega arith) in
              let in_range = r.0 in (
                omega arith,
                ap (λ m. get_or (ys ++ n ∷ []) m 0) first ∙ get_or_append_left ys (n ∷ []) 0 (get_or xs k 0) (omega arith) ∙ r.1,
              )
        ]

grown : (len : ℕ) (vars places activity : List ℕ) → IsHeap len vars places activity → length activity < 2 ^ 31
    → IsHeap len (vars ++ length activity ∷ []) (places ++ length activity ∷ []) (activity ++ 0 ∷ [])
grown len vars places activity h room =
    let n : ℕ = length activity in
    let wide = length_push activity 0 in
    let at = h.inverse.vars_len in
    let within = h.within in
    let same : (k : ℕ) → k < len → key (activity ++ 0 ∷ []) (vars ++ n ∷ []) k ≡ key activity vars k =
    λ k below.
    let r = (h.inverse.at_place k (omega arith)).0 in
    ap (λ v. get_or (activity ++ 0 ∷ []) v 0) (get_or_append_left vars (n ∷ []) 0 k (omega arith))
    ∙ get_or_append_left activity (0 ∷ []) 0 (get_or vars k 0) r in
    record {
      inverse = subst (λ m. IsInverse m (vars ++ n ∷ []) (places ++ n ∷ [])) (sym wide) (grown_inverse n vars places h.inverse);
      within = omega arith;
      small = omega arith;
      ordered = λ k some below.
          let a = same k below in
          let b = same (above k) (omega arith) in
          let o = h.ordered k some below in
          omega arith;
    }

pub outside_kept : (len v : ℕ) (vars places activity vars' places' activity' : List ℕ) → IsHeap len vars places activity
    → v ≡ length activity → v < 2 ^ 31 → vars' ≡ vars ++ v ∷ [] → places' ≡ places ++ v ∷ [] → activity' ≡ activity ++ 0 ∷ []
    → IsHeap len vars' places' activity'
outside_kept len v vars places activity vars' places' activity' h e room at_vars at_places at_activity =
    let P : List ℕ → Type 0 = λ xs. IsHeap len xs places' activity' in
    let Q : List ℕ → Type 0 = λ xs. IsHeap len (vars ++ length activity ∷ []) xs activity' in
    let R : List ℕ → Type 0 = IsHeap len (vars ++ length activity ∷ []) (places ++ length activity ∷ []) in
    subst P (sym (at_vars ∙ ap (λ n. vars ++ n ∷ []) e))
    (subst Q (sym (at_places ∙ ap (λ n. places ++ n ∷ []) e))
    (subst R (sym at_activity) (grown len vars places activity h (omega arith))))

-- ---- activities

pub halved : (len : ℕ) (vars places activity : List ℕ) → IsHeap len vars places activity
    → IsHeap len vars places (map (λ a. a / 2) activity)
halved len vars places activity h =
    let f : ℕ → ℕ = λ a. a / 2 in
    let wide = length-map activity f in
    let within = h.within in
    let small = h.small in
    let same : (k : ℕ) → k < len → key (map f activity) vars k ≡ f (key activity vars k) =
    λ k below. get_or-map f activity (get_or vars k 0) 0 0 ((h.inverse.at_place k (omega arith)).0) in
    record {
      inverse = subst (λ m. IsInverse m vars places) (sym wide) h.inverse;
      within = omega arith;
      small = omega arith;
      ordered = λ k some below.
          let a = same k below in
          let b = same (above k) (omega arith) in
          let o = h.ordered k some below in
          omega arith;
    }

-- the activity of one variable rose: its place may be too low
module _ (len : ℕ) (vars places activity : List ℕ) (v more : ℕ) (h : IsHeap len vars places activity) (var : v < length activity)
    (least : get_or activity v 0 ≤ more) where
  pub raised_inverse : IsInverse (length (set activity v more)) vars places
  raised_inverse = subst (λ m. IsInverse m vars places) (sym (length-set activity v more)) h.inverse

  elsewhere : (k : ℕ) → k < length activity → k ≢ get_or places v 0 → key (set activity v more) vars k ≡ key activity vars k
  elsewhere k below off =
      get_or-set_other activity v (get_or vars k 0) more 0
      (λ e. off (sym ((h.inverse.at_place k below).1) ∙ ap (λ u. get_or places u 0) e))

  pub raised_rises : IsRising len (key (set activity v more) vars) (get_or places v 0)
  raised_rises =
      let within = h.within in
      let here : key (set activity v more) vars (get_or places v 0) ≡ more =
      ap (λ u. get_or (set activity v more) u 0) ((h.inverse.of_var v var).1) ∙ get_or-set_same activity v more 0 var in
      let was : key activity vars (get_or places v 0) ≡ get_or activity v 0 =
      ap (λ u. get_or activity u 0) ((h.inverse.of_var v var).1) in
      one_rises len (key activity vars) (key (set activity v more) vars) (get_or places v 0) h.ordered
      (λ k below off. elsewhere k (omega arith) off) (omega arith)

  pub raised_ordered : len ≤ get_or places v 0 → IsHeap len vars places (set activity v more)
  raised_ordered out =
      let wide = length-set activity v more in
      let within = h.within in
      let small = h.small in
      record {
        inverse = raised_inverse;
        within = omega arith;
        small = omega arith;
        ordered = λ k some below.
            let low : above k < k = omega arith in
            let a = elsewhere k (omega arith) (λ e. omega arith) in
            let b = elsewhere (above k) (omega arith) (λ e. omega arith) in
            let o = h.ordered k some below in
            omega arith;
      }

-- ---- the first variable

pub greatest_is_first : (len : ℕ) (vars places activity : List ℕ) → IsHeap len vars places activity
    → (u : ℕ) → bit (inside_of len places) u ≡ true → get_or activity u 0 ≤ get_or activity (get_or vars 0 0) 0
greatest_is_first len vars places activity h u inside =
    let n = h.inverse.places_len in
    let below : u < length activity = inside_below len places u (length activity) n inside in
    let e = inside_at len places u (omega arith) in
    let low : get_or places u 0 < len = true_lt (get_or places u 0) len (sym e ∙ inside) in
    let most = top len (key activity vars) h.ordered (get_or places u 0) low in
    let same : key activity vars (get_or places u 0) ≡ get_or activity u 0 =
    ap (λ v. get_or activity v 0) ((h.inverse.of_var u below).1) in
    omega arith
  where
    bit_within : (row : List Bool) (l : ℕ) → bit row l ≡ true → l < length row
    bit_within [] l e = cc
    bit_within (b ∷ bs) zero e = omega arith
    bit_within (b ∷ bs) (suc l) e = let r = bit_within bs l e in omega arith

    inside_below : (len : ℕ) (places : List ℕ) (u n : ℕ) → length places ≡ n → bit (inside_of len places) u ≡ true → u < n
    inside_below len places u n width e =
        let r = bit_within (inside_of len places) u e in
        let w = length-map places (λ p. nat_lt p len) in
        omega arith

-- once its place has the variable of the last, and the last is let go, all but the first place stand right
pub left_sinks : (len last : ℕ) (activity vars vars' : List ℕ) → last + 1 ≡ len → IsOrdered len (key activity vars)
    → IsExchanged vars vars' 0 last → IsSinking last (key activity vars') 0
left_sinks len last activity vars vars' e h x =
    first_sinks last (key activity vars) (key activity vars') (λ k some below. h k some (omega arith))
    (λ k some below. ap (λ v. get_or activity v 0) (x.others k (λ z. omega arith) (λ z. omega arith)))

-- the first free place takes a variable: only that place may be too low
pub entered_rises : (len p : ℕ) (activity vars vars' : List ℕ) → len ≤ p → IsOrdered len (key activity vars)
    → IsExchanged vars vars' p len → IsRising (len + 1) (key activity vars') len
entered_rises len p activity vars vars' out h x = record {
  others = λ k some below off.
      let small : k < len = grind (arith) in
      let low : above k < k = omega arith in
      let a = ap (λ v. get_or activity v 0) (x.others k (λ z. omega arith) off) in
      let b = ap (λ v. get_or activity v 0) (x.others (above k) (λ z. omega arith) (λ z. omega arith)) in
      let o = h k some small in
      omega arith;
  below = λ k some below under positive. let low : above k < k = omega arith in absurd (omega arith);
}

-- ---- bits

pub set_last : (xs : List Bool) (n : ℕ) (b c : Bool) → length xs ≡ n → set (xs ++ b ∷ []) n c ≡ xs ++ c ∷ []
set_last [] zero b c e = refl
set_last [] (suc n) b c e = absurd (omega (arith, e))
set_last (x ∷ xs) zero b c e = absurd (omega (arith, e))
set_last (x ∷ xs) (suc n) b c e = ap (λ ys. x ∷ ys) (set_last xs n b c (omega (arith, e)))

pub none_inside : (places : List ℕ) (v : ℕ) → bit (inside_of 0 places) v ≡ false
none_inside [] v = refl
none_inside (p ∷ ps) zero = grind (arith, nat_tests)
none_inside (p ∷ ps) (suc v) = none_inside ps v
