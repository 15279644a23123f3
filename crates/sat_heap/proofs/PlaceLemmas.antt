-- Variables and their places as two places change their variables.
use Rattle.std.proofs.Common.{◌≡◌, ◌≢◌, ℕ, ◌+◌, ◌<◌, ◌≤◌, Bool, true, false, nat_lt, List, length, get_or, set, inl, inr, refl, sym, ap, ◌∙◌, arith}
use Rattle.std.proofs.lemmas.Bool.Decides.{eqb_tells, nat_tests}
use Rattle.std.proofs.lemmas.List.{get_or-set_same, get_or-set_other, length-set, length-map, get_or-map, ext_get_or}
use Rattle.sat_heap.specs.Orders.{IsInverse, IsExchanged, inside_of}

pub is_exchanged : (xs : List ℕ) (i j : ℕ) → i < length xs → j < length xs
    → IsExchanged xs (set (set xs i (get_or xs j 0)) j (get_or xs i 0)) i j
is_exchanged xs i j within_i within_j =
    let mid : List ℕ = set xs i (get_or xs j 0) in
    let width : length mid ≡ length xs = length-set xs i (get_or xs j 0) in
    record {
      first =
          elim (eqb_tells i j) [
            | inl same ↦
                ap (λ k. get_or (set mid j (get_or xs i 0)) k 0) same.1 ∙ get_or-set_same mid j (get_or xs i 0) 0 (omega arith)
                ∙ ap (λ k. get_or xs k 0) same.1
            | inr other ↦
                get_or-set_other mid j i (get_or xs i 0) 0 other.1 ∙ get_or-set_same xs i (get_or xs j 0) 0 within_i
          ];
      second = get_or-set_same mid j (get_or xs i 0) 0 (omega arith);
      others = λ k at_i at_j. get_or-set_other mid j k (get_or xs i 0) 0 at_j ∙ get_or-set_other xs i k (get_or xs j 0) 0 at_i;
    }

module _ (n : ℕ) (vars places vars' places' : List ℕ) (i j : ℕ) (h : IsInverse n vars places) (within_i : i < n)
    (within_j : j < n)
    (x : IsExchanged vars vars' i j) (y : IsExchanged places places' (get_or vars i 0) (get_or vars j 0)) where
  vars_apart : (k m : ℕ) → k < n → m < n → k ≢ m → get_or vars k 0 ≢ get_or vars m 0
  vars_apart k m below_k below_m off e =
      off (sym ((h.at_place k below_k).1) ∙ ap (λ v. get_or places v 0) e ∙ (h.at_place m below_m).1)

  place_kept : (k : ℕ) → k < n → (get_or vars' k 0 < n) × (get_or places' (get_or vars' k 0) 0 ≡ k)
  place_kept k below =
      elim (eqb_tells k i) [
        | inl same ↦
            let var : get_or vars' k 0 ≡ get_or vars j 0 = ap (λ m. get_or vars' m 0) same.1 ∙ x.first in
            let b = (h.at_place j within_j).0 in (
              omega arith,
              ap (λ v. get_or places' v 0) var ∙ y.second ∙ (h.at_place i within_i).1 ∙ sym same.1,
            )
        | inr other ↦
            elim (eqb_tells k j) [
              | inl at_j ↦
                  let var : get_or vars' k 0 ≡ get_or vars i 0 = ap (λ m. get_or vars' m 0) at_j.1 ∙ x.second in
                  let b = (h.at_place i within_i).0 in (
                    omega arith,
                    ap (λ v. get_or places' v 0) var ∙ y.first ∙ (h.at_place j within_j).1 ∙ sym at_j.1,
                  )
              | inr off ↦
                  let var : get_or vars' k 0 ≡ get_or vars k 0 = x.others k other.1 off.1 in
                  let b = (h.at_place k below).0 in (
                    omega arith,
                    ap (λ v. get_or places' v 0) var
                        ∙ y.others (get_or vars k 0) (vars_apart k i below within_i other.1) (vars_apart k j below within_j off.1)
                        ∙ (h.at_place k below).1,
                  )
            ]
      ]

  var_kept : (v : ℕ) → v < n → (get_or places' v 0 < n) × (get_or vars' (get_or places' v 0) 0 ≡ v)
  var_kept v below =
      elim (eqb_tells v (get_or vars i 0)) [
        | inl same ↦
            let place : get_or places' v 0 ≡ j = ap (λ u. get_or places' u 0) same.1 ∙ y.first ∙ (h.at_place j within_j).1 in
            (omega arith, ap (λ k. get_or vars' k 0) place ∙ x.second ∙ sym same.1)
        | inr other ↦
            elim (eqb_tells v (get_or vars j 0)) [
              | inl at_j ↦
                  let place : get_or places' v 0 ≡ i =
                  ap (λ u. get_or places' u 0) at_j.1 ∙ y.second ∙ (h.at_place i within_i).1 in
                  (omega arith, ap (λ k. get_or vars' k 0) place ∙ x.first ∙ sym at_j.1)
              | inr off ↦
                  let place : get_or places' v 0 ≡ get_or places v 0 = y.others v other.1 off.1 in
                  let back : get_or vars (get_or places v 0) 0 ≡ v = (h.of_var v below).1 in
                  let b = (h.of_var v below).0 in
                  let not_i : get_or places v 0 ≢ i = λ e. other.1 (sym back ∙ ap (λ k. get_or vars k 0) e) in
                  let not_j : get_or places v 0 ≢ j = λ e. off.1 (sym back ∙ ap (λ k. get_or vars k 0) e) in
                  (omega arith, ap (λ k. get_or vars' k 0) place ∙ x.others (get_or places v 0) not_i not_j ∙ back)
            ]
      ]

  pub inverse_kept : length vars' ≡ n → length places' ≡ n → IsInverse n vars' places'
  inverse_kept vars_len places_len = record {
    vars_len = vars_len;
    places_len = places_len;
    at_place = place_kept;
    of_var = var_kept;
  }

-- ---- which variables are inside

lt_true : (a b : ℕ) → a < b → nat_lt a b ≡ true
lt_true a b less = grind (arith, nat_tests)

lt_false : (a b : ℕ) → b ≤ a → nat_lt a b ≡ false
lt_false a b least = grind (arith, nat_tests)

pub true_lt : (a b : ℕ) → nat_lt a b ≡ true → a < b
true_lt a b e = grind (arith, nat_tests)

pub false_le : (a b : ℕ) → nat_lt a b ≡ false → b ≤ a
false_le a b e = grind (arith, nat_tests)

same_lt : (a b c d : ℕ) → ((a < b) → c < d) → ((c < d) → a < b) → nat_lt a b ≡ nat_lt c d
same_lt a b c d there back = by (nat_lt a b) (nat_lt c d) refl refl
  where
    by : (s t : Bool) → nat_lt a b ≡ s → nat_lt c d ≡ t → nat_lt a b ≡ nat_lt c d
    by true t e f = e ∙ sym (lt_true c d (there (true_lt a b e)))
    by false true e f = lt_true a b (back (true_lt c d f)) ∙ sym f
    by false false e f = e ∙ sym f

pub inside_at : (len : ℕ) (places : List ℕ) (v : ℕ) → v < length places
    → get_or (inside_of len places) v false ≡ nat_lt (get_or places v 0) len
inside_at len places v within = get_or-map (λ p. nat_lt p len) places v 0 false within

-- the bits stay, but for that of one variable
bits_set : (len len' : ℕ) (xs ys : List ℕ) (v : ℕ) (b : Bool) → length ys ≡ length xs → v < length xs
    → nat_lt (get_or ys v 0) len' ≡ b
    → ((k : ℕ) → k < length xs → k ≢ v → nat_lt (get_or ys k 0) len' ≡ nat_lt (get_or xs k 0) len)
    → inside_of len' ys ≡ set (inside_of len xs) v b
bits_set len len' xs ys v b width within at_v others =
    let left : length (inside_of len' ys) ≡ length ys = length-map ys (λ p. nat_lt p len') in
    let old : length (inside_of len xs) ≡ length xs = length-map xs (λ p. nat_lt p len) in
    let right : length (set (inside_of len xs) v b) ≡ length (inside_of len xs) = length-set (inside_of len xs) v b in
    ext_get_or false (inside_of len' ys) (set (inside_of len xs) v b) (omega arith)
    (λ k below.
    inside_at len' ys k (omega arith)
    ∙ elim (eqb_tells k v) [
      | inl same ↦
          ap (λ m. nat_lt (get_or ys m 0) len') same.1 ∙ at_v ∙ sym (get_or-set_same (inside_of len xs) v b false (omega arith))
          ∙ ap (λ m. get_or (set (inside_of len xs) v b) m false) (sym same.1)
      | inr other ↦
          others k (omega arith) other.1 ∙ sym (inside_at len xs k (omega arith))
          ∙ sym (get_or-set_other (inside_of len xs) v k b false other.1)
    ])

module _ (n len : ℕ) (vars places places' : List ℕ) (i j : ℕ) (h : IsInverse n vars places) (within_i : i < n) (within_j : j < n)
    (width : length places' ≡ n) (y : IsExchanged places places' (get_or vars i 0) (get_or vars j 0)) where
  place_i : get_or places (get_or vars i 0) 0 ≡ i
  place_i = (h.at_place i within_i).1

  place_j : get_or places (get_or vars j 0) 0 ≡ j
  place_j = (h.at_place j within_j).1

  var_at : (k v : ℕ) → v < n → get_or places v 0 ≡ k → v ≡ get_or vars k 0
  var_at k v below e = sym ((h.of_var v below).1) ∙ ap (λ m. get_or vars m 0) e

  same_len : length places' ≡ length places
  same_len = width ∙ sym h.places_len

  -- two places of the heap change their variables
  pub inside_same : i < len → j < len → inside_of len places' ≡ inside_of len places
  inside_same low_i low_j =
      let wide = same_len in
      let left : length (inside_of len places') ≡ length places' = length-map places' (λ p. nat_lt p len) in
      let right : length (inside_of len places) ≡ length places = length-map places (λ p. nat_lt p len) in
      let pi = place_i in
      let pj = place_j in
      ext_get_or false (inside_of len places') (inside_of len places) (omega arith)
      (λ k below.
      inside_at len places' k (omega arith)
      ∙ elim (eqb_tells k (get_or vars i 0)) [
        | inl same ↦
            let now : get_or places' k 0 ≡ j = ap (λ m. get_or places' m 0) same.1 ∙ y.first ∙ pj in
            let was : get_or places k 0 ≡ i = ap (λ m. get_or places m 0) same.1 ∙ pi in
            same_lt (get_or places' k 0) len (get_or places k 0) len (λ l. omega arith) (λ l. omega arith)
        | inr other ↦
            elim (eqb_tells k (get_or vars j 0)) [
              | inl at_j ↦
                  let now : get_or places' k 0 ≡ i = ap (λ m. get_or places' m 0) at_j.1 ∙ y.second ∙ pi in
                  let was : get_or places k 0 ≡ j = ap (λ m. get_or places m 0) at_j.1 ∙ pj in
                  same_lt (get_or places' k 0) len (get_or places k 0) len (λ l. omega arith) (λ l. omega arith)
              | inr off ↦ ap (λ p. nat_lt p len) (y.others k other.1 off.1)
            ]
      ]
      ∙ sym (inside_at len places k (omega arith)))

  -- the variable of a place above the heap takes its first free place
  pub entered : j ≡ len → len ≤ i → inside_of (len + 1) places' ≡ set (inside_of len places) (get_or vars i 0) true
  entered at_len out =
      let wide = h.places_len in
      let pi = place_i in
      let pj = place_j in
      let var = (h.at_place i within_i).0 in
      let now : get_or places' (get_or vars i 0) 0 ≡ j = y.first ∙ pj in
      bits_set len (len + 1) places places' (get_or vars i 0) true same_len (omega arith)
      (lt_true (get_or places' (get_or vars i 0) 0) (len + 1) (omega arith))
      (λ k below other.
      let small : k < n = omega arith in
      elim (eqb_tells k (get_or vars j 0)) [
        | inl at_j ↦
            let moved : get_or places' k 0 ≡ i = ap (λ m. get_or places' m 0) at_j.1 ∙ y.second ∙ pi in
            let was : get_or places k 0 ≡ j = ap (λ m. get_or places m 0) at_j.1 ∙ pj in
            let differs : i ≢ j = λ e. other (at_j.1 ∙ ap (λ m. get_or vars m 0) (sym e)) in
            same_lt (get_or places' k 0) (len + 1) (get_or places k 0) len
            (λ l. absurd (differs (omega arith))) (λ l. omega arith)
        | inr off ↦
            let kept : get_or places' k 0 ≡ get_or places k 0 = y.others k other off.1 in
            let differs : get_or places k 0 ≢ j = λ e. off.1 (var_at j k small e) in
            same_lt (get_or places' k 0) (len + 1) (get_or places k 0) len
            (λ l. grind (arith)) (λ l. omega arith)
      ])

  -- the variable of the first place goes to the last
  pub left : i ≡ 0 → j + 1 ≡ len → inside_of j places' ≡ set (inside_of len places) (get_or vars i 0) false
  left at_first last =
      let wide = h.places_len in
      let pi = place_i in
      let pj = place_j in
      let var = (h.at_place i within_i).0 in
      let now : get_or places' (get_or vars i 0) 0 ≡ j = y.first ∙ pj in
      bits_set len j places places' (get_or vars i 0) false same_len (omega arith)
      (lt_false (get_or places' (get_or vars i 0) 0) j (omega arith))
      (λ k below other.
      let small : k < n = omega arith in
      elim (eqb_tells k (get_or vars j 0)) [
        | inl at_j ↦
            let moved : get_or places' k 0 ≡ i = ap (λ m. get_or places' m 0) at_j.1 ∙ y.second ∙ pi in
            let was : get_or places k 0 ≡ j = ap (λ m. get_or places m 0) at_j.1 ∙ pj in
            let differs : i ≢ j = λ e. other (at_j.1 ∙ ap (λ m. get_or vars m 0) (sym e)) in
            same_lt (get_or places' k 0) j (get_or places k 0) len (λ l. omega arith) (λ l. grind (arith))
        | inr off ↦
            let kept : get_or places' k 0 ≡ get_or places k 0 = y.others k other off.1 in
            let differs : get_or places k 0 ≢ j = λ e. off.1 (var_at j k small e) in
            same_lt (get_or places' k 0) j (get_or places k 0) len (λ l. omega arith) (λ l. grind (arith))
      ])
