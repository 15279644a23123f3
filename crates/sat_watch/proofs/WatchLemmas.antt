-- Lists of slots, and what watches clauses, as one list or one pair changes.
use Rattle.std.proofs.Common.{◌≡◌, ◌≢◌, ℕ, ◌+◌, ◌<◌, ◌≤◌, List, [], ◌∷◌, ◌++◌, length, get_or, set, take, drop, Some, slice_get, inl, inr, refl, sym, subst, ◌∙◌, ap, arith}
use Rattle.std.specs.List.{Contains}
use Rattle.std.proofs.lemmas.Bool.{cases_lt}
use Rattle.std.proofs.lemmas.Bool.Decides.{eqb_tells}
use Rattle.std.proofs.lemmas.List.{length-set, length_push, get_or-set_same, get_or-set_other, get_or-take, length-take}
use Rattle.std.proofs.lemmas.List.Elements.{Contains-push, Contains-append_left}
use Rattle.std.proofs.lemmas.Option.{get_or_from_slice_get, slice_get-get_or, slice_get_within}
use Rattle.sat_plain.proofs.Members.{dropped_at}
use Rattle.sat_plain.proofs.PlaceLemmas.{slice_get_left}
use Rattle.sat_watch.proofs.StillLemmas.{dropped_has}
use Rattle.sat_watch.specs.declared.pair.Pair.{Pair}
use Rattle.sat_watch.specs.Watching.{Watching, slots_at, IsKeptBut, IsPassed}

-- ---- one list

-- the last one takes the place of one that goes
pub taken_off : (xs : List ℕ) (n at last : ℕ) → at < n + 1 → n + 1 ≤ length xs → slice_get xs n ≡ Some last → (slot from k : ℕ)
    → slice_get (take (n + 1) xs) at ≡ Some slot → from ≤ at → k ≢ slot → Contains (drop from (take (n + 1) xs)) k
    → Contains (drop from (take n (set xs at last))) k
taken_off xs n at last low within is slot from k there least off has =
    let r = dropped_at (take (n + 1) xs) from k has in
    let p : ℕ = r.0 in
    let whole : length (take (n + 1) xs) ≡ n + 1 = omega (arith, length-take (n + 1) xs, within) in
    let small : p < n + 1 = omega (arith, r.2, whole) in
    let here : get_or xs p k ≡ k = sym (get_or-take (n + 1) xs p k small) ∙ r.3 in
    let wide : length (set xs at last) ≡ length xs = length-set xs at last in
    let cut : length (take n (set xs at last)) ≡ n = omega (arith, length-take n (set xs at last), wide, within) in
    let apart : p ≢ at = λ same.
    let at_is : get_or (take (n + 1) xs) at k ≡ slot = get_or_from_slice_get (take (n + 1) xs) at slot k there in
    off (sym r.3 ∙ ap (λ q. get_or (take (n + 1) xs) q k) same ∙ at_is) in
    elim (cases_lt p n) [
      | inl less ↦
          dropped_has (take n (set xs at last)) from p k r.1 (omega (arith, less, cut))
          (get_or-take n (set xs at last) p k less ∙ get_or-set_other xs at p last k apart ∙ here)
      | inr end ↦
          let p_is : p ≡ n = omega (arith, end, small) in
          let last_is : last ≡ k =
          sym (get_or_from_slice_get xs n last k is) ∙ ap (λ q. get_or xs q k) (sym p_is) ∙ here in
          let at_low : at < n = let a : at ≢ n = λ e. apart (p_is ∙ sym e) in grind (arith, a, low) in
          dropped_has (take n (set xs at last)) from at k least (omega (arith, at_low, cut))
          (get_or-take n (set xs at last) at k at_low ∙ get_or-set_same xs at last k (omega (arith, low, within)) ∙ last_is)
    ]

-- ---- one list of many

-- a list that keeps what it has, but maybe one slot, takes the place of another
pub lists_but : (lists : List (List ℕ)) (j slot : ℕ) (news : List ℕ) → j < length lists
    → ((k : ℕ) → k ≢ slot → Contains (get_or lists j []) k → Contains news k) → (m k : ℕ) → k ≢ slot
    → Contains (get_or lists m []) k → Contains (get_or (set lists j news) m []) k
lists_but lists j slot news less kept m k off has =
    let P : List ℕ → Type 0 = λ v. Contains v k in
    elim (eqb_tells m j) [
      | inl same ↦
          let Q : ℕ → Type 0 = λ n. Contains (get_or (set lists j news) n []) k in
          let R : ℕ → Type 0 = λ n. Contains (get_or lists n []) k in
          subst Q (sym same.1) (subst P (sym (get_or-set_same lists j news [] less)) (kept k off (subst R same.1 has)))
      | inr other ↦ subst P (sym (get_or-set_other lists j m news [] other.1)) has
    ]

pub list_other : (lists : List (List ℕ)) (j : ℕ) (news : List ℕ) (m k : ℕ) → m ≢ j → Contains (get_or lists m []) k
    → Contains (get_or (set lists j news) m []) k
list_other lists j news m k off has =
    let P : List ℕ → Type 0 = λ v. Contains v k in subst P (sym (get_or-set_other lists j m news [] off)) has

-- a slot comes into one list
pub pushed_keeps : (lists : List (List ℕ)) (lit slot m k : ℕ) → lit < length lists → Contains (get_or lists m []) k
    → Contains (get_or (set lists lit (get_or lists lit [] ++ slot ∷ [])) m []) k
pushed_keeps lists lit slot m k less has =
    let P : List ℕ → Type 0 = λ v. Contains v k in
    elim (eqb_tells m lit) [
      | inl same ↦
          let Q : ℕ → Type 0 = λ n. Contains (get_or (set lists lit (get_or lists lit [] ++ slot ∷ [])) n []) k in
          let R : ℕ → Type 0 = λ n. Contains (get_or lists n []) k in
          subst Q (sym same.1) (subst P (sym (get_or-set_same lists lit (get_or lists lit [] ++ slot ∷ []) [] less))
          (Contains-append_left (get_or lists lit []) (slot ∷ []) k (subst R same.1 has)))
      | inr other ↦ subst P (sym (get_or-set_other lists lit m (get_or lists lit [] ++ slot ∷ []) [] other.1)) has
    ]

pub pushed_has : (lists : List (List ℕ)) (lit slot : ℕ) → lit < length lists
    → Contains (get_or (set lists lit (get_or lists lit [] ++ slot ∷ [])) lit []) slot
pushed_has lists lit slot less =
    let P : List ℕ → Type 0 = λ v. Contains v slot in
    subst P (sym (get_or-set_same lists lit (get_or lists lit [] ++ slot ∷ []) [] less))
    (Contains-push (get_or lists lit []) slot)

-- a list takes the place of another that has the slot, and has it too
pub list_keeps : (lists : List (List ℕ)) (j : ℕ) (news : List ℕ) (m k : ℕ) → j < length lists
    → (Contains (get_or lists j []) k → Contains news k) → Contains (get_or lists m []) k
    → Contains (get_or (set lists j news) m []) k
list_keeps lists j news m k less kept has =
    let P : List ℕ → Type 0 = λ v. Contains v k in
    elim (eqb_tells m j) [
      | inl same ↦
          let Q : ℕ → Type 0 = λ n. Contains (get_or (set lists j news) n []) k in
          let R : ℕ → Type 0 = λ n. Contains (get_or lists n []) k in
          subst Q (sym same.1) (subst P (sym (get_or-set_same lists j news [] less)) (kept (subst R same.1 has)))
      | inr other ↦ list_other lists j news m k other.1 has
    ]

-- ---- pairs

pub pair_other : (pairs : List Pair) (slot k : ℕ) (new pair : Pair) → k ≢ slot → slice_get pairs k ≡ Some pair
    → slice_get (set pairs slot new) k ≡ Some pair
pair_other pairs slot k new pair off e =
    let less = slice_get_within pairs k pair e in
    let wide = length-set pairs slot new in
    slice_get-get_or (set pairs slot new) k pair (omega (arith, less, wide))
    ∙ ap Some (get_or-set_other pairs slot k new pair off ∙ get_or_from_slice_get pairs k pair pair e)

pub pair_same : (pairs : List Pair) (slot : ℕ) (new : Pair) → slot < length pairs
    → slice_get (set pairs slot new) slot ≡ Some new
pair_same pairs slot new less =
    let wide = length-set pairs slot new in
    slice_get-get_or (set pairs slot new) slot new (omega (arith, less, wide))
    ∙ ap Some (get_or-set_same pairs slot new new less)

-- ---- what watches

pub but_chain : (slot : ℕ) (a b c : Watching) → IsKeptBut slot a b → IsKeptBut slot b c → IsKeptBut slot a c
but_chain slot a b c f g = record {
  width = g.width ∙ f.width;
  long = omega (arith, f.long, g.long);
  lists = λ m k off has. g.lists m k off (f.lists m k off has);
  pairs = λ k pair off e. g.pairs k pair off (f.pairs k pair off e);
}

pub but_none : (slot : ℕ) (w : Watching) → IsKeptBut slot w w
but_none slot w =
    record { width = refl; long = omega arith; lists = λ m k off has. has; pairs = λ k pair off e. e }

pub but_list : (w : Watching) (j slot : ℕ) (news : List ℕ) → j < length w.lists
    → ((k : ℕ) → k ≢ slot → Contains (slots_at w j) k → Contains news k)
    → IsKeptBut slot w (record { lists = set w.lists j news; pairs = w.pairs })
but_list w j slot news less kept = record {
  width = length-set w.lists j news;
  long = omega arith;
  lists = lists_but w.lists j slot news less kept;
  pairs = λ k pair off e. e;
}

pub but_pair : (w : Watching) (slot : ℕ) (new : Pair) → IsKeptBut slot w (record { lists = w.lists; pairs = set w.pairs slot new })
but_pair w slot new = record {
  width = refl;
  long = omega (arith, length-set w.pairs slot new);
  lists = λ m k off has. has;
  pairs = λ k pair off e. pair_other w.pairs slot k new pair off e;
}

pub but_longer : (w : Watching) (slot : ℕ) (new : Pair) → IsKeptBut slot w (record { lists = w.lists; pairs = w.pairs ++ new ∷ [] })
but_longer w slot new = record {
  width = refl;
  long = omega (arith, length_push w.pairs new);
  lists = λ m k off has. has;
  pairs = λ k pair off e. slice_get_left w.pairs (new ∷ []) k pair e;
}

-- what is known once a slot came into a list, or did not
pub record IsListedIn (w : Watching) (slot j : ℕ) (new : Watching) : Type 0 where
  pub but : IsKeptBut slot w new
  pub stays : (m : ℕ) → Contains (slots_at w m) slot → Contains (slots_at new m) slot

pub listed_in : (w : Watching) (slot j : ℕ) (before after : List ℕ) → j < length w.lists → before ≡ slots_at w j
    → after ≡ before ++ slot ∷ [] → IsListedIn w slot j (record { lists = set w.lists j after; pairs = w.pairs })
listed_in w slot j before after less is more =
    let kept : (k : ℕ) → Contains (slots_at w j) k → Contains after k =
    λ k has.
    let P : List ℕ → Type 0 = λ v. Contains v k in
    subst P (sym more) (Contains-append_left before (slot ∷ []) k (subst P (sym is) has)) in
    record {
      but = but_list w j slot after less (λ k off has. kept k has);
      stays = λ m has. list_keeps w.lists j after m slot less (kept slot) has;
    }

pub listed_has : (w : Watching) (slot j : ℕ) (before after : List ℕ) → j < length w.lists → after ≡ before ++ slot ∷ []
    → Contains (get_or (set w.lists j after) j []) slot
listed_has w slot j before after less more =
    let P : List ℕ → Type 0 = λ v. Contains v slot in
    subst P (sym (get_or-set_same w.lists j after [] less)) (subst P (sym more) (Contains-push before slot))

pub not_listed : (w : Watching) (slot j : ℕ) (before after : List ℕ) → j < length w.lists → before ≡ slots_at w j
    → after ≡ before → IsListedIn w slot j (record { lists = set w.lists j after; pairs = w.pairs })
not_listed w slot j before after less is same =
    let kept : (k : ℕ) → Contains (slots_at w j) k → Contains after k =
    λ k has. let P : List ℕ → Type 0 = λ v. Contains v k in subst P (sym same) (subst P (sym is) has) in
    record {
      but = but_list w j slot after less (λ k off has. kept k has);
      stays = λ m has. list_keeps w.lists j after m slot less (kept slot) has;
    }

-- a clause passes from the list of l to that of another literal
pub passed : (w : Watching) (l at slot other to : ℕ) (news : List ℕ) → l < length w.lists → to < length w.lists → to ≢ l
    → slice_get (slots_at w l) at ≡ Some slot → slot < length w.pairs → length news + 1 ≡ length (slots_at w l)
    → ((s from k : ℕ) → slice_get (slots_at w l) at ≡ Some s → from ≤ at → k ≢ s → Contains (drop from (slots_at w l)) k
    → Contains (drop from news) k)
    → IsPassed w l at slot other to (record {
      lists = set (set w.lists to (slots_at w to ++ slot ∷ [])) l news;
      pairs = set w.pairs slot (record { one = other; two = to });
    })
passed w l at slot other to news low within apart is paired fewer others =
    let mid : List (List ℕ) = set w.lists to (slots_at w to ++ slot ∷ []) in
    let all : List (List ℕ) = set mid l news in
    let wide : length mid ≡ length w.lists = length-set w.lists to (slots_at w to ++ slot ∷ []) in
    let less : l < length mid = omega (arith, low, wide) in
    let new : Pair = record { one = other; two = to } in
    let off : l ≢ to = λ e. apart (sym e) in
    let same : get_or mid l [] ≡ slots_at w l = get_or-set_other w.lists to l (slots_at w to ++ slot ∷ []) [] off in
    let final : get_or all l [] ≡ news = get_or-set_same mid l news [] less in
    record {
      but = record {
        width = length-set mid l news ∙ wide;
        long = omega (arith, length-set w.pairs slot new);
        lists = λ m k apart_k has.
            lists_but mid l slot news less
            (λ j off_j there.
            let P : List ℕ → Type 0 = λ v. Contains v j in others slot 0 j is (omega arith) off_j (subst P same there)) m k apart_k
            (pushed_keeps w.lists to slot m k within has);
        pairs = λ k pair apart_k e. pair_other w.pairs slot k new pair apart_k e;
      };
      pair = pair_same w.pairs slot new paired;
      stays = λ m off_m has. list_other mid l news m slot off_m (pushed_keeps w.lists to slot m slot within has);
      has = list_other mid l news to slot apart (pushed_has w.lists to slot within);
      rest = λ k off_k has.
          let P : List ℕ → Type 0 = λ v. Contains (drop at v) k in
          subst P (sym final) (others slot at k is (omega arith) off_k has);
      fewer = omega (arith, ap length final, fewer);
    }
