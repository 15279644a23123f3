-- How many clauses there are over some variables; what follows for the sum and for the top.
use Rattle.std.proofs.Common.{◌≡◌, ℕ, suc, zero, ◌+◌, ◌*◌, ◌-◌, ◌^◌, ◌<◌, ◌≤◌, ◌&&◌, eqb, Bool, true, false, List, [], ◌∷◌, ◌++◌, length, get_or, map, slice_get, Some, ⊎_elim, refl, sym, ap, ◌∙◌, subst, arith}
use Rattle.std.specs.Prelude.{All}
use Rattle.std.specs.List.{AllByRecursion, IsDistinct, list_any, sum_by}
use Rattle.std.proofs.lemmas.Bool.{or_cases, or_parts, both_ways, cases_order, eqb-true, false_from_ne_true}
use Rattle.std.proofs.lemmas.List.{length-append, length-map, get_or_default}
use Rattle.std.proofs.Math.Nat.{pow-suc}
use Rattle.std.proofs.lemmas.List.Sums.{sum_by-cons}
use Rattle.std.proofs.lemmas.Map.Keys.{IsDistinct-cons}
use Rattle.std.proofs.lemmas.Map.Steps.{length-le_from_distinct_below}
use Rattle.std.proofs.lemmas.Option.{get_or_from_slice_get, slice_get_within, same_Some}
use Rattle.ja_base.specs.Literals.{literal_of}
use Rattle.ja_base.specs.Clauses.{is_part}
use Rattle.ic3_frames.specs.Levels.{Entry, Levels, AreLevels, HasOwn, HasOwnBelow}
use Rattle.ic3_frames.specs.Sums.{IsOver, clauses_over, greatest, potential}
use Rattle.ic3_frames.specs.Apart.{AreApart, are_alike}
use Rattle.ic3_frames.proofs.OverLemmas.{listed, listed_is_one, listed_is_part, part_of_listed}
use Rattle.ic3_frames.proofs.SumLemmas.{part_of_part}
use Rattle.ic3_frames.proofs.BoundLemmas.{greatest_within}

-- ---- three signs for each variable

pub clause_count : (vars : List ℕ) → length (clauses_over vars) ≡ 3 ^ length vars
clause_count [] = refl
clause_count (v ∷ vs) =
    let all = clauses_over vs in
    let pos = map (λ (c : List ℕ). literal_of v false ∷ c) all in
    let neg = map (λ (c : List ℕ). literal_of v true ∷ c) all in
    let first = length-append (all ++ pos) neg in
    let second = length-append all pos in
    let third = length-map all (λ (c : List ℕ). literal_of v false ∷ c) in
    let fourth = length-map all (λ (c : List ℕ). literal_of v true ∷ c) in
    let before = clause_count vs in
    omega (arith, first, second, third, fourth, before, pow-suc 3 (length vs))

-- ---- the sum

sum_within : {X : Type 0} (f : X → ℕ) (top : ℕ) → ((x : X) → f x ≤ top) → (xs : List X) → sum_by f xs ≤ length xs * top
sum_within f top low [] = omega arith
sum_within f top low (x ∷ xs) =
    let h = sum_within f top low xs in
    omega (arith, h, low x, sum_by-cons f x xs, one_more (length xs) top)
  where
    one_more : (n m : ℕ) → suc n * m ≡ m + n * m
    one_more n m = grind arith

pub sum_is_bounded : (vars : List ℕ) (f : Levels) → AreLevels f → potential vars f.kept ≤ 3 ^ length vars * f.top
sum_is_bounded vars f levels =
    subst (λ n. potential vars f.kept ≤ n * f.top) (clause_count vars)
    (sum_within (greatest f.kept) f.top (λ c. greatest_within f.kept f.top c levels) (clauses_over vars))

-- ---- the top

none_alike : (x : ℕ) (xs : List ℕ) → list_any (eqb x) xs ≡ false → AllByRecursion (λ y. eqb x y ≡ false) xs
none_alike x [] e = tt
none_alike x (y ∷ xs) e = let parts = or_parts (eqb x y) (list_any (eqb x) xs) e in (parts.0, none_alike x xs parts.1)

and_both : (a b : Bool) → a ≡ true → b ≡ true → (a && b) ≡ true
and_both true b e f = f
and_both false b e f = e

module _ (vars : List ℕ) (kept : List Entry) (over : All (λ (e : Entry). IsOver vars e.clause) kept) (apart : AreApart kept) where
  -- at this place of the clauses over the variables stand the literals of a clause that has this level
  record HasPlace (level place : ℕ) : Type 0 where
    own : HasOwn kept level
    within : place < length (clauses_over vars)
    is : get_or (clauses_over vars) place [] ≡ listed vars own.entry.clause

  is_over : (at : ℕ) (e : Entry) → slice_get kept at ≡ Some e → IsOver vars e.clause
  is_over at e is =
      subst (λ (x : Entry). IsOver vars x.clause) (get_or_from_slice_get kept at e e is) (over at e (slice_get_within kept at e is))

  alike_at : (i j : ℕ) (a b : Entry) → i < j → slice_get kept i ≡ Some a → slice_get kept j ≡ Some b
      → are_alike a.clause b.clause ≡ true → ⊥
  alike_at i j a b before is_a is_b alike =
      let test = apart i j a before (slice_get_within kept j b is_b) in
      both_ways (are_alike a.clause b.clause)
      (subst (λ (x : Entry). are_alike a.clause x.clause ≡ false) (get_or_from_slice_get kept j b a is_b)
      (subst (λ (x : Entry). are_alike x.clause (get_or kept j a).clause ≡ false) (get_or_from_slice_get kept i a a is_a) test))
      alike

  same_literals : (a b : List ℕ) → IsOver vars a → IsOver vars b → listed vars a ≡ listed vars b → is_part a b ≡ true
  same_literals a b over_a over_b e =
      part_of_part a (listed vars b) b (subst (λ c. is_part a c ≡ true) e (part_of_listed vars a over_a)) (listed_is_part vars b)

  -- two levels have no place in common
  other_place : (l m place : ℕ) → l < m → HasPlace l place → HasPlace m place → ⊥
  other_place l m place lower a b =
      let e = sym a.is ∙ b.is in
      let x = a.own.entry in
      let y = b.own.entry in
      let over_x = is_over a.own.place x a.own.is in
      let over_y = is_over b.own.place y b.own.is in
      let there = same_literals x.clause y.clause over_x over_y e in
      let back = same_literals y.clause x.clause over_y over_x (sym e) in
      ⊎_elim
      (λ same. let one = same_Some x y (sym a.own.is ∙ ap (slice_get kept) same ∙ b.own.is) in
      absurd (let h = sym a.own.level_is ∙ ap (λ (z : Entry). z.level) one ∙ b.own.level_is in omega (arith, h, lower)))
      (⊎_elim
      (λ lt. alike_at a.own.place b.own.place x y lt a.own.is b.own.is (and_both (is_part x.clause y.clause) (is_part y.clause x.clause) there back))
      (λ gt. alike_at b.own.place a.own.place y x gt b.own.is a.own.is (and_both (is_part y.clause x.clause) (is_part x.clause y.clause) back there)))
      (cases_order a.own.place b.own.place)

  -- a place for each of the levels from 1 to n
  record HasPlaces (n : ℕ) : Type 0 where
    places : List ℕ
    long : length places ≡ n
    distinct : IsDistinct eqb places
    each : (q : ℕ) → list_any (eqb q) places ≡ true → (level : ℕ) × (level ≤ n) × HasPlace level q

  place_of : (level : ℕ) → HasOwn kept level → (place : ℕ) × HasPlace level place
  place_of level own =
      let among = listed_is_one vars own.entry.clause in
      (among.0, record { own = own; within = among.1; is = get_or_default (clauses_over vars) among.0 [] (listed vars own.entry.clause) among.1 ∙ among.2 })

  places_of : (n : ℕ) → ((level : ℕ) → 1 ≤ level → level ≤ n → HasOwn kept level) → HasPlaces n
  unfolding IsDistinct
  places_of zero own = record { places = []; long = refl; distinct = tt; each = λ q h. absurd cc }
  places_of (suc n) own =
      with_next (places_of n (λ level low le. own level low (omega (arith, le)))) (place_of (suc n) (own (suc n) (omega arith) (omega arith)))
    where
      with_next : HasPlaces n → (place : ℕ) × HasPlace (suc n) place → HasPlaces (suc n)
      with_next h p = record {
        places = p.0 ∷ h.places;
        long = ap suc h.long;
        distinct = IsDistinct-cons eqb p.0 h.places (none_alike p.0 h.places new) h.distinct;
        each = λ q found. ⊎_elim
            (λ here. (suc n, omega arith, subst (HasPlace (suc n)) (sym (eqb-true q p.0 here)) p.1))
            (λ later. let e = h.each q later in (e.0, omega (arith, e.1), e.2))
            (or_cases (eqb q p.0) (list_any (eqb q) h.places) found);
      }
        where
          new : list_any (eqb p.0) h.places ≡ false
          new = false_from_ne_true (list_any (eqb p.0) h.places) (λ t.
              let e = h.each p.0 t in other_place e.0 (suc n) p.0 (omega (arith, e.1)) e.2 p.1)

  pub owned_is_bounded : (n : ℕ) → ((level : ℕ) → 1 ≤ level → level ≤ n → HasOwn kept level) → n ≤ 3 ^ length vars
  owned_is_bounded n own =
      let h = places_of n own in
      let short = length-le_from_distinct_below h.places (length (clauses_over vars)) h.distinct (λ q found. (h.each q found).2.within) in
      omega (arith, short, h.long, clause_count vars)

pub top_is_bounded : (vars : List ℕ) (f : Levels) → All (λ (e : Entry). IsOver vars e.clause) f.kept → AreApart f.kept
    → HasOwnBelow f.kept f.top → f.top ≤ 3 ^ length vars + 1
top_is_bounded vars f over apart own =
    let h = owned_is_bounded vars f.kept over apart (f.top - 1) (λ level low le. own level low (omega (arith, le, low))) in
    omega (arith, h)
