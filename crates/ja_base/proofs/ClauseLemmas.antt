-- Ascending lists of literals.
use Rattle.std.proofs.Common.{◌≡◌, ℕ, ◌+◌, ◌<◌, ◌≤◌, ◌==◌, ◌&&◌, eqb, true, false, List, [], ◌∷◌, length, get_or, refl, sym, ◌∙◌, ap, subst, arith, add-one, suc, drop}
use Rattle.std.proofs.Math.ListN.{drop_of_length-le}
use Rattle.std.proofs.Math.Seq.{drop-cons}
use Rattle.std.specs.Bool.{Decides}
use Rattle.std.specs.List.{list_any, list_all, dedup, Contains, All, AllPairs}
use Rattle.std.specs.List.Sorted.{IsStrictlyIncreasing, IsSorted, IsPermutation}
use Rattle.std.specs.Ordering.{nat_cmp}
use Rattle.std.proofs.lemmas.Bool.Decides.{Decides-eqb, Decides-by_and, Decides-by_or, nat_tests}
use Rattle.std.proofs.lemmas.Map.Keys.{IsStrictlyIncreasing-dedup}
use Rattle.std.proofs.lemmas.List.Elements.{Decides-contains}
use Rattle.std.proofs.lemmas.List.Kept.{Contains-dedup_nat, Contains-from_dedup, AllPairs-from_increasing}
use Rattle.std.proofs.lemmas.List.Sorted.{Contains-permutation, IsPermutation-sym}
use Rattle.ja_base.specs.Clauses.{IsSetOf, has_literal, is_part}

-- sorted and without repeats: the same literals
pub IsSetOf-sorted : (lits sorted : List ℕ) → IsPermutation lits sorted → IsSorted nat_cmp sorted
    → IsSetOf lits (dedup eqb sorted)
IsSetOf-sorted lits sorted same up = record {
  ascends = IsStrictlyIncreasing-dedup sorted up;
  members = λ l. (
    λ h. Contains-permutation sorted lits l (IsPermutation-sym lits sorted same) (Contains-from_dedup eqb sorted l h),
    λ h. Contains-dedup_nat sorted l (Contains-permutation lits sorted l same h),
  );
}

pub has_literal_decides : (lits : List ℕ) (l : ℕ) → Decides (has_literal lits l) (Contains lits l)
has_literal_decides lits l =
    Decides-contains lits l (has_literal lits l)
    (Decides-by_or (λ m. m == l) (λ m. m ≡ l) (list_any (λ m. m == l)) (λ m. Decides-eqb m l) refl (λ _ _. refl) lits)

pub is_part_decides : (part whole : List ℕ) → Decides (is_part part whole) (All (Contains whole) part)
is_part_decides part whole =
    Decides-by_and (has_literal whole) (Contains whole) (list_all (has_literal whole)) (has_literal_decides whole) refl
    (λ _ _. refl) part

-- each literal of the list is above x
abbrev pub IsAbove : ℕ → List ℕ → Type 0
IsAbove x [] = Unit {0}
IsAbove x (y ∷ ys) = (x < y) × IsAbove x ys

-- each literal is below all later ones
abbrev pub Ascends : List ℕ → Type 0
Ascends [] = Unit {0}
Ascends (x ∷ xs) = IsAbove x xs × Ascends xs

pub IsAbove-lower : (x y : ℕ) (ys : List ℕ) → x ≤ y → IsAbove y ys → IsAbove x ys
IsAbove-lower x y [] less above = tt
IsAbove-lower x y (z ∷ zs) less above = (omega (arith, above.0), IsAbove-lower x y zs less above.1)

IsAbove-from_pairs : (x : ℕ) (xs : List ℕ) → ((k : ℕ) (d : ℕ) → k < length xs → x < get_or xs k d) → IsAbove x xs
IsAbove-from_pairs x [] h = tt
IsAbove-from_pairs x (y ∷ ys) h =
    (h 0 0 (omega arith), IsAbove-from_pairs x ys (λ k d less. h (suc k) d (omega arith)))

Ascends-from_pairs : (xs : List ℕ) → AllPairs (λ x y. x < y) xs → Ascends xs
Ascends-from_pairs [] h = tt
Ascends-from_pairs (x ∷ xs) h = (
  IsAbove-from_pairs x xs (λ k d less. h 0 (suc k) d (omega arith) (omega arith)),
  Ascends-from_pairs xs (λ i j d less last. h (suc i) (suc j) d (omega arith) (omega arith)),
)

pub Ascends-from_increasing : (xs : List ℕ) → IsStrictlyIncreasing xs → Ascends xs
Ascends-from_increasing xs h = Ascends-from_pairs xs (AllPairs-from_increasing xs h)

-- whether `part` is a part of `whole` is whether `wanted` is one of `rest`
pub record IsSought (part whole wanted rest : List ℕ) : Type 0 where
  pub wanted_ascends : Ascends wanted
  pub rest_ascends : Ascends rest
  pub same : is_part part whole ≡ is_part wanted rest

pub absent_from_above : (x : ℕ) (ys : List ℕ) → IsAbove x ys → has_literal ys x ≡ false
absent_from_above x [] above = refl
absent_from_above x (y ∷ ys) above =
    let later : has_literal ys x ≡ false = absent_from_above x ys above.1 in
    let less : x < y = above.0 in
    grind (arith, nat_tests)

-- a literal below all that are wanted is not needed
is_part-passed : (y : ℕ) (zs ys : List ℕ) → IsAbove y zs → is_part zs (y ∷ ys) ≡ is_part zs ys
is_part-passed y [] ys above = refl
is_part-passed y (z ∷ zs) ys above =
    let later : is_part zs (y ∷ ys) ≡ is_part zs ys = is_part-passed y zs ys above.1 in
    let less : y < z = above.0 in
    grind (arith, nat_tests)

-- nothing is a part of the empty list but itself
none_left : (wanted : List ℕ) → (length wanted == 0) ≡ is_part wanted []
none_left [] = refl
none_left (x ∷ xs) = grind (arith, nat_tests)

-- the first literal that is wanted, and the next of the rest
at_first : {part whole : List ℕ} (x : ℕ) (wanted rest : List ℕ) → 1 ≤ length wanted → x ≡ get_or wanted 0 x
    → IsSought part whole wanted rest → IsSought part whole (x ∷ drop 1 wanted) rest
at_first x [] rest some e h = absurd (omega arith)
at_first {part} {whole} x (w ∷ ws) rest some e h =
    let P : ℕ → Type 0 = λ v. IsSought part whole (v ∷ ws) rest in
    let f : w ≡ x = sym e in
    subst P f h

at_next : {part whole : List ℕ} (y i : ℕ) (wanted all : List ℕ) → i < length all → y ≡ get_or all i y
    → IsSought part whole wanted (drop i all) → IsSought part whole wanted (y ∷ drop (i + 1) all)
at_next {part} {whole} y i wanted all less e h =
    let P : List ℕ → Type 0 = λ v. IsSought part whole wanted v in
    let f : drop i all ≡ y ∷ drop (i + 1) all =
    drop-cons all i y less ∙ ap (λ v. v ∷ drop (suc i) all) (sym e) ∙ ap (λ n. y ∷ drop n all) (sym (add-one i)) in
    subst P f h

-- the literal y is next, and the least literal x of those that are wanted is below it, is it, or is above it
pub is_absent : {part whole : List ℕ} (x y i : ℕ) (wanted all : List ℕ) → 1 ≤ length wanted → x ≡ get_or wanted 0 x
    → i < length all → y ≡ get_or all i y → x < y → IsSought part whole wanted (drop i all) → is_part part whole ≡ false
is_absent x y i wanted all some e less f below h =
    let at = at_next y i (x ∷ drop 1 wanted) all less f (at_first x wanted (drop i all) some e h) in
    let gone : has_literal (y ∷ drop (i + 1) all) x ≡ false =
    absent_from_above x (y ∷ drop (i + 1) all) (below, IsAbove-lower x y (drop (i + 1) all) (omega arith) at.rest_ascends.0) in
    at.same ∙ ap (λ b. b && list_all (has_literal (y ∷ drop (i + 1) all)) (drop 1 wanted)) gone

pub is_found : {part whole : List ℕ} (x y i : ℕ) (wanted all : List ℕ) → 1 ≤ length wanted → x ≡ get_or wanted 0 x
    → i < length all → y ≡ get_or all i y → x ≡ y → IsSought part whole wanted (drop i all)
    → IsSought part whole (drop 1 wanted) (drop (i + 1) all)
is_found {part} {whole} x y i wanted all some e less f same h =
    let at = at_next y i (x ∷ drop 1 wanted) all less f (at_first x wanted (drop i all) some e h) in
    let P : ℕ → Type 0 = λ v. IsAbove v (drop 1 wanted) in
    let above : IsAbove y (drop 1 wanted) = subst P same at.wanted_ascends.0 in
    let there : has_literal (y ∷ drop (i + 1) all) x ≡ true = grind (arith, nat_tests) in
    let step : is_part part whole ≡ is_part (drop 1 wanted) (y ∷ drop (i + 1) all) =
    at.same ∙ ap (λ b. b && list_all (has_literal (y ∷ drop (i + 1) all)) (drop 1 wanted)) there in
    record {
      wanted_ascends = at.wanted_ascends.1;
      rest_ascends = at.rest_ascends.1;
      same = step ∙ is_part-passed y (drop 1 wanted) (drop (i + 1) all) above;
    }

pub is_passed : {part whole : List ℕ} (x y i : ℕ) (wanted all : List ℕ) → 1 ≤ length wanted → x ≡ get_or wanted 0 x
    → i < length all → y ≡ get_or all i y → y < x → IsSought part whole wanted (drop i all)
    → IsSought part whole wanted (drop (i + 1) all)
is_passed x y i [] all some e less f below h = absurd (omega arith)
is_passed {part} {whole} x y i (w ∷ ws) all some e less f below h =
    let at = at_next y i (w ∷ ws) all less f h in
    let P : ℕ → Type 0 = λ v. y < v in
    let low : y < w = subst P e below in
    record {
      wanted_ascends = at.wanted_ascends;
      rest_ascends = at.rest_ascends.1;
      same = at.same ∙ is_part-passed y (w ∷ ws) (drop (i + 1) all) (low, IsAbove-lower y w ws (omega arith) at.wanted_ascends.0);
    }

-- at the end of the rest
pub is_done : {part whole : List ℕ} (i : ℕ) (wanted all : List ℕ) → length all ≤ i → IsSought part whole wanted (drop i all)
    → (length wanted == 0) ≡ is_part part whole
is_done {part} {whole} i wanted all end h =
    let P : List ℕ → Type 0 = λ v. is_part part whole ≡ is_part wanted v in
    let e : drop i all ≡ [] = drop_of_length-le all end in
    let same : is_part part whole ≡ is_part wanted [] = subst P e h.same in
    none_left wanted ∙ sym same
