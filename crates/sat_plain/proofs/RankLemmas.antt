-- The rank of a trail rises.
use Rattle.std.proofs.Common.{◌≡◌, ℕ, ◌+◌, ◌*◌, ◌^◌, ◌<◌, ◌≤◌, Bool, true, false, List, [], ◌∷◌, ◌++◌, length, take, drop, zero, suc, Some, None, is_none, slice_get, sym, subst, ◌∙◌, ap, arith, length-append}
use Rattle.std.proofs.Math.Nat.{pow-suc}
use Rattle.std.proofs.lemmas.List.{map-append, length-map, length-take, append-nil}
use Rattle.std.proofs.lemmas.Option.{slice_get_within}
use Rattle.sat_plain.specs.declared.place.Place.{Place}
use Rattle.sat_plain.specs.Trails.{IsGrown, kinds_of}
use Rattle.sat_plain.specs.Turns.{IsFurther}
use Rattle.sat_plain.specs.Rank.{rank}
use Rattle.sat_plain.proofs.Members.{split_at}

pub rank_below : (v : ℕ) (kinds : List Bool) → rank v kinds + 1 ≤ 3 ^ v
rank_below zero kinds = omega arith
rank_below (suc v) [] = let e : 3 ^ suc v ≡ 3 ^ v * 3 = pow-suc 3 v in let b = rank_below v [] in omega arith
rank_below (suc v) (true ∷ kinds) =
    let e : 3 ^ suc v ≡ 3 ^ v * 3 = pow-suc 3 v in let b = rank_below v kinds in omega arith
rank_below (suc v) (false ∷ kinds) =
    let e : 3 ^ suc v ≡ 3 ^ v * 3 = pow-suc 3 v in let b = rank_below v kinds in omega arith

pub rank_grows : (v : ℕ) (kinds more : List Bool) (kind : Bool) → length kinds < v
    → rank v kinds + 1 ≤ rank v (kinds ++ kind ∷ more)
rank_grows zero kinds more kind less = absurd (omega arith)
rank_grows (suc v) [] more true less = let b = rank_below v [] in omega arith
rank_grows (suc v) [] more false less = let b = rank_below v [] in omega arith
rank_grows (suc v) (k ∷ kinds) more kind less = let b = rank_grows v kinds more kind (omega arith) in omega arith

pub rank_rises : (v : ℕ) (before after : List Bool) → length before < v
    → rank v (before ++ true ∷ after) + 1 ≤ rank v (before ++ false ∷ [])
rank_rises zero before after less = absurd (omega arith)
rank_rises (suc v) [] after less = let b = rank_below v after in omega arith
rank_rises (suc v) (k ∷ before) after less = let b = rank_rises v before after (omega arith) in omega arith

kinds_length : (places : List Place) → length (kinds_of places) ≡ length places
kinds_length places = length-map places (λ (k : Place). is_none k.reason)

kinds_append : (xs ys : List Place) → kinds_of (xs ++ ys) ≡ kinds_of xs ++ kinds_of ys
kinds_append xs ys = map-append (λ (k : Place). is_none k.reason) xs ys

-- where places came last
pub rank_grown : (vars : ℕ) (before after : List Place) → IsGrown before after → length after ≤ vars
    → rank vars (kinds_of before) ≤ rank vars (kinds_of after)
rank_grown vars before after h fits = go h.more h.is
  where
    go : (more : List Place) → after ≡ before ++ more → rank vars (kinds_of before) ≤ rank vars (kinds_of after)
    go [] e =
        let P : List Place → Type 0 = λ v. rank vars (kinds_of before) ≤ rank vars (kinds_of v) in
        subst P (sym (append-nil before) ∙ sym e) (omega arith)
    go (x ∷ more) e =
        let all : kinds_of after ≡ kinds_of before ++ is_none x.reason ∷ kinds_of more =
        ap kinds_of e ∙ kinds_append before (x ∷ more) in
        let less : length (kinds_of before) < vars =
        omega (arith, kinds_length before, ap length e, length-append before (x ∷ more)) in
        let b = rank_grows vars (kinds_of before) (kinds_of more) (is_none x.reason) less in
        let same : rank vars (kinds_of after) ≡ rank vars (kinds_of before ++ is_none x.reason ∷ kinds_of more) =
        ap (rank vars) all in
        omega arith

pub further_by_places : (vars : ℕ) (before after : List Place) → IsGrown before after → length before < length after
    → length after ≤ vars → IsFurther vars before after
further_by_places vars before after h longer fits = go h.more h.is
  where
    go : (more : List Place) → after ≡ before ++ more → rank vars (kinds_of before) < rank vars (kinds_of after)
    go [] e =
        let same : length after ≡ length before = ap length e ∙ ap length (append-nil before) in absurd (omega arith)
    go (x ∷ more) e =
        let all : kinds_of after ≡ kinds_of before ++ is_none x.reason ∷ kinds_of more =
        ap kinds_of e ∙ kinds_append before (x ∷ more) in
        let less : length (kinds_of before) < vars = omega (arith, kinds_length before) in
        let b = rank_grows vars (kinds_of before) (kinds_of more) (is_none x.reason) less in
        let same : rank vars (kinds_of after) ≡ rank vars (kinds_of before ++ is_none x.reason ∷ kinds_of more) =
        ap (rank vars) all in
        omega arith

-- where a decision gives way to a forced literal
pub further_by_flip : (vars q : ℕ) (places : List Place) (place new : Place) → slice_get places q ≡ Some place
    → place.reason ≡ None → is_none new.reason ≡ false → length places ≤ vars
    → IsFurther vars places (take q places ++ new ∷ [])
further_by_flip vars q places place new there decided forced fits =
    let less : q < length places = slice_get_within places q place there in
    let front : List Place = take q places in
    let back : List Place = drop (q + 1) places in
    let kinds : kinds_of places ≡ kinds_of front ++ true ∷ kinds_of back =
    ap kinds_of (split_at places q place there) ∙ kinds_append front (place ∷ back)
    ∙ ap (λ b. kinds_of front ++ b ∷ kinds_of back) (ap is_none decided) in
    let news : kinds_of (front ++ new ∷ []) ≡ kinds_of front ++ false ∷ [] =
    kinds_append front (new ∷ []) ∙ ap (λ b. kinds_of front ++ b ∷ []) forced in
    let short : length (kinds_of front) < vars = omega (arith, kinds_length front, length-take q places) in
    let b = rank_rises vars (kinds_of front) (kinds_of back) short in
    let old : rank vars (kinds_of places) ≡ rank vars (kinds_of front ++ true ∷ kinds_of back) = ap (rank vars) kinds in
    let now : rank vars (kinds_of (front ++ new ∷ [])) ≡ rank vars (kinds_of front ++ false ∷ []) = ap (rank vars) news in
    omega arith
