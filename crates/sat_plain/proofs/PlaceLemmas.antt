-- Places that come and go, and the clauses that force them.
use Rattle.std.proofs.Common.{◌≡◌, ℕ, ◌<◌, ◌⊎◌, Bool, true, false, not, cond, List, [], ◌∷◌, ◌++◌, length, get_or, take, Some, slice_get, inl, inr, refl, sym, subst, ◌∙◌, ap, arith, append_assoc, append-nil}
use Rattle.std.specs.List.{Contains}
use Rattle.std.proofs.lemmas.Bool.{cases_lt}
use Rattle.std.proofs.lemmas.List.{map_push, length-map, length-append, length-take, length_push, take-map, take-take, take-append-le, take_at, get_or_append_left, get_or_push, get_or-take}
use Rattle.std.proofs.lemmas.Option.{get_or_from_slice_get, slice_get_within, slice_get-get_or, slice_get-map}
use Rattle.ja_base.specs.Literals.{bit, negated}
use Rattle.ja_base.specs.Trails.{open_lits, IsTrail, IsReason, IsForcedBy, AreFalse}
use Rattle.refute_check.specs.Lines.{found_of}
use Rattle.refute_check.specs.declared.found.Found.TheVariants.{False, Forces, Other}
use Rattle.sat_plain.specs.declared.place.Place.{Place}
use Rattle.sat_plain.specs.Trails.{AreForced, IsGrown, lits_of}
use Rattle.sat_plain.proofs.Members.{Contains-here, Contains-there, Contains-cases, Contains-none}

-- ---- elements by their places

pub slice_get_left : {X : Type 0} (xs ys : List X) (k : ℕ) (x : X) → slice_get xs k ≡ Some x → slice_get (xs ++ ys) k ≡ Some x
slice_get_left xs ys k x e =
    let less : k < length xs = slice_get_within xs k x e in
    slice_get-get_or (xs ++ ys) k x (omega (arith, length-append xs ys))
    ∙ ap Some (get_or_append_left xs ys x k less ∙ get_or_from_slice_get xs k x x e)

pub slice_get_push : {X : Type 0} (xs : List X) (y : X) (k : ℕ) (x : X) → slice_get (xs ++ y ∷ []) k ≡ Some x
    → (slice_get xs k ≡ Some x) ⊎ ((k ≡ length xs) × (x ≡ y))
slice_get_push xs y k x e =
    let less : k < length (xs ++ y ∷ []) = slice_get_within (xs ++ y ∷ []) k x e in
    let is : get_or (xs ++ y ∷ []) k x ≡ x = get_or_from_slice_get (xs ++ y ∷ []) k x x e in
    elim (cases_lt k (length xs)) [
      | inl low ↦
          inl (slice_get-get_or xs k x low ∙ ap Some (sym (get_or_append_left xs (y ∷ []) x k low) ∙ is))
      | inr high ↦
          let last : k ≡ length xs = omega (arith, length_push xs y) in
          inr (last, sym is ∙ get_or_push xs y x k (sym last))
    ]

pub slice_get_take : {X : Type 0} (n : ℕ) (xs : List X) (k : ℕ) (x : X) → slice_get (take n xs) k ≡ Some x
    → (k < n) × (slice_get xs k ≡ Some x)
slice_get_take n xs k x e =
    let less : k < length (take n xs) = slice_get_within (take n xs) k x e in
    let low : k < n = omega (arith, length-take n xs) in
    let within : k < length xs = omega (arith, length-take n xs) in
    (low, slice_get-get_or xs k x within ∙ ap Some (sym (get_or-take n xs k x low) ∙ get_or_from_slice_get (take n xs) k x x e))

pub lits_at : (places : List Place) (p : ℕ) (place : Place) → slice_get places p ≡ Some place
    → slice_get (lits_of places) p ≡ Some place.lit
lits_at places p place e =
    let f : Place → ℕ = λ k. k.lit in
    slice_get-map f places p ∙ grind (arith)

-- ---- what a clause does under a row

open_has : (row : List Bool) (clause : List ℕ) (m : ℕ) → Contains clause m → bit row (negated m) ≡ false
    → Contains (open_lits row clause) m
open_has row [] m has free = has
open_has row (x ∷ xs) m has free =
    elim (Contains-cases x m xs has) [
      | inl q ↦
          let e : bit row (negated x) ≡ false = ap (λ k. bit row (negated k)) q ∙ free in
          let P : Bool → Type 0 = λ b. Contains (cond (not b) (x ∷ open_lits row xs) (open_lits row xs)) m in
          let Q : ℕ → Type 0 = λ k. Contains (x ∷ open_lits row xs) k in
          subst P (sym e) (subst Q q (Contains-here x (open_lits row xs)))
      | inr k ↦ go (bit row (negated x)) (open_has row xs m k free)
    ]
  where
    go : (b : Bool) → Contains (open_lits row xs) m → Contains (cond (not b) (x ∷ open_lits row xs) (open_lits row xs)) m
    go true h = h
    go false h = Contains-there x m (open_lits row xs) h

open_is : (row : List Bool) (clause : List ℕ) (m : ℕ) → Contains (open_lits row clause) m
    → Contains clause m × (bit row (negated m) ≡ false)
open_is row [] m has = absurd (Contains-none m has)
open_is row (x ∷ xs) m has = go (bit row (negated x)) refl (open_is row xs m) has
  where
    go : (b : Bool) → bit row (negated x) ≡ b
        → (Contains (open_lits row xs) m → Contains xs m × (bit row (negated m) ≡ false))
        → Contains (cond (not b) (x ∷ open_lits row xs) (open_lits row xs)) m
        → Contains (x ∷ xs) m × (bit row (negated m) ≡ false)
    go true e later h = let r = later h in (Contains-there x m xs r.0, r.1)
    go false e later h =
        elim (Contains-cases x m (open_lits row xs) h) [
          | inl q ↦
              let P : ℕ → Type 0 = Contains (x ∷ xs) in
              (subst P q (Contains-here x xs), ap (λ k. bit row (negated k)) (sym q) ∙ e)
          | inr k ↦ let r = later k in (Contains-there x m xs r.0, r.1)
        ]

none_from_false : (row : List Bool) (lits : List ℕ) → found_of row lits ≡ False → lits ≡ []
none_from_false row [] e = refl
none_from_false row (l ∷ []) e = absurd (go (bit row l) e)
  where
    go : (b : Bool) → cond b Other (Forces l) ≡ False → ⊥
    go true e = cc
    go false e = cc
none_from_false row (l ∷ m ∷ ls) e = absurd (cc)

one_from_forces : (row : List Bool) (lits : List ℕ) (l : ℕ) → found_of row lits ≡ Forces l
    → (lits ≡ l ∷ []) × (bit row l ≡ false)
one_from_forces row [] l e = absurd (cc)
one_from_forces row (x ∷ []) l e = go (bit row x) refl e
  where
    go : (b : Bool) → bit row x ≡ b → cond b Other (Forces x) ≡ Forces l → (x ∷ [] ≡ l ∷ []) × (bit row l ≡ false)
    go true f e = absurd (cc)
    go false f e = let same : x ≡ l = cc in (ap (λ k. k ∷ []) same, ap (bit row) (sym same) ∙ f)
one_from_forces row (x ∷ m ∷ ls) l e = absurd (cc)

some_from_other : (row : List Bool) (lits : List ℕ) → found_of row lits ≡ Other → (m : ℕ) × Contains lits m
some_from_other row [] e = absurd (cc)
some_from_other row (x ∷ xs) e = (x, Contains-here x xs)

true_from : (b : Bool) → (b ≡ false → ⊥) → b ≡ true
true_from true h = refl
true_from false h = absurd (h refl)

-- a clause that is found false
pub found_false : (row : List Bool) (clause : List ℕ) → found_of row (open_lits row clause) ≡ False
    → (m : ℕ) → Contains clause m → bit row (negated m) ≡ true
found_false row clause e m has =
    true_from (bit row (negated m)) (λ free.
    let P : List ℕ → Type 0 = λ v. Contains v m in
    Contains-none m (subst P (none_from_false row (open_lits row clause) e) (open_has row clause m has free)))

-- a clause that forces l
pub record IsFoundForced (row : List Bool) (clause : List ℕ) (l : ℕ) : Type 0 where
  pub has : Contains clause l
  pub unset : bit row l ≡ false
  pub free : bit row (negated l) ≡ false
  pub others : (m : ℕ) → Contains clause m → (m ≡ l → ⊥) → bit row (negated m) ≡ true

pub found_forces : (row : List Bool) (clause : List ℕ) (l : ℕ) → found_of row (open_lits row clause) ≡ Forces l
    → IsFoundForced row clause l
found_forces row clause l e =
    let r = one_from_forces row (open_lits row clause) l e in
    let P : List ℕ → Type 0 = λ v. Contains v l in
    let here = open_is row clause l (subst P (sym r.0) (Contains-here l [])) in
    record {
      has = here.0;
      unset = r.1;
      free = here.1;
      others = λ m has other.
          true_from (bit row (negated m)) (λ free.
          let Q : List ℕ → Type 0 = λ v. Contains v m in
          elim (Contains-cases l m [] (subst Q r.0 (open_has row clause m has free))) [
            | inl q ↦ other (sym q)
            | inr k ↦ Contains-none m k
          ]);
    }

pub found_other : (row : List Bool) (clause : List ℕ) → found_of row (open_lits row clause) ≡ Other
    → (m : ℕ) × Contains clause m × (bit row (negated m) ≡ false)
found_other row clause e =
    let r = some_from_other row (open_lits row clause) e in
    let k = open_is row clause r.0 r.1 in (r.0, k.0, k.1)

-- ---- places and their reasons

pub lits_push : (places : List Place) (place : Place) → lits_of (places ++ place ∷ []) ≡ lits_of places ++ place.lit ∷ []
lits_push places place = map_push (λ (k : Place). k.lit) places place

pub lits_take : (n : ℕ) (places : List Place) → lits_of (take n places) ≡ take n (lits_of places)
lits_take n places = sym (take-map (λ (k : Place). k.lit) n places)

pub lits_length : (places : List Place) → length (lits_of places) ≡ length places
lits_length places = length-map places (λ (k : Place). k.lit)

pub forced_push : (clauses : List (List ℕ)) (places : List Place) (x : Place)
    → ((n : ℕ) → x.reason ≡ Some n → IsForcedBy clauses (lits_of places) x.lit n) → AreForced clauses places
    → AreForced clauses (places ++ x ∷ [])
forced_push clauses places x new h = record {
  at = λ p n place e r.
      elim (slice_get_push places x p place e) [
        | inl old ↦
            let less : p < length places = slice_get_within places p place old in
            let same : take p (lits_of (places ++ x ∷ [])) ≡ take p (lits_of places) =
            ap (take p) (lits_push places x)
            ∙ take-append-le p (lits_of places) (x.lit ∷ []) (omega (arith, lits_length places)) in
            let P : List ℕ → Type 0 = λ v. IsForcedBy clauses v place.lit n in subst P (sym same) (h.at p n place old r)
        | inr last ↦
            let same : take p (lits_of (places ++ x ∷ [])) ≡ lits_of places =
            ap (take p) (lits_push places x)
            ∙ take_at (lits_of places) (x.lit ∷ []) p (lits_length places ∙ sym last.0) in
            let P : List ℕ → Type 0 = λ v. IsForcedBy clauses v place.lit n in
            let Q : Place → Type 0 = λ k. (k.reason ≡ Some n → IsForcedBy clauses (lits_of places) k.lit n) in
            subst P (sym same) (subst Q (sym last.1) (new n) r)
      ];
}

pub forced_take : (clauses : List (List ℕ)) (places : List Place) (q : ℕ) → AreForced clauses places
    → AreForced clauses (take q places)
forced_take clauses places q h = record {
  at = λ p n place e r.
      let old = slice_get_take q places p place e in
      let same : take p (lits_of (take q places)) ≡ take p (lits_of places) =
      ap (take p) (lits_take q places) ∙ take-take p q (lits_of places) (let l : p < q = old.0 in omega arith) in
      let P : List ℕ → Type 0 = λ v. IsForcedBy clauses v place.lit n in subst P (sym same) (h.at p n place old.1 r);
}

pub forced_more : (clauses more : List (List ℕ)) (places : List Place) → AreForced clauses places
    → AreForced (clauses ++ more) places
forced_more clauses more places h = record {
  at = λ p n place e r.
      let f = h.at p n place e r in
      record { clause = f.clause; is = slice_get_left clauses more n f.clause f.is; reason = f.reason };
}

pub grown_none : (places : List Place) → IsGrown places places
grown_none places = record { more = []; is = sym (append-nil places) }

pub grown_push : (before places : List Place) (x : Place) → IsGrown before places → IsGrown before (places ++ x ∷ [])
grown_push before places x h = record {
  more = h.more ++ x ∷ [];
  is = ap (λ v. v ++ x ∷ []) h.is ∙ append_assoc before h.more (x ∷ []);
}

pub grown_chain : (a b c : List Place) → IsGrown a b → IsGrown b c → IsGrown a c
grown_chain a b c h k = record {
  more = h.more ++ k.more;
  is = k.is ∙ ap (λ v. v ++ k.more) h.is ∙ append_assoc a h.more k.more;
}

-- the clause that forces l, as a reason of a place
pub reason_of : (vars : ℕ) (values : List Bool) (places : List Place) (clause : List ℕ) (l : ℕ)
    → IsTrail vars values (lits_of places) → IsFoundForced values clause l → IsReason (lits_of places) l clause
reason_of vars values places clause l is f = record {
  has = f.has;
  others = λ m has other. is.only (negated m) (f.others m has other);
}

pub all_false : (vars : ℕ) (values : List Bool) (places : List Place) (clause : List ℕ) → IsTrail vars values (lits_of places)
    → found_of values (open_lits values clause) ≡ False → AreFalse (lits_of places) clause
all_false vars values places clause is e = record {
  each = λ m has. is.only (negated m) (found_false values clause e m has);
}
