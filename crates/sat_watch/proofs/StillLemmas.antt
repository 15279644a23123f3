-- Clauses that stay still as literals come.
use Rattle.std.proofs.Common.{◌≡◌, ◌≢◌, ℕ, ◌+◌, ◌<◌, ◌≤◌, ◌-◌, ◌⊎◌, Bool, true, false, not, cond, List, [], ◌∷◌, ◌++◌, length, get_or, take, drop, Some, inl, inr, refl, sym, subst, ◌∙◌, ap, arith}
use Rattle.std.specs.List.{Contains}
use Rattle.std.proofs.lemmas.Bool.{both_ways, cases_lt, false_from_ne_true}
use Rattle.std.proofs.lemmas.List.{take_at, length-append, length-drop, get_or-drop, get_or_append_left}
use Rattle.std.proofs.lemmas.Option.{slice_get-get_or}
use Rattle.ja_base.specs.Literals.{bit, negated}
use Rattle.ja_base.specs.Clauses.{has_literal}
use Rattle.ja_base.proofs.ClauseLemmas.{has_literal_decides}
use Rattle.ja_base.specs.Trails.{open_lits, IsTrail}
use Rattle.sat_plain.proofs.Members.{taken_at, dropped_at, taken_is_on, Contains-here, Contains-there, Contains-cases, Contains-none}
use Rattle.sat_plain.proofs.WalkLemmas.{taken_has}
use Rattle.sat_watch.specs.Steps.{IsStill}
use Rattle.sat_watch.specs.Fronts.{open_under, IsStillUnder, IsFine}

-- ---- members

pub dropped_has : (xs : List ℕ) (q p l : ℕ) → q ≤ p → p < length xs → get_or xs p l ≡ l → Contains (drop q xs) l
dropped_has xs q p l low within e =
    let k : ℕ = p - q in
    let at : q + k ≡ p = omega arith in
    (k, omega (arith, length-drop q xs), get_or-drop q xs k l ∙ ap (λ n. get_or xs n l) at ∙ e)

pub dropped_less : (xs : List ℕ) (p q l : ℕ) → p ≤ q → Contains (drop q xs) l → Contains (drop p xs) l
dropped_less xs p q l low h =
    let r = dropped_at xs q l h in dropped_has xs p r.0 l (omega (arith, r.1)) r.2 r.3

taken_more : (xs : List ℕ) (n m k : ℕ) → n ≤ m → Contains (take n xs) k → Contains (take m xs) k
taken_more xs n m k less h =
    let r = taken_at xs n k h in
    taken_has xs r.0 m k (slice_get-get_or xs r.0 k r.2 ∙ ap Some r.3) (omega (arith, r.1))

-- what is not among the first n stands behind them
behind : (xs : List ℕ) (n m : ℕ) → Contains xs m → (Contains (take n xs) m → ⊥) → Contains (drop n xs) m
behind xs n m h off =
    elim (cases_lt h.0 n) [
      | inl low ↦ absurd (off (taken_has xs h.0 n m (slice_get-get_or xs h.0 m h.1 ∙ ap Some h.2) low))
      | inr high ↦ dropped_has xs n h.0 m high h.1 h.2
    ]

-- ---- still clauses

-- as more literals come, a clause has the same open ones, or one of its literals is false that was not
more_false : (lits more clause : List ℕ) → ((l : ℕ) → Contains lits l → Contains more l)
    → (open_under more clause ≡ open_under lits clause)
    ⊎ ((m : ℕ) × Contains clause m × Contains more (negated m) × (has_literal lits (negated m) ≡ false))
more_false lits more [] grown = inl refl
more_false lits more (x ∷ xs) grown =
    go (has_literal lits (negated x)) (has_literal more (negated x)) refl refl (more_false lits more xs grown)
  where
    go : (a b : Bool) → has_literal lits (negated x) ≡ a → has_literal more (negated x) ≡ b
        → (open_under more xs ≡ open_under lits xs)
        ⊎ ((m : ℕ) × Contains xs m × Contains more (negated m) × (has_literal lits (negated m) ≡ false))
        → (open_under more (x ∷ xs) ≡ open_under lits (x ∷ xs))
        ⊎ ((m : ℕ) × Contains (x ∷ xs) m × Contains more (negated m) × (has_literal lits (negated m) ≡ false))
    go a b e f (inr r) = inr (r.0, Contains-there x r.0 xs r.1, r.2, r.3)
    go true true e f (inl same) =
        inl (ap (λ t. cond (not t) (x ∷ open_under more xs) (open_under more xs)) f ∙ same
        ∙ sym (ap (λ t. cond (not t) (x ∷ open_under lits xs) (open_under lits xs)) e))
    go false false e f (inl same) =
        inl (ap (λ t. cond (not t) (x ∷ open_under more xs) (open_under more xs)) f ∙ ap (λ v. x ∷ v) same
        ∙ sym (ap (λ t. cond (not t) (x ∷ open_under lits xs) (open_under lits xs)) e))
    go true false e f (inl same) =
        let has : has_literal more (negated x) ≡ true =
        (has_literal_decides more (negated x)).1 (grown (negated x) ((has_literal_decides lits (negated x)).0 e)) in
        absurd (both_ways (has_literal more (negated x)) f has)
    go false true e f (inl same) = inr (x, Contains-here x xs, (has_literal_decides more (negated x)).0 f, e)

-- a clause that was still under the first n literals is fine under all
pub fine_from : (lits : List ℕ) (n head : ℕ) (clause : List ℕ) → head ≤ n → IsStillUnder (take n lits) clause
    → IsFine lits head clause
fine_from lits n head clause low h =
    elim (more_false (take n lits) lits clause (λ l has. taken_is_on lits n l has)) [
      | inl same ↦
          inl (record {
            some = λ e. h.some (sym same ∙ e);
            unforced = λ l e. taken_is_on lits n l (h.unforced l (sym same ∙ e));
          })
      | inr r ↦
          let off : Contains (take head lits) (negated r.0) → ⊥ =
          λ k. both_ways (has_literal (take n lits) (negated r.0)) r.3
          ((has_literal_decides (take n lits) (negated r.0)).1 (taken_more lits head n (negated r.0) low k)) in
          inr (record { literal = r.0; has = r.1; late = behind lits head (negated r.0) r.2 off })
    ]

pub fine_more : (lits more : List ℕ) (head : ℕ) (clause : List ℕ) → head ≤ length lits → IsFine lits head clause
    → IsFine (lits ++ more) head clause
fine_more lits more head clause low (inl h) =
    let P : List ℕ → Type 0 = λ v. IsStillUnder v clause in
    fine_from (lits ++ more) (length lits) head clause low (subst P (sym (take_at lits more (length lits) refl)) h)
fine_more lits more head clause low (inr h) =
    let r = dropped_at lits head (negated h.literal) h.late in
    inr (record {
      literal = h.literal;
      has = h.has;
      late = dropped_has (lits ++ more) head r.0 (negated h.literal) r.1
          (let whole = length-append lits more in omega (arith, r.2))
          (get_or_append_left lits more (negated h.literal) r.0 r.2 ∙ r.3);
    })

pub fine_lower : (lits : List ℕ) (head low : ℕ) (clause : List ℕ) → low ≤ head → IsFine lits head clause
    → IsFine lits low clause
fine_lower lits head low clause less (inl h) = inl h
fine_lower lits head low clause less (inr h) =
    inr (record { literal = h.literal; has = h.has; late = dropped_less lits low head (negated h.literal) less h.late })

-- nothing is false by a place past the end
pub fine_end : (lits : List ℕ) (head : ℕ) (clause : List ℕ) → length lits ≤ head → IsFine lits head clause
    → IsStillUnder lits clause
fine_end lits head clause past (inl h) = h
fine_end lits head clause past (inr h) =
    let r = dropped_at lits head (negated h.literal) h.late in absurd (omega (arith, r.1, r.2))

-- ---- by the bits of a trail

same_bool : (a b : Bool) → (a ≡ true → b ≡ true) → (b ≡ true → a ≡ true) → a ≡ b
same_bool true true f g = refl
same_bool false false f g = refl
same_bool true false f g = sym (f refl)
same_bool false true f g = g refl

bits_are : (vars : ℕ) (values : List Bool) (lits : List ℕ) → IsTrail vars values lits → (l : ℕ)
    → bit values l ≡ has_literal lits l
bits_are vars values lits is l =
    same_bool (bit values l) (has_literal lits l) (λ e. (has_literal_decides lits l).1 (is.only l e))
    (λ e. is.on l ((has_literal_decides lits l).0 e))

open_same : (values : List Bool) (lits clause : List ℕ) → ((l : ℕ) → bit values l ≡ has_literal lits l)
    → open_lits values clause ≡ open_under lits clause
open_same values lits [] e = refl
open_same values lits (x ∷ xs) e =
    ap (λ b. cond (not b) (x ∷ open_lits values xs) (open_lits values xs)) (e (negated x))
    ∙ ap (λ v. cond (not (has_literal lits (negated x))) (x ∷ v) v) (open_same values lits xs e)

pub still_under : (vars : ℕ) (values : List Bool) (lits clause : List ℕ) → IsTrail vars values lits → IsStill values clause
    → IsStillUnder lits clause
still_under vars values lits clause is h =
    let same = open_same values lits clause (bits_are vars values lits is) in
    record { some = λ e. h.some (same ∙ e); unforced = λ l e. is.only l (h.unforced l (same ∙ e)) }

pub still_values : (vars : ℕ) (values : List Bool) (lits clause : List ℕ) → IsTrail vars values lits
    → IsStillUnder lits clause → IsStill values clause
still_values vars values lits clause is h =
    let same = open_same values lits clause (bits_are vars values lits is) in
    record { some = λ e. h.some (sym same ∙ e); unforced = λ l e. is.on l (h.unforced l (sym same ∙ e)) }

-- a literal of a clause that is not false is among its open ones
pub open_has : (lits clause : List ℕ) (l : ℕ) → Contains clause l → (Contains lits (negated l) → ⊥)
    → Contains (open_under lits clause) l
open_has lits clause l has free = go clause has
  where
    not_there : has_literal lits (negated l) ≡ false
    not_there = false_from_ne_true (has_literal lits (negated l)) (λ e. free ((has_literal_decides lits (negated l)).0 e))

    go : (c : List ℕ) → Contains c l → Contains (open_under lits c) l
    go [] h = h
    go (x ∷ xs) h =
        elim (Contains-cases x l xs h) [
          | inl q ↦
              let e : has_literal lits (negated x) ≡ false = ap (λ k. has_literal lits (negated k)) q ∙ not_there in
              let P : Bool → Type 0 = λ b. Contains (cond (not b) (x ∷ open_under lits xs) (open_under lits xs)) l in
              let Q : ℕ → Type 0 = λ k. Contains (x ∷ open_under lits xs) k in
              subst P (sym e) (subst Q q (Contains-here x (open_under lits xs)))
          | inr k ↦ more x xs (has_literal lits (negated x)) (go xs k)
        ]
      where
        more : (x : ℕ) (xs : List ℕ) (b : Bool) → Contains (open_under lits xs) l
            → Contains (cond (not b) (x ∷ open_under lits xs) (open_under lits xs)) l
        more x xs true h = h
        more x xs false h = Contains-there x l (open_under lits xs) h

-- a clause of which a literal is true is still
pub still_forced : (lits clause : List ℕ) (l : ℕ) → Contains clause l → Contains lits l → (Contains lits (negated l) → ⊥)
    → IsStillUnder lits clause
still_forced lits clause l has true_now free =
    let here : Contains (open_under lits clause) l = open_has lits clause l has free in
    record {
      some = λ e. let P : List ℕ → Type 0 = λ v. Contains v l in Contains-none l (subst P e here);
      unforced = λ x e.
          let P : List ℕ → Type 0 = λ v. Contains v l in
          let Q : ℕ → Type 0 = Contains lits in
          elim (Contains-cases x l [] (subst P e here)) [
            | inl same ↦ subst Q (sym same) true_now
            | inr k ↦ absurd (Contains-none l k)
          ];
    }

-- a clause of which two literals are not false is still
pub open_has_two : (lits clause : List ℕ) (l m : ℕ) → Contains clause l → Contains clause m → l ≢ m
    → (Contains lits (negated l) → ⊥) → (Contains lits (negated m) → ⊥) → IsStillUnder lits clause
open_has_two lits clause l m has also apart free open_too =
    let one : Contains (open_under lits clause) l = open_has lits clause l has free in
    let two : Contains (open_under lits clause) m = open_has lits clause m also open_too in
    record {
      some = λ e. let P : List ℕ → Type 0 = λ v. Contains v l in Contains-none l (subst P e one);
      unforced = λ x e.
          let P : List ℕ → Type 0 = λ v. Contains v l in
          let Q : List ℕ → Type 0 = λ v. Contains v m in
          elim (Contains-cases x l [] (subst P e one)) [
            | inl same ↦
                elim (Contains-cases x m [] (subst Q e two)) [
                  | inl again ↦ absurd (apart (sym same ∙ again))
                  | inr k ↦ absurd (Contains-none m k)
                ]
            | inr k ↦ absurd (Contains-none l k)
          ];
    }
