-- The sum of the greatest levels rises with each clause that was not blocked, and is bounded.
use Rattle.std.proofs.Common.{◌≡◌, ℕ, suc, zero, ◌<◌, ◌≤◌, ◌&&◌, max, Bool, true, false, not, cond, List, [], ◌∷◌, ◌++◌, length, get_or, ⊎_elim, refl, sym, subst, arith}
use Rattle.std.specs.Prelude.{Contains, nat_le, filter}
use Rattle.std.specs.List.{sum_by}
use Rattle.std.proofs.lemmas.Bool.{or_parts, or_cases, and_parts, or_left, or_right, both_ways, false_from_ne_true}
use Rattle.std.proofs.lemmas.Bool.Decides.{nat_tests}
use Rattle.std.proofs.lemmas.List.Elements.{All-contains}
use Rattle.std.proofs.lemmas.List.Sums.{sum_by-cons}
use Rattle.ja_base.specs.Clauses.{is_part}
use Rattle.ja_base.proofs.ClauseLemmas.{is_part_decides}
use Rattle.ic3_frames.specs.Levels.{Entry, added, is_blocked, is_blocked_by, takes_place}
use Rattle.ic3_frames.specs.Sums.{IsOver, greatest, clauses_over, potential}
use Rattle.ic3_frames.proofs.OverLemmas.{listed, listed_is_one, listed_is_part, part_of_listed}

pub part_of_part : (few some many : List ℕ) → is_part few some ≡ true → is_part some many ≡ true → is_part few many ≡ true
part_of_part few some many g h =
    (is_part_decides few many).1 (λ k d within.
    All-contains (Contains many) some (get_or few k d) ((is_part_decides some many).0 h) ((is_part_decides few some).0 g k d within))

below : (level l : ℕ) → nat_le level l ≡ false → l < level
below level l e = grind (arith, nat_tests)

no_higher : (l level : ℕ) → nat_le l level ≡ true → l ≤ level
no_higher l level e = grind (arith, nat_tests)

-- a clause that is not blocked at the level has a lower greatest level
pub unblocked_is_lower : (kept : List Entry) (level : ℕ) (clause : List ℕ) → 1 ≤ level → is_blocked kept level clause ≡ false
    → greatest kept clause < level
unblocked_is_lower [] level clause low none = low
unblocked_is_lower (e ∷ es) level clause low none =
    let parts = or_parts (is_blocked_by level clause e) (is_blocked es level clause) none in
    by_test (is_part e.clause clause) parts.0 (unblocked_is_lower es level clause low parts.1)
  where
    by_test : (b : Bool) → (nat_le level e.level && b) ≡ false → greatest es clause < level
        → cond b (max e.level (greatest es clause)) (greatest es clause) < level
    by_test true here later = let lower = below level e.level (and_true (nat_le level e.level) here) in omega (arith, lower, later)
      where
        and_true : (b : Bool) → (b && true) ≡ false → b ≡ false
        and_true true e = e
        and_true false e = refl
    by_test false here later = later

-- the last entry counts for each clause that it subsumes
last_counts : (xs : List Entry) (new : Entry) (c : List ℕ) → is_part new.clause c ≡ true → new.level ≤ greatest (xs ++ new ∷ []) c
last_counts [] new c part =
    subst (λ b. new.level ≤ cond b (max new.level 0) 0) (sym part) (omega arith)
last_counts (x ∷ xs) new c part = by_test (is_part x.clause c) (last_counts xs new c part)
  where
    by_test : (b : Bool) → new.level ≤ greatest (xs ++ new ∷ []) c
        → new.level ≤ cond b (max x.level (greatest (xs ++ new ∷ []) c)) (greatest (xs ++ new ∷ []) c)
    by_test true h = omega (arith, h)
    by_test false h = h

-- no greatest level falls where a clause is added
pub additions_never_lower : (clause : List ℕ) (level : ℕ) (kept : List Entry) (c : List ℕ)
    → greatest kept c ≤ greatest (added clause level kept) c
additions_never_lower clause level [] c = omega arith
additions_never_lower clause level (e ∷ es) c =
    by_test (takes_place new e) refl (is_part e.clause c) refl (additions_never_lower clause level es c)
  where
    new : Entry
    new = record { clause = clause; level = level }

    rest : List Entry
    rest = filter (λ e. not (takes_place new e)) es

    by_test : (t : Bool) → takes_place new e ≡ t → (b : Bool) → is_part e.clause c ≡ b → greatest es c ≤ greatest (rest ++ new ∷ []) c
        → cond b (max e.level (greatest es c)) (greatest es c) ≤ greatest (cond (not t) (e ∷ rest) rest ++ new ∷ []) c
    by_test true taken true part h =
        let both = and_parts (nat_le e.level level) (is_part clause e.clause) taken in
        let counts = last_counts rest new c (part_of_part clause e.clause c both.1 part) in
        let low = no_higher e.level level both.0 in
        omega (arith, counts, low, h)
    by_test true taken false part h = h
    by_test false stays true part h =
        subst (λ b. max e.level (greatest es c) ≤ cond b (max e.level (greatest (rest ++ new ∷ []) c)) (greatest (rest ++ new ∷ []) c))
        (sym part) (omega (arith, h))
    by_test false stays false part h =
        subst (λ b. greatest es c ≤ cond b (max e.level (greatest (rest ++ new ∷ []) c)) (greatest (rest ++ new ∷ []) c)) (sym part) h

-- ---- sums

module _ {X : Type 0} (f g : X → ℕ) (up : (x : X) → f x ≤ g x) where
  pub sum_rises : (xs : List X) → sum_by f xs ≤ sum_by g xs
  sum_rises [] = omega arith
  sum_rises (x ∷ xs) = let h = sum_rises xs in omega (arith, h, up x, sum_by-cons f x xs, sum_by-cons g x xs)

  pub sum_grows : (xs : List X) (k : ℕ) (d : X) → k < length xs → f (get_or xs k d) < g (get_or xs k d) → sum_by f xs < sum_by g xs
  sum_grows [] k d within more = absurd (omega (arith, within))
  sum_grows (x ∷ xs) zero d within more = let h = sum_rises xs in omega (arith, h, more, sum_by-cons f x xs, sum_by-cons g x xs)
  sum_grows (x ∷ xs) (suc k) d within more =
      let h = sum_grows xs k d (omega (arith, within)) more in omega (arith, h, up x, sum_by-cons f x xs, sum_by-cons g x xs)

pub additions_never_fall : (vars : List ℕ) (clause : List ℕ) (level : ℕ) (kept : List Entry)
    → potential vars kept ≤ potential vars (added clause level kept)
additions_never_fall vars clause level kept =
    sum_rises (greatest kept) (greatest (added clause level kept)) (additions_never_lower clause level kept) (clauses_over vars)

-- what subsumes a part of a clause subsumes the clause
pub blocked_more : (kept : List Entry) (level : ℕ) (few many : List ℕ) → is_part few many ≡ true → is_blocked kept level few ≡ true
    → is_blocked kept level many ≡ true
blocked_more [] level few many part h = absurd cc
blocked_more (e ∷ es) level few many part h =
    ⊎_elim (λ here.
    let both = and_parts (nat_le level e.level) (is_part e.clause few) here in
    or_left (is_blocked_by level many e) (is_blocked es level many)
    (and_both (nat_le level e.level) (is_part e.clause many) both.0 (part_of_part e.clause few many both.1 part)))
    (λ later. or_right (is_blocked_by level many e) (is_blocked es level many) (blocked_more es level few many part later))
    (or_cases (is_blocked_by level few e) (is_blocked es level few) h)
  where
    and_both : (a b : Bool) → a ≡ true → b ≡ true → (a && b) ≡ true
    and_both true b e f = f
    and_both false b e f = e

-- one of the clauses over the variables that was not blocked makes the sum rise
pub addition_raises_at : (vars : List ℕ) (clause c : List ℕ) (level : ℕ) (kept : List Entry) → Contains (clauses_over vars) c
    → 1 ≤ level → is_part clause c ≡ true → is_blocked kept level c ≡ false → potential vars kept < potential vars (added clause level kept)
addition_raises_at vars clause c level kept among low part free =
    let new : Entry = record { clause = clause; level = level } in
    let less : greatest kept c < greatest (added clause level kept) c =
    let before = unblocked_is_lower kept level c low free in
    let after = last_counts (filter (λ e. not (takes_place new e)) kept) new c part in
    omega (arith, before, after) in
    let P : List ℕ → Type 0 = λ x. greatest kept x < greatest (added clause level kept) x in
    sum_grows (greatest kept) (greatest (added clause level kept)) (additions_never_lower clause level kept) (clauses_over vars)
    among.0 c among.1 (subst P (sym among.2) less)

-- a clause that was not blocked makes the sum rise
pub additions_raise : (vars clause : List ℕ) (level : ℕ) (kept : List Entry) → IsOver vars clause → 1 ≤ level
    → is_blocked kept level clause ≡ false → potential vars kept < potential vars (added clause level kept)
additions_raise vars clause level kept over low free =
    let c = listed vars clause in
    let part = part_of_listed vars clause over in
    addition_raises_at vars clause c level kept (listed_is_one vars clause) low part
    (false_from_ne_true (is_blocked kept level c) (λ t. both_ways (is_blocked kept level clause) free
    (blocked_more kept level c clause (listed_is_part vars clause) t)))
