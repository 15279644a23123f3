-- Lists that are made from a range, place by place.
use Rattle.std.proofs.Common.{◌≡◌, ℕ, zero, suc, ◌+◌, ◌<◌, ◌≤◌, Bool, true, false, eqb, List, [], ◌∷◌, ◌++◌, length, map, refl, ap, sym, subst, ◌∙◌, inl, inr, append_assoc, arith}
use Rattle.std.specs.Prelude.{◌||◌, slice_index_or, Contains}
use Rattle.std.specs.List.{AllByRecursion, flat_map, list_any, range_with_len}
use Rattle.std.proofs.lemmas.Bool.{cases_lt}
use Rattle.std.proofs.lemmas.Bool.Decides.{nat_tests}
use Rattle.std.proofs.lemmas.List.{append-nil}

-- ---- a text that grows by a line for each place

one_more : (f : ℕ → List ℕ) (a n j : ℕ) → a + n ≡ j
    → flat_map f (range_with_len a (suc n)) ≡ flat_map f (range_with_len a n) ++ f j
one_more f a zero j e =
    let same : a ≡ j = omega arith in
    append-nil (f a) ∙ ap f same
one_more f a (suc n) j e =
    ap (λ (t : List ℕ). f a ++ t) (one_more f (a + 1) n j (omega arith))
    ∙ sym (append_assoc (f a) (flat_map f (range_with_len (a + 1) n)) (f j))

-- the text has the lines of the first n places, and one is added
pub grows : (f : ℕ → List ℕ) (a n m j : ℕ) (before now after : List ℕ) → a + n ≡ j → m ≡ n + 1
    → now ≡ before ++ flat_map f (range_with_len a n) → after ≡ now ++ f j → after ≡ before ++ flat_map f (range_with_len a m)
grows f a n m j before now after place more has adds =
    let next : suc n ≡ m = omega arith in
    adds ∙ ap (λ (t : List ℕ). t ++ f j) has
    ∙ append_assoc before (flat_map f (range_with_len a n)) (f j)
    ∙ ap (λ (t : List ℕ). before ++ t) (sym (one_more f a n j place))
    ∙ ap (λ (k : ℕ). before ++ flat_map f (range_with_len a k)) next

-- ---- lists

pub all_items : {X : Type 0} (Q : X → Type 0) (f : ℕ → X) (a k : ℕ) → ((i : ℕ) → a ≤ i → i < a + k → Q (f i))
    → AllByRecursion Q (map f (range_with_len a k))
all_items Q f a zero h = tt
all_items Q f a (suc k) h =
    (h a (omega arith) (omega arith), all_items Q f (a + 1) k (λ i low high. h i (omega arith) (omega arith)))

held_at : {X : Type 0} (P : X → Type 0) (xs : List X) (x : X) → AllByRecursion P xs → (k : ℕ) → k < length xs
    → slice_index_or xs k x ≡ x → P x
held_at P [] x h k within e = absurd (omega arith)
held_at P (y ∷ ys) x h zero within e = subst P e h.0
held_at P (y ∷ ys) x h (suc k) within e = held_at P ys x h.1 k (omega arith) e

pub all_held : {X : Type 0} (P : X → Type 0) (xs : List X) (x : X) → AllByRecursion P xs → Contains xs x → P x
all_held P xs x h has = held_at P xs x h has.0 has.1 has.2

-- the items have numbers of a range
pub numbered : {X : Type 0} (v : X → ℕ) (f : ℕ → X) (a b k : ℕ) → ((i j : ℕ) → i + b ≡ j + a → v (f i) ≡ j)
    → map v (map f (range_with_len a k)) ≡ range_with_len b k
numbered v f a b zero h = refl
numbered v f a b (suc k) h =
    ap (λ (n : ℕ). n ∷ map v (map f (range_with_len (a + 1) k))) (h a b (omega arith))
    ∙ ap (λ (ns : List ℕ). b ∷ ns) (numbered v f (a + 1) (b + 1) k (λ i j e. h i j (omega arith)))

-- two ranges, one behind the other
pub joined : (a m k b s : ℕ) → b ≡ a + m → s ≡ m + k → range_with_len a m ++ range_with_len b k ≡ range_with_len a s
joined a zero k b s e f =
    let begins : b ≡ a = omega arith in
    let long : k ≡ s = omega arith in
    ap (λ (x : ℕ). range_with_len x k) begins ∙ ap (range_with_len a) long
joined a (suc m) k b zero e f = absurd (omega arith)
joined a (suc m) k b (suc s) e f = ap (λ (ns : List ℕ). a ∷ ns) (joined (a + 1) m k b s (omega arith) (omega arith))

or_right : (b c : Bool) → c ≡ true → (b || c) ≡ true
or_right true c e = refl
or_right false c e = e

or_left : (b c : Bool) → b ≡ true → (b || c) ≡ true
or_left true c e = refl
or_left false c e = absurd cc

-- the number is in the range
pub in_range : (a k v : ℕ) → a ≤ v → v < a + k → list_any (λ u. eqb u v) (range_with_len a k) ≡ true
in_range a zero v low high = absurd (omega arith)
in_range a (suc k) v low high =
    elim (cases_lt a v) [
      | inl above ↦ or_right (eqb a v) (list_any (λ u. eqb u v) (range_with_len (a + 1) k))
          (in_range (a + 1) k v (omega arith) (omega arith))
      | inr equal ↦ or_left (eqb a v) (list_any (λ u. eqb u v) (range_with_len (a + 1) k)) (grind (arith, nat_tests))
    ]
