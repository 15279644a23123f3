-- Ascending lists with the same members are the same, so there is one set of literals.
use Rattle.std.proofs.Common.{◌≡◌, ℕ, zero, suc, ◌<◌, ◌⊎◌, inl, inr, List, [], ◌∷◌, refl, sym, ap, ◌∙◌, arith}
use Rattle.std.specs.Prelude.{Contains}
use Rattle.std.specs.List.Sorted.{IsStrictlyIncreasing}
use Rattle.ja_base.specs.Clauses.{IsSetOf}
use Rattle.ja_base.proofs.ClauseLemmas.{IsAbove, Ascends, Ascends-from_increasing}

first : (x : ℕ) (xs : List ℕ) → Contains (x ∷ xs) x
first x xs = (0, omega arith, refl)

later : (x l : ℕ) (xs : List ℕ) → Contains xs l → Contains (x ∷ xs) l
later x l xs h = (suc h.0, omega (arith, h.1), h.2)

first_or_later : (x l : ℕ) (xs : List ℕ) → Contains (x ∷ xs) l → (x ≡ l) ⊎ Contains xs l
first_or_later x l xs (zero, below, is) = inl is
first_or_later x l xs (suc k, below, is) = inr (k, omega (arith, below), is)

above : (x l : ℕ) (xs : List ℕ) → IsAbove x xs → Contains xs l → x < l
above x l [] h c = absurd (omega (arith, c.1))
above x l (y ∷ ys) h c =
    elim (first_or_later y l ys c) [
      | inl e ↦ omega (arith, h.0)
      | inr d ↦ above x l ys h.1 d
    ]

abbrev pub IsPart : List ℕ → List ℕ → Type 0
IsPart xs ys = (l : ℕ) → Contains xs l → Contains ys l

same_first : (x y : ℕ) (xs ys : List ℕ) → IsAbove x xs → IsAbove y ys → (x ≡ y) ⊎ Contains xs y → (y ≡ x) ⊎ Contains ys x → x ≡ y
same_first x y xs ys g h (inl e) q = e
same_first x y xs ys g h (inr c) (inl e) = sym e
same_first x y xs ys g h (inr c) (inr d) = let low = above x y xs g c in let high =
    above y x ys h d in absurd (omega (arith, low, high))

part_behind : (x y : ℕ) (xs ys : List ℕ) → x ≡ y → IsAbove x xs → IsPart (x ∷ xs) (y ∷ ys) → IsPart xs ys
part_behind x y xs ys e g part l c =
    elim (first_or_later y l ys (part l (later x l xs c))) [
      | inl same ↦ let low = above x l xs g c in absurd (omega (arith, low))
      | inr d ↦ d
    ]

pub same_members : (xs ys : List ℕ) → Ascends xs → Ascends ys → IsPart xs ys → IsPart ys xs → xs ≡ ys
same_members [] [] g h p q = refl
same_members [] (y ∷ ys) g h p q = let c = q y (first y ys) in absurd (omega (arith, c.1))
same_members (x ∷ xs) [] g h p q = let c = p x (first x xs) in absurd (omega (arith, c.1))
same_members (x ∷ xs) (y ∷ ys) g h p q =
    let same = same_first x y xs ys g.0 h.0 (first_or_later x y xs (q y (first y ys)))
    (first_or_later y x ys (p x (first x xs))) in
    let others = same_members xs ys g.1 h.1 (part_behind x y xs ys same g.0 p) (part_behind y x ys xs (sym same) h.0 q) in
    ap (λ (k : ℕ). k ∷ xs) same ∙ ap (λ (ks : List ℕ). y ∷ ks) others

pub set_of_ascending : (lits clause : List ℕ) → IsStrictlyIncreasing lits → IsSetOf lits clause → clause ≡ lits
set_of_ascending lits clause up set =
    same_members clause lits (Ascends-from_increasing clause set.ascends) (Ascends-from_increasing lits up)
    (λ l. (set.members l).0) (λ l. (set.members l).1)
