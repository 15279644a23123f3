-- What a clause leaves open under a row, and a row under which it is assumed to be false.
use Rattle.std.proofs.Common.{◌≡◌, ℕ, ◌<◌, ◌⊎◌, Bool, true, false, not, cond, List, [], ◌∷◌, length, set, replicate, zero, suc, inl, inr, refl, sym, subst, ◌∙◌, ap, arith}
use Rattle.std.specs.List.{Contains}
use Rattle.std.proofs.lemmas.Bool.Decides.{eqb_tells}
use Rattle.std.proofs.lemmas.List.{length-set}
use Rattle.ja_base.specs.Literals.{bit, negated}
use Rattle.ja_base.proofs.LiteralLemmas.{negated_twice}
use Rattle.ja_base.proofs.ClauseLemmas.{Ascends, IsAbove}
use Rattle.ja_base.specs.Trails.{open_lits}
use Rattle.refute_check.specs.Lines.{assumed}
use Rattle.sat_plain.proofs.Members.{Contains-here, Contains-there, Contains-cases, Contains-none}
use Rattle.sat_plain.proofs.TrailLemmas.{bit_set_same, bit_set_other, bit_within}

-- ---- what a clause leaves open

pub no_open : (row : List Bool) (clause : List ℕ) → ((m : ℕ) → Contains clause m → bit row (negated m) ≡ true)
    → open_lits row clause ≡ []
no_open row [] h = refl
no_open row (l ∷ ls) h =
    let e : bit row (negated l) ≡ true = h l (Contains-here l ls) in
    ap (λ b. cond (not b) (l ∷ open_lits row ls) (open_lits row ls)) e ∙ no_open row ls (λ m k. h m (Contains-there l m ls k))

pub one_open : (row : List Bool) (l : ℕ) (clause : List ℕ) → Ascends clause → Contains clause l
    → bit row (negated l) ≡ false → ((m : ℕ) → Contains clause m → (m ≡ l → ⊥) → bit row (negated m) ≡ true)
    → open_lits row clause ≡ l ∷ []
one_open row l [] up has free h = absurd (Contains-none l has)
one_open row l (x ∷ xs) up has free h =
    elim (eqb_tells x l) [
      | inl same ↦
          let e : bit row (negated x) ≡ false = ap (λ k. bit row (negated k)) same.1 ∙ free in
          let rest : open_lits row xs ≡ [] =
          no_open row xs (λ m k. h m (Contains-there x m xs k) (λ q. above x xs m up.0 k (q ∙ sym same.1))) in
          ap (λ b. cond (not b) (x ∷ open_lits row xs) (open_lits row xs)) e ∙ ap (λ v. x ∷ v) rest
          ∙ ap (λ k. k ∷ []) same.1
      | inr other ↦
          let e : bit row (negated x) ≡ true = h x (Contains-here x xs) other.1 in
          let later : Contains xs l = elim (Contains-cases x l xs has) [ inl q ↦ absurd (other.1 q) | inr k ↦ k ] in
          ap (λ b. cond (not b) (x ∷ open_lits row xs) (open_lits row xs)) e
          ∙ one_open row l xs up.1 later free (λ m k. h m (Contains-there x m xs k))
    ]
  where
    above : (x : ℕ) (ys : List ℕ) (m : ℕ) → IsAbove x ys → Contains ys m → m ≡ x → ⊥
    above x [] m up k q = Contains-none m k
    above x (y ∷ ys) m up k q =
        elim (Contains-cases y m ys k) [ inl e ↦ omega (arith, up.0) | inr k' ↦ above x ys m up.1 k' q ]

-- ---- which literals are assumed

pub assumed_is_negated : (clause : List ℕ) (row : List Bool) (l : ℕ) → bit (assumed clause row) l ≡ true
    → Contains clause (negated l) ⊎ (bit row l ≡ true)
assumed_is_negated [] row l e = inr e
assumed_is_negated (x ∷ xs) row l e =
    elim (assumed_is_negated xs (set row (negated x) true) l e) [
      | inl k ↦ inl (Contains-there x (negated l) xs k)
      | inr f ↦ elim (eqb_tells l (negated x)) [
        | inl same ↦
            let q : x ≡ negated l = sym (negated_twice x) ∙ ap negated (sym same.1) in
            let P : ℕ → Type 0 = λ k. Contains (x ∷ xs) k in inl (subst P q (Contains-here x xs))
        | inr other ↦ inr (sym (bit_set_other row (negated x) l true other.1) ∙ f)
      ]
    ]

made_true : (row : List Bool) (n l : ℕ) → bit row l ≡ true → bit (set row n true) l ≡ true
made_true row n l e =
    elim (eqb_tells l n) [
      | inl same ↦
          let P : ℕ → Type 0 = λ k. k < length row in
          ap (bit (set row n true)) same.1 ∙ bit_set_same row n true (subst P same.1 (bit_within row l e))
      | inr other ↦ bit_set_other row n l true other.1 ∙ e
    ]

pub stays_assumed : (clause : List ℕ) (row : List Bool) (l : ℕ) → bit row l ≡ true → bit (assumed clause row) l ≡ true
stays_assumed [] row l e = e
stays_assumed (x ∷ xs) row l e = stays_assumed xs (set row (negated x) true) l (made_true row (negated x) l e)

pub negated_is_assumed : (clause : List ℕ) (row : List Bool) (m : ℕ) → Contains clause m → negated m < length row
    → bit (assumed clause row) (negated m) ≡ true
negated_is_assumed [] row m has less = absurd (Contains-none m has)
negated_is_assumed (x ∷ xs) row m has less =
    elim (Contains-cases x m xs has) [
      | inl q ↦
          stays_assumed xs (set row (negated x) true) (negated m)
          (ap (λ k. bit (set row (negated x) true) (negated k)) (sym q)
          ∙ bit_set_same row (negated x) true (let P : ℕ → Type 0 = λ k. negated k < length row in subst P (sym q) less))
      | inr k ↦
          negated_is_assumed xs (set row (negated x) true) m k (omega (arith, length-set row (negated x) true))
    ]

pub length_assumed : (clause : List ℕ) (row : List Bool) → length (assumed clause row) ≡ length row
length_assumed [] row = refl
length_assumed (x ∷ xs) row = length_assumed xs (set row (negated x) true) ∙ length-set row (negated x) true

pub bit_unknown : (n l : ℕ) → bit (replicate n false) l ≡ true → ⊥
bit_unknown zero l e = cc
bit_unknown (suc n) zero e = cc
bit_unknown (suc n) (suc l) e = bit_unknown n l e
