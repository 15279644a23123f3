-- After a line was judged no literal is known to be true, as before.
use Rattle.std.proofs.Common.{◌≡◌, ℕ, ◌+◌, ◌*◌, ◌⊎◌, Bool, true, false, not, cond, List, [], ◌∷◌, length, set, replicate, map, Option, Some, None, slice_get, suc, zero, inl, inr, refl, sym, subst, ◌∙◌, ap, arith}
use Rattle.std.proofs.Math.ListN.{length-set}
use Rattle.ja_base.specs.Literals.{bit, negated}
use Rattle.refute_check.specs.declared.found.Found.{Found}
use Rattle.refute_check.specs.declared.found.Found.TheVariants.{False, Forces, Other}
use Rattle.ja_base.specs.Trails.{open_lits}
use Rattle.refute_check.specs.Lines.{found_of, found_at, judged, outcome, assumed, withdrawn, cleared, cleared_at, released, unknown}

-- l is one of these
abbrev In : ℕ → List ℕ → Type 0
In i [] = ⊥
In i (l ∷ ls) = (i ≡ l) ⊎ In i ls

abbrev InAt : ℕ → Option (List ℕ) → Type 0
InAt i None = ⊥
InAt i (Some clause) = In i clause

-- l stands in a hinted clause
abbrev InHinted : List (List ℕ) → List ℕ → ℕ → Type 0
InHinted clauses [] i = ⊥
InHinted clauses (h ∷ hints) i = InAt i (slice_get clauses h) ⊎ InHinted clauses hints i

pub bit_unknown : (n l : ℕ) → bit (replicate n false) l ≡ false
bit_unknown zero l = refl
bit_unknown (suc n) zero = refl
bit_unknown (suc n) (suc l) = bit_unknown n l

kept_by_false : (row : List Bool) (l i : ℕ) → bit (set row l false) i ≡ true → (i ≡ l → ⊥) × (bit row i ≡ true)
kept_by_false [] l i e = absurd (cc)
kept_by_false (b ∷ bs) zero zero e = absurd (cc)
kept_by_false (b ∷ bs) zero (suc i) e = (λ q. omega arith, e)
kept_by_false (b ∷ bs) (suc l) zero e = (λ q. omega arith, e)
kept_by_false (b ∷ bs) (suc l) (suc i) e =
    let r = kept_by_false bs l i e in (λ q. r.0 (omega arith), r.1)

made_true : (row : List Bool) (l i : ℕ) → bit (set row l true) i ≡ true → (i ≡ l) ⊎ (bit row i ≡ true)
made_true [] l i e = inr e
made_true (b ∷ bs) zero zero e = inl refl
made_true (b ∷ bs) zero (suc i) e = inr e
made_true (b ∷ bs) (suc l) zero e = inr e
made_true (b ∷ bs) (suc l) (suc i) e = elim (made_true bs l i e) [ inl q ↦ inl (ap suc q) | inr f ↦ inr f ]

cleared_keeps : (lits : List ℕ) (row : List Bool) (i : ℕ) → bit (cleared lits row) i ≡ true
    → (In i lits → ⊥) × (bit row i ≡ true)
cleared_keeps [] row i e = (λ h. h, e)
cleared_keeps (l ∷ ls) row i e =
    let r = cleared_keeps ls (set row l false) i e in
    let k = kept_by_false row l i r.1 in
    (λ h. elim h [ inl q ↦ k.0 q | inr g ↦ r.0 g ], k.1)

cleared_at_keeps : (o : Option (List ℕ)) (row : List Bool) (i : ℕ) → bit (cleared_at o row) i ≡ true
    → (InAt i o → ⊥) × (bit row i ≡ true)
cleared_at_keeps None row i e = (λ h. h, e)
cleared_at_keeps (Some clause) row i e = cleared_keeps clause row i e

released_keeps : (clauses : List (List ℕ)) (hints : List ℕ) (row : List Bool) (i : ℕ)
    → bit (released clauses hints row) i ≡ true → (InHinted clauses hints i → ⊥) × (bit row i ≡ true)
released_keeps clauses [] row i e = (λ h. h, e)
released_keeps clauses (h ∷ hints) row i e =
    let r = released_keeps clauses hints (cleared_at (slice_get clauses h) row) i e in
    let k = cleared_at_keeps (slice_get clauses h) row i r.1 in
    (λ h. elim h [ inl q ↦ k.0 q | inr g ↦ r.0 g ], k.1)

withdrawn_keeps : (lits : List ℕ) (row : List Bool) (i : ℕ) → bit (withdrawn lits row) i ≡ true
    → (In i (map negated lits) → ⊥) × (bit row i ≡ true)
withdrawn_keeps [] row i e = (λ h. h, e)
withdrawn_keeps (l ∷ ls) row i e =
    let r = withdrawn_keeps ls (set row (negated l) false) i e in
    let k = kept_by_false row (negated l) i r.1 in
    (λ h. elim h [ inl q ↦ k.0 q | inr g ↦ r.0 g ], k.1)

assumed_within : (lits : List ℕ) (row : List Bool) (i : ℕ) → bit (assumed lits row) i ≡ true
    → In i (map negated lits) ⊎ (bit row i ≡ true)
assumed_within [] row i e = inr e
assumed_within (l ∷ ls) row i e =
    elim (assumed_within ls (set row (negated l) true) i e) [
      | inl h ↦ inl (inr h)
      | inr f ↦ elim (made_true row (negated l) i f) [ inl q ↦ inl (inl q) | inr g ↦ inr g ]
    ]

-- a literal that is forced stands in the clause
abbrev ForcedIn : Found → (ℕ → Type 0) → Type 0
ForcedIn False P = Unit {0}
ForcedIn (Forces l) P = P l
ForcedIn Other P = Unit {0}

open_in : (row : List Bool) (clause : List ℕ) (i : ℕ) → In i (open_lits row clause) → In i clause
open_in row [] i h = h
open_in row (l ∷ ls) i h = go (bit row (negated l)) (open_in row ls i) h
  where
    go : (b : Bool) → (In i (open_lits row ls) → In i ls) → In i (cond (not b) (l ∷ open_lits row ls) (open_lits row ls))
        → (i ≡ l) ⊎ In i ls
    go true later h = inr (later h)
    go false later h = elim h [ inl q ↦ inl q | inr g ↦ inr (later g) ]

found_in : (row : List Bool) (lits : List ℕ) (P : ℕ → Type 0) → ((i : ℕ) → In i lits → P i)
    → ForcedIn (found_of row lits) P
found_in row [] P h = tt
found_in row (l ∷ []) P h = go (bit row l)
  where
    go : (b : Bool) → ForcedIn (cond b Other (Forces l)) P
    go true = tt
    go false = h l (inl refl)
found_in row (l ∷ m ∷ ls) P h = tt

found_at_in : (row : List Bool) (o : Option (List ℕ)) → ForcedIn (found_at row o) (λ i. InAt i o)
found_at_in row None = tt
found_at_in row (Some clause) = found_in row (open_lits row clause) (λ i. In i clause) (open_in row clause)

outcome_within : (clauses : List (List ℕ)) (hints : List ℕ) (row : List Bool) (at i : ℕ)
    → bit (outcome clauses hints row at).0 i ≡ true → InHinted clauses hints i ⊎ (bit row i ≡ true)
outcome_within clauses [] row at i e = inr e
outcome_within clauses (h ∷ hints) row at i e =
    go (found_at row (slice_get clauses h)) (found_at_in row (slice_get clauses h))
    (λ next. outcome_within clauses hints next (at + 1) i) e
  where
    last : (hints : List ℕ) (next : List Bool → List Bool × Option ℕ)
        → bit (judged False row at hints next).0 i ≡ true → bit row i ≡ true
    last [] next e = e
    last (k ∷ ks) next e = e

    go : (f : Found) → ForcedIn f (λ i. InAt i (slice_get clauses h))
        → ((next : List Bool) → bit (outcome clauses hints next (at + 1)).0 i ≡ true
        → InHinted clauses hints i ⊎ (bit next i ≡ true))
        → bit (judged f row at hints (λ next. outcome clauses hints next (at + 1))).0 i ≡ true
        → (InAt i (slice_get clauses h) ⊎ InHinted clauses hints i) ⊎ (bit row i ≡ true)
    go False p later e = inr (last hints (λ next. outcome clauses hints next (at + 1)) e)
    go (Forces l) p later e =
        elim (later (set row l true) e) [
          | inl g ↦ inl (inr g)
          | inr f ↦ elim (made_true row l i f) [
            | inl q ↦ let P : ℕ → Type 0 = λ k. InAt k (slice_get clauses h) in inl (inl (subst P (sym q) p))
            | inr g ↦ inr g
          ]
        ]
    go Other p later e = inr e

length_assumed : (lits : List ℕ) (row : List Bool) → length (assumed lits row) ≡ length row
length_assumed [] row = refl
length_assumed (l ∷ ls) row = length_assumed ls (set row (negated l) true) ∙ length-set row (negated l) true

length_withdrawn : (lits : List ℕ) (row : List Bool) → length (withdrawn lits row) ≡ length row
length_withdrawn [] row = refl
length_withdrawn (l ∷ ls) row = length_withdrawn ls (set row (negated l) false) ∙ length-set row (negated l) false

length_cleared : (lits : List ℕ) (row : List Bool) → length (cleared lits row) ≡ length row
length_cleared [] row = refl
length_cleared (l ∷ ls) row = length_cleared ls (set row l false) ∙ length-set row l false

length_cleared_at : (o : Option (List ℕ)) (row : List Bool) → length (cleared_at o row) ≡ length row
length_cleared_at None row = refl
length_cleared_at (Some clause) row = length_cleared clause row

length_released : (clauses : List (List ℕ)) (hints : List ℕ) (row : List Bool)
    → length (released clauses hints row) ≡ length row
length_released clauses [] row = refl
length_released clauses (h ∷ hints) row =
    length_released clauses hints (cleared_at (slice_get clauses h) row) ∙ length_cleared_at (slice_get clauses h) row

none_true : (row : List Bool) (n : ℕ) → length row ≡ n → ((i : ℕ) → bit row i ≡ true → ⊥) → row ≡ replicate n false
none_true [] zero e h = refl
none_true [] (suc n) e h = absurd (omega arith)
none_true (b ∷ bs) zero e h = absurd (omega arith)
none_true (true ∷ bs) (suc n) e h = absurd (h 0 refl)
none_true (false ∷ bs) (suc n) e h = ap (λ v. false ∷ v) (none_true bs n (omega arith) (λ i f. h (suc i) f))

-- what is left of a judged line
pub undone : (vars : ℕ) (clauses : List (List ℕ)) (clause hints : List ℕ) (last : List Bool)
    → last ≡ (outcome clauses hints (assumed clause (unknown vars)) 0).0 → length last ≡ 2 * vars
    → withdrawn clause (released clauses hints last) ≡ unknown vars
undone vars clauses clause hints last is width =
    none_true (withdrawn clause (released clauses hints last)) (2 * vars)
    (length_withdrawn clause (released clauses hints last) ∙ length_released clauses hints last ∙ width) wrong
  where
    wrong : (i : ℕ) → bit (withdrawn clause (released clauses hints last)) i ≡ true → ⊥
    wrong i e =
        let r = withdrawn_keeps clause (released clauses hints last) i e in
        let k = released_keeps clauses hints last i r.1 in
        let there : bit (outcome clauses hints (assumed clause (unknown vars)) 0).0 i ≡ true =
        ap (λ v. bit v i) (sym is) ∙ k.1 in
        elim (outcome_within clauses hints (assumed clause (unknown vars)) 0 i there) [
          | inl h ↦ k.0 h
          | inr f ↦ elim (assumed_within clause (unknown vars) i f) [
            | inl h ↦ r.0 h
            | inr g ↦ let no : bit (unknown vars) i ≡ false = bit_unknown (2 * vars) i in cc
          ]
        ]
