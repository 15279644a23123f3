-- What a clause rests on: a line that is accepted follows from the clauses that its hints name.
use Rattle.std.proofs.Common.{◌≡◌, ℕ, ◌+◌, ◌<◌, ◌≤◌, ◌||◌, Bool, true, false, not, cond, zero, suc, List, [], ◌∷◌, length, get_or, set, take, Some, None, slice_get, refl, sym, subst, ◌∙◌, ap, arith}
use Rattle.std.specs.List.{All}
use Rattle.std.proofs.lemmas.List.{take_more, get_or-take, length-take}
use Rattle.std.proofs.lemmas.List.Elements.{All-nil, All-cons, All-head, All-tail, All-push}
use Rattle.ja_base.specs.Literals.{value, SatisfiedBy, AllSatisfiedBy}
use Rattle.ja_base.proofs.LiteralLemmas.{value_negated}
use Rattle.refute_check.specs.declared.found.Found.{Found}
use Rattle.refute_check.specs.declared.found.Found.TheVariants.{False, Forces, Other}
use Rattle.refute_check.specs.Lines.{found_at, judged, outcome, refusal, is_fit, assumed, unknown}
use Rattle.refute_check.proofs.Sound.{accepted_follows}

-- ---- the first elements of a list

pub all_next : (P : ℕ → Type 0) (xs : List ℕ) (n d : ℕ) → n < length xs → P (get_or xs n d) → All P (take n xs)
    → All P (take (n + 1) xs)
all_next P xs n d less here h =
    let Q : List ℕ → Type 0 = All P in subst Q (sym (take_more xs n d less)) (All-push P (take n xs) (get_or xs n d) h here)

pub all_taken : (P : ℕ → Type 0) (xs : List ℕ) (n : ℕ) → length xs ≤ n → All P (take n xs) → All P xs
all_taken P xs n less h = λ k d within.
    subst P (get_or-take n xs k d (omega arith)) (h k d (omega (arith, length-take n xs)))

-- ---- hints

-- a clause that always holds
either : List ℕ
either = 0 ∷ 1 ∷ []

either_holds : (v : List Bool) → SatisfiedBy (value v) either
unfolding either
either_holds v = go (value v 0) (value v 1) (value_negated v 0)
  where
    go : (a b : Bool) → b ≡ not a → (a || (b || false)) ≡ true
    go true b e = refl
    go false true e = refl
    go false false e = cc

-- each clause whose number is set gives way to one that always holds
masked : (ℕ → Bool) → List (List ℕ) → List (List ℕ)
masked t [] = []
masked t (c ∷ cs) = cond (t 0) either c ∷ masked (λ n. t (suc n)) cs

masked_at : (t : ℕ → Bool) (list : List (List ℕ)) (n : ℕ) → t n ≡ false → slice_get (masked t list) n ≡ slice_get list n
unfolding masked
masked_at t [] n e = refl
masked_at t (c ∷ cs) zero e = ap (λ b. Some (cond b either c)) e
masked_at t (c ∷ cs) (suc n) e = masked_at (λ k. t (suc k)) cs n e

masked_holds : (v : List Bool) (t : ℕ → Bool) (list : List (List ℕ))
    → ((n : ℕ) (c : List ℕ) → slice_get list n ≡ Some c → t n ≡ false → SatisfiedBy (value v) c)
    → AllSatisfiedBy (value v) (masked t list)
unfolding masked
masked_holds v t [] h = All-nil (SatisfiedBy (value v))
masked_holds v t (c ∷ cs) h =
    All-cons (SatisfiedBy (value v)) (cond (t 0) either c) (masked (λ n. t (suc n)) cs) (go (t 0) (h 0 c refl))
    (masked_holds v (λ n. t (suc n)) cs (λ n d e f. h (suc n) d e f))
  where
    go : (b : Bool) → (b ≡ false → SatisfiedBy (value v) c) → SatisfiedBy (value v) (cond b either c)
    go true k = either_holds v
    go false k = k refl

-- the clauses of other numbers do not matter
outcome_masked : (t : ℕ → Bool) (list : List (List ℕ)) (hints : List ℕ) (row : List Bool) (at : ℕ)
    → All (λ n. t n ≡ false) hints → (outcome (masked t list) hints row at).1 ≡ (outcome list hints row at).1
outcome_masked t list [] row at h = refl
outcome_masked t list (n ∷ ns) row at h =
    ap (λ o. (judged (found_at row o) row at ns (λ next. outcome (masked t list) ns next (at + 1))).1)
    (masked_at t list n (All-head (λ k. t k ≡ false) n ns h))
    ∙ go ns (found_at row (slice_get list n))
    (λ next. outcome_masked t list ns next (at + 1) (All-tail (λ k. t k ≡ false) n ns h))
  where
    go : (left : List ℕ) (f : Found)
        → ((next : List Bool) → (outcome (masked t list) ns next (at + 1)).1 ≡ (outcome list ns next (at + 1)).1)
        → (judged f row at left (λ next. outcome (masked t list) ns next (at + 1))).1
        ≡ (judged f row at left (λ next. outcome list ns next (at + 1))).1
    go [] False k = refl
    go (l ∷ ls) False k = refl
    go left (Forces l) k = k (set row l true)
    go left Other k = refl

-- an accepted line holds where the clauses do that its hints name
pub named_follows : (vars : ℕ) (t : ℕ → Bool) (list : List (List ℕ)) (clause hints : List ℕ) (v : List Bool)
    → refusal vars list clause hints ≡ None → All (λ n. t n ≡ false) hints
    → ((n : ℕ) (c : List ℕ) → slice_get list n ≡ Some c → t n ≡ false → SatisfiedBy (value v) c)
    → SatisfiedBy (value v) clause
named_follows vars t list clause hints v e h clean =
    accepted_follows vars (masked t list) clause hints
    (ap (λ o. cond (is_fit vars clause) o (Some 0)) (outcome_masked t list hints (assumed clause (unknown vars)) 0 h) ∙ e)
    v (masked_holds v t list clean)
