-- What an accepted line says of each row under which the clauses before it hold.
use Rattle.std.proofs.Common.{◌≡◌, ℕ, ◌+◌, ◌*◌, ◌||◌, Bool, true, false, not, cond, inl, inr, List, [], ◌∷◌, set, replicate, Option, Some, None, slice_get, refl, sym, subst, ◌∙◌, ap, arith}
use Rattle.std.specs.List.{list_any}
use Rattle.std.proofs.lemmas.List.{get_or-set_other}
use Rattle.std.proofs.lemmas.Option.{get_or_from_slice_get, slice_get_within}
use Rattle.std.proofs.lemmas.Bool.Decides.{eqb_tells}
use Rattle.ja_base.specs.Literals.{bit, negated, value, SatisfiedBy, AllSatisfiedBy}
use Rattle.ja_base.proofs.LiteralLemmas.{value_negated}
use Rattle.refute_check.specs.declared.found.Found.{Found}
use Rattle.refute_check.specs.declared.found.Found.TheVariants.{False, Forces, Other}
use Rattle.ja_base.specs.Trails.{open_lits}
use Rattle.refute_check.specs.Lines.{found_of, found_at, judged, outcome, assumed, unknown, is_fit, refusal}
use Rattle.refute_check.specs.Checked.{FollowsOne}
use Rattle.refute_check.proofs.Undone.{bit_unknown}

-- each literal that is known to be true is 1 under v
pub record Agrees (v row : List Bool) : Type 0 where
  pub at : (l : ℕ) → bit row l ≡ true → value v l ≡ true

Agrees-set : (v row : List Bool) (l : ℕ) → value v l ≡ true → Agrees v row → Agrees v (set row l true)
Agrees-set v row l one h = record {
  at = λ m e.
      elim (eqb_tells m l) [
        | inl same ↦ let P : ℕ → Type 0 = λ k. value v k ≡ true in subst P (sym same.1) one
        | inr other ↦ h.at m (sym (get_or-set_other row l m true false other.1) ∙ e)
      ];
}

-- what is found under a row that agrees with v, in a clause that holds under v
abbrev Means : List Bool → Found → Type 0
Means v False = ⊥
Means v (Forces l) = value v l ≡ true
Means v Other = Unit {0}

-- the literal that is 1 is not false
open_holds : (v row : List Bool) (clause : List ℕ) → Agrees v row → SatisfiedBy (value v) clause
    → SatisfiedBy (value v) (open_lits row clause)
open_holds v row [] h one = one
open_holds v row (l ∷ ls) h one = go (bit row (negated l)) refl (open_holds v row ls h)
  where
    pick : (b : Bool) → (list_any (value v) ls ≡ true → list_any (value v) (open_lits row ls) ≡ true)
        → (b || list_any (value v) ls) ≡ true → (b || list_any (value v) (open_lits row ls)) ≡ true
    pick true later e = refl
    pick false later e = later e

    drop_false : (b : Bool) → not b ≡ true → (b || list_any (value v) ls) ≡ true → list_any (value v) ls ≡ true
    drop_false true wrong e = cc
    drop_false false wrong e = e

    go : (b : Bool) → bit row (negated l) ≡ b
        → (list_any (value v) ls ≡ true → list_any (value v) (open_lits row ls) ≡ true)
        → list_any (value v) (cond (not b) (l ∷ open_lits row ls) (open_lits row ls)) ≡ true
    go true e later = later (drop_false (value v l) (sym (value_negated v l) ∙ h.at (negated l) e) one)
    go false e later = pick (value v l) later one

found_means : (v row : List Bool) (lits : List ℕ) → SatisfiedBy (value v) lits → Means v (found_of row lits)
found_means v row [] one = cc
found_means v row (l ∷ []) one = go (bit row l)
  where
    go : (b : Bool) → Means v (cond b Other (Forces l))
    go true = tt
    go false = let e : (value v l || false) ≡ true = one in grind arith
found_means v row (l ∷ m ∷ ls) one = tt

found_at_means : (v row : List Bool) (clauses : List (List ℕ)) (h : ℕ) → Agrees v row
    → AllSatisfiedBy (value v) clauses → Means v (found_at row (slice_get clauses h))
found_at_means v row clauses h agrees all = go (slice_get clauses h) refl
  where
    go : (o : Option (List ℕ)) → slice_get clauses h ≡ o → Means v (found_at row o)
    go None e = tt
    go (Some c) e =
        let P : List ℕ → Type 0 = SatisfiedBy (value v) in
        let here : SatisfiedBy (value v) c =
        subst P (get_or_from_slice_get clauses h c [] e) (all h [] (slice_get_within clauses h c e)) in
        found_means v row (open_lits row c) (open_holds v row c agrees here)

-- no clause becomes false under a row that agrees with v, where all hold under v
outcome_sound : (v : List Bool) (clauses : List (List ℕ)) (hints : List ℕ) (row : List Bool) (at : ℕ) → Agrees v row
    → AllSatisfiedBy (value v) clauses → (outcome clauses hints row at).1 ≡ None → ⊥
outcome_sound v clauses [] row at agrees all e = cc
outcome_sound v clauses (h ∷ hints) row at agrees all e =
    go (found_at row (slice_get clauses h)) (found_at_means v row clauses h agrees all)
    (λ next agrees. outcome_sound v clauses hints next (at + 1) agrees all) e
  where
    go : (f : Found) → Means v f
        → ((next : List Bool) → Agrees v next → (outcome clauses hints next (at + 1)).1 ≡ None → ⊥)
        → (judged f row at hints (λ next. outcome clauses hints next (at + 1))).1 ≡ None → ⊥
    go False m later e = m
    go (Forces l) m later e = later (set row l true) (Agrees-set v row l m agrees) e
    go Other m later e = cc

assumed_agrees : (v : List Bool) (lits : List ℕ) (row : List Bool) → Agrees v row → list_any (value v) lits ≡ false
    → Agrees v (assumed lits row)
assumed_agrees v [] row h wrong = h
assumed_agrees v (l ∷ ls) row h wrong =
    let gone : value v l ≡ false = grind arith in
    let later : list_any (value v) ls ≡ false = grind arith in
    let one : value v (negated l) ≡ true = value_negated v l ∙ ap not gone in
    assumed_agrees v ls (set row (negated l) true) (Agrees-set v row (negated l) one h) later

unknown_agrees : (v : List Bool) (n : ℕ) → Agrees v (replicate n false)
unknown_agrees v n = record { at = λ l e. let f : bit (replicate n false) l ≡ false = bit_unknown n l in cc }

-- an accepted line holds where all clauses hold
pub accepted_follows : (vars : ℕ) (clauses : List (List ℕ)) (clause hints : List ℕ)
    → refusal vars clauses clause hints ≡ None → FollowsOne clauses clause
accepted_follows vars clauses clause hints e v all = go (list_any (value v) clause) refl
  where
    judge : (fit : Bool) → cond fit (outcome clauses hints (assumed clause (unknown vars)) 0).1 (Some 0) ≡ None
        → list_any (value v) clause ≡ false → ⊥
    judge true e wrong =
        outcome_sound v clauses hints (assumed clause (unknown vars)) 0
        (assumed_agrees v clause (unknown vars) (unknown_agrees v (2 * vars)) wrong) all e
    judge false e wrong = cc

    go : (b : Bool) → list_any (value v) clause ≡ b → list_any (value v) clause ≡ true
    go true e' = e'
    go false e' = absurd (judge (is_fit vars clause) e e')
