-- No greatest level falls by a move up, and none is above the top.
use Rattle.std.proofs.Common.{◌≡◌, ℕ, suc, zero, ◌≤◌, max, Bool, true, false, cond, List, [], ◌∷◌, slice_get, Some, sym, subst, arith}
use Rattle.std.specs.Prelude.{All}
use Rattle.std.proofs.lemmas.List.Elements.{All-head, All-tail}
use Rattle.std.proofs.lemmas.Option.{same_Some}
use Rattle.ja_base.specs.Clauses.{is_part}
use Rattle.ic3_frames.specs.Levels.{Entry, moved}
use Rattle.ic3_frames.specs.Sums.{greatest, clauses_over, potential}
use Rattle.ic3_frames.proofs.SumLemmas.{sum_rises}

higher_there : (b : Bool) (l level g h : ℕ) → l ≤ level → g ≤ h → cond b (max l g) g ≤ cond b (max level h) h
higher_there true l level g h up rest = omega (arith, up, rest)
higher_there false l level g h up rest = rest

pub moves_never_lower : (kept : List Entry) (at : ℕ) (e : Entry) (level : ℕ) (c : List ℕ) → slice_get kept at ≡ Some e → e.level ≤ level
    → greatest kept c ≤ greatest (moved kept at e level) c
moves_never_lower [] at e level c is up = absurd cc
moves_never_lower (x ∷ xs) zero e level c is up =
    let same : x ≡ e = same_Some x e is in
    subst (λ (y : Entry). greatest (y ∷ xs) c ≤ greatest (record { clause = e.clause; level = level } ∷ xs) c) (sym same)
    (higher_there (is_part e.clause c) e.level level (greatest xs c) (greatest xs c) up (omega arith))
moves_never_lower (x ∷ xs) (suc at) e level c is up =
    higher_there (is_part x.clause c) x.level x.level (greatest xs c) (greatest (moved xs at e level) c) (omega arith)
    (moves_never_lower xs at e level c is up)

pub moves_never_fall : (vars : List ℕ) (kept : List Entry) (at : ℕ) (e : Entry) (level : ℕ) → slice_get kept at ≡ Some e
    → e.level ≤ level → potential vars kept ≤ potential vars (moved kept at e level)
moves_never_fall vars kept at e level is up =
    sum_rises (greatest kept) (greatest (moved kept at e level)) (λ c. moves_never_lower kept at e level c is up) (clauses_over vars)

pub greatest_within : (kept : List Entry) (top : ℕ) (c : List ℕ) → All (λ (e : Entry). (1 ≤ e.level) × (e.level ≤ top)) kept
    → greatest kept c ≤ top
greatest_within [] top c all = omega arith
greatest_within (e ∷ es) top c all =
    by_test (is_part e.clause c) (All-head (λ (e : Entry). (1 ≤ e.level) × (e.level ≤ top)) e es all).1
    (greatest_within es top c (All-tail (λ (e : Entry). (1 ≤ e.level) × (e.level ≤ top)) e es all))
  where
    by_test : (b : Bool) → e.level ≤ top → greatest es c ≤ top → cond b (max e.level (greatest es c)) (greatest es c) ≤ top
    by_test true here later = omega (arith, here, later)
    by_test false here later = later
