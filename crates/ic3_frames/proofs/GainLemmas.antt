-- What an addition and a move say at each level.
use Rattle.std.proofs.Common.{◌≡◌, ℕ, ◌≤◌, ◌<◌, eqb, Bool, true, false, not, cond, List, [], ◌∷◌, ◌++◌, length, get_or, set, slice_get, Some, refl, sym, ap, ◌∙◌, subst, arith, get_or-set_same, get_or-set_other, length-set}
use Rattle.std.specs.Prelude.{All, Contains, nat_le, filter}
use Rattle.std.specs.List.{list_any}
use Rattle.std.proofs.lemmas.Bool.{and_parts, eqb-true, eqb-false, not-false}
use Rattle.std.proofs.lemmas.Bool.Decides.{nat_tests}
use Rattle.std.proofs.lemmas.List.Elements.{All-nil, All-cons, All-head, All-tail, All-contains, All-set, Contains-append_left, Contains-get_or, Contains-push}
use Rattle.std.proofs.lemmas.List.Folds.{Any-from_list_any, list_any_at}
use Rattle.std.proofs.lemmas.Option.{get_or_from_slice_get, slice_get_within}
use Rattle.ja_base.specs.Circuit.{Circuit}
use Rattle.ja_base.specs.Clauses.{is_part}
use Rattle.ja_base.specs.Invariants.{latch_value}
use Rattle.ja_base.proofs.ClauseLemmas.{is_part_decides}
use Rattle.ic3_frames.specs.Levels.{Entry, added, moved, takes_place}
use Rattle.ic3_frames.specs.Soundness.{Meets, Gains}
use Rattle.ic3_frames.proofs.LevelLemmas.{All-added}

-- what satisfies a clause satisfies each clause that it subsumes
pub meets_more : (p : ℕ → Bool) (few many : List ℕ) → is_part few many ≡ true → list_any p few ≡ true → list_any p many ≡ true
meets_more p few many part some =
    let found = Any-from_list_any p few some in
    let among : Contains few found.1 = (found.0, found.2, found.3) in
    let has = All-contains (Contains many) few found.1 ((is_part_decides few many).0 part) among in
    list_any_at p many has.0 found.1 has.1 (ap p has.2 ∙ found.4)

-- what holds of all that are left, and of each that was dropped
from_filter : {X : Type 0} (P : X → Type 0) (stays : X → Bool) (xs : List X) → ((x : X) → stays x ≡ false → P x)
    → All P (filter stays xs) → All P xs
from_filter P stays [] dropped all = All-nil P
from_filter {X} P stays (x ∷ xs) dropped all = by_test (stays x) refl (from_filter P stays xs dropped) all
  where
    by_test : (b : Bool) → stays x ≡ b → (All P (filter stays xs) → All P xs) → All P (cond b (x ∷ filter stays xs) (filter stays xs))
        → All P (x ∷ xs)
    by_test true e later all = All-cons P x xs (All-head P x (filter stays xs) all) (later (All-tail P x (filter stays xs) all))
    by_test false e later all = All-cons P x xs (dropped x e) (later all)

all_before : {X : Type 0} (P : X → Type 0) (xs : List X) (x : X) → All P (xs ++ x ∷ []) → All P xs
all_before P xs x all = λ k d h.
    All-contains P (xs ++ x ∷ []) (get_or xs k d) all (Contains-append_left xs (x ∷ []) (get_or xs k d) (Contains-get_or xs k d h))

all_last : {X : Type 0} (P : X → Type 0) (xs : List X) (x : X) → All P (xs ++ x ∷ []) → P x
all_last P xs x all = All-contains P (xs ++ x ∷ []) x all (Contains-push xs x)

no_higher : (l level : ℕ) → nat_le l level ≡ true → l ≤ level
no_higher l level e = grind (arith, nat_tests)

pub additions_gain : (c : Circuit) (kept : List Entry) (clause : List ℕ) (level : ℕ) → Gains c level clause kept (added clause level kept)
additions_gain c kept clause level =
    let new : Entry = record { clause = clause; level = level } in
    let stays : Entry → Bool = λ e. not (takes_place new e) in
    let P : ℕ → List Bool → Entry → Type 0 = λ k s e. k ≤ e.level → Meets c s e.clause in
    record {
      forth = λ k s all here. All-added clause level (P k s) kept all here;
      back = λ k s all. from_filter (P k s) stays kept (λ e gone.
          let both = and_parts (nat_le e.level level) (is_part clause e.clause) (not-false (takes_place new e) gone) in
          λ up. meets_more (latch_value c.latches s) clause e.clause both.1
          (all_last (P k s) (filter stays kept) new all (omega (arith, up, no_higher e.level level both.0))))
          (all_before (P k s) (filter stays kept) new all);
      gained = λ k s all up. all_last (P k s) (filter stays kept) new all up;
    }

module _ {X : Type 0} (P : X → Type 0) (xs : List X) (at : ℕ) (x y : X) (is : slice_get xs at ≡ Some y) where
  all_set_here : All P (set xs at x) → P x
  all_set_here all =
      let within = slice_get_within xs at y is in
      subst P (get_or-set_same xs at x y within) (all at y (omega (arith, within, length-set xs at x)))

  all_set_back : All P (set xs at x) → P y → All P xs
  all_set_back all here = λ j d h. by_place j d h (eqb j at) refl
    where
      by_place : (j : ℕ) (d : X) → j < length xs → (b : Bool) → b ≡ eqb j at → P (get_or xs j d)
      by_place j d h true e =
          subst P (sym (ap (λ i. get_or xs i d) (eqb-true j at (sym e)) ∙ get_or_from_slice_get xs at y d is)) here
      by_place j d h false e =
          subst P (get_or-set_other xs at j x d (eqb-false j at (sym e))) (all j d (omega (arith, h, length-set xs at x)))

pub moves_gain : (c : Circuit) (kept : List Entry) (at : ℕ) (e : Entry) (level : ℕ) → slice_get kept at ≡ Some e → e.level ≤ level
    → Gains c level e.clause kept (moved kept at e level)
moves_gain c kept at e level is up =
    let new : Entry = record { clause = e.clause; level = level } in
    let P : ℕ → List Bool → Entry → Type 0 = λ k s e. k ≤ e.level → Meets c s e.clause in
    record {
      forth = λ k s all here. All-set (P k s) kept at new here all;
      back = λ k s all. all_set_back (P k s) kept at new e is all
          (λ low. all_set_here (P k s) kept at new e is all (omega (arith, low, up)));
      gained = λ k s all low. all_set_here (P k s) kept at new e is all low;
    }
