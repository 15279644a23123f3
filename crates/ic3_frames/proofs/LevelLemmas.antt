-- Lists of entries, as the calls of the levels change them.
use Rattle.std.proofs.Common.{◌≡◌, ℕ, ◌+◌, ◌≤◌, eqb, Bool, true, false, not, cond, List, [], ◌∷◌, ◌++◌, length, map, Some, refl, sym, ap, ◌∙◌, subst, arith}
use Rattle.std.specs.Prelude.{All, nat_le, filter}
use Rattle.std.specs.List.{list_any}
use Rattle.std.proofs.lemmas.Bool.{or_parts, eqb-true, eqb-false}
use Rattle.std.proofs.lemmas.Bool.Decides.{nat_tests}
use Rattle.std.proofs.lemmas.List.Folds.{Any-from_list_any}
use Rattle.std.proofs.lemmas.List.{length-append}
use Rattle.std.proofs.lemmas.List.Elements.{All-filter, All-push}
use Rattle.std.proofs.lemmas.List.Filters.{length-filter_both}
use Rattle.std.proofs.lemmas.Option.{slice_get-get_or}
use Rattle.ic3_frames.specs.Levels.{Entry, HasOwn, HasOwnBelow, added, at_level, stands_at, takes_place}

-- ---- levels with a clause of their own

pub has_own_from_any : (kept : List Entry) (level : ℕ) → list_any (λ (e : Entry). eqb e.level level) kept ≡ true → HasOwn kept level
has_own_from_any kept level some =
    let found = Any-from_list_any (λ (e : Entry). eqb e.level level) kept some in
    record {
      place = found.0;
      entry = found.1;
      is = slice_get-get_or kept found.0 found.1 found.2 ∙ ap (λ (e : Entry). Some e) found.3;
      level_is = eqb-true found.1.level level found.4;
    }

same_stand : (level l : ℕ) → eqb l level ≡ false → nat_le level l ≡ nat_le (level + 1) l
same_stand level l apart = grind (arith, nat_tests)

-- where no clause has the level for its own, the level has the clauses of the next one
pub same_without_own : (kept : List Entry) (level : ℕ) → list_any (λ (e : Entry). eqb e.level level) kept ≡ false
    → at_level kept level ≡ at_level kept (level + 1)
same_without_own [] level none = refl
same_without_own (e ∷ es) level none =
    let parts = or_parts (eqb e.level level) (list_any (λ (e : Entry). eqb e.level level) es) none in
    ap (λ (b : Bool). map (λ (e : Entry). e.clause) (cond b (e ∷ filter (stands_at level) es) (filter (stands_at level) es)))
    (same_stand level e.level parts.0)
    ∙ by_test (nat_le (level + 1) e.level) (same_without_own es level parts.1)
  where
    by_test : (b : Bool) → at_level es level ≡ at_level es (level + 1)
        → map (λ (e : Entry). e.clause) (cond b (e ∷ filter (stands_at level) es) (filter (stands_at level) es))
        ≡ map (λ (e : Entry). e.clause) (cond b (e ∷ filter (stands_at (level + 1)) es) (filter (stands_at (level + 1)) es))
    by_test true h = ap (λ (cs : List (List ℕ)). e.clause ∷ cs) h
    by_test false h = h

pub own_below_none : (kept : List Entry) → HasOwnBelow kept 1
own_below_none kept j low less = absurd (omega (arith, low, less))

pub own_below_more : (kept : List Entry) (level : ℕ) → HasOwnBelow kept level → HasOwn kept level → HasOwnBelow kept (level + 1)
own_below_more kept level h own j low less = by_test (eqb j level) refl
  where
    by_test : (b : Bool) → b ≡ eqb j level → HasOwn kept j
    by_test true e = subst (HasOwn kept) (sym (eqb-true j level (sym e))) own
    by_test false e = let apart = eqb-false j level (sym e) in h j low (omega (arith, less, apart))

pub own_below_lower : (kept : List Entry) (few many : ℕ) → few ≤ many → HasOwnBelow kept many → HasOwnBelow kept few
own_below_lower kept few many up h j low less = h j low (omega (arith, less, up))

-- ---- one more clause

module _ (clause : List ℕ) (level : ℕ) where
  abbrev new_entry : Entry
  new_entry = record { clause = clause; level = level }

  -- what is left where some are dropped and a new one is put last
  pub added_is : (new : Entry) (old reserved retained items : List Entry) → new ≡ new_entry → reserved ≡ old
      → retained ≡ filter (λ e. not (takes_place new e)) reserved → items ≡ retained ++ new ∷ [] → items ≡ added clause level old
  added_is new old reserved retained items new_is same left put =
      put ∙ ap (λ (xs : List Entry). xs ++ new ∷ []) left
      ∙ ap (λ (n : Entry). filter (λ e. not (takes_place n e)) reserved ++ n ∷ []) new_is
      ∙ ap (λ (xs : List Entry). filter (λ e. not (takes_place new_entry e)) xs ++ new_entry ∷ []) same

  pub All-added : (P : Entry → Type 0) (kept : List Entry) → All P kept → P new_entry → All P (added clause level kept)
  All-added P kept all here =
      All-push P (filter (λ e. not (takes_place new_entry e)) kept) new_entry (All-filter (λ e. not (takes_place new_entry e)) P kept all) here

  pub added_is_short : (kept : List Entry) → length (added clause level kept) ≤ length kept + 1
  added_is_short kept =
      let stays : Entry → Bool = λ e. not (takes_place new_entry e) in
      omega (arith, length-append (filter stays kept) (new_entry ∷ []), length-filter_both stays (λ e. not (stays e)) (λ _. refl) kept)
