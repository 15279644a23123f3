-- Slots that are taken and let go.
use Rattle.std.proofs.Common.{◌≡◌, ◌≢◌, ℕ, ◌<◌, ◌≤◌, Bool, true, false, nat_lt, cond, List, [], ◌∷◌, ◌++◌, All, length, set, Some, slice_get, sym, ◌∙◌, ap, arith}
use Rattle.std.proofs.lemmas.Bool.Decides.{nat_tests}
use Rattle.std.proofs.lemmas.List.{get_or-set_other, get_or_append_left, length-set}
use Rattle.std.proofs.lemmas.List.Elements.{All-set, All-push}
use Rattle.std.proofs.lemmas.Option.{get_or_from_slice_get, slice_get-get_or, slice_get_within}
use Rattle.ja_base.specs.Literals.{bit}
use Rattle.sat_plain.proofs.PlaceLemmas.{slice_get_left}
use Rattle.sat_plain.proofs.TrailLemmas.{bit_set_other, bit_within}
use Rattle.sat_watch.specs.Stores.{put_at}

lt_true : (a b : ℕ) → a < b → nat_lt a b ≡ true
lt_true a b less = grind (arith, nat_tests)

lt_false : (a b : ℕ) → b ≤ a → nat_lt a b ≡ false
lt_false a b least = grind (arith, nat_tests)

pub put_within : {X : Type 0} (xs : List X) (k : ℕ) (x : X) → k < length xs → set xs k x ≡ put_at xs k x
put_within xs k x less = ap (λ b. cond b (set xs k x) (xs ++ x ∷ [])) (sym (lt_true k (length xs) less))

pub put_behind : {X : Type 0} (xs : List X) (k : ℕ) (x : X) → length xs ≤ k → xs ++ x ∷ [] ≡ put_at xs k x
put_behind xs k x least = ap (λ b. cond b (set xs k x) (xs ++ x ∷ [])) (sym (lt_false k (length xs) least))

pub slot_kept : {X : Type 0} (xs : List X) (k : ℕ) (x : X) (n : ℕ) (y : X) → n ≢ k → slice_get xs n ≡ Some y
    → slice_get (put_at xs k x) n ≡ Some y
slot_kept {X} xs k x n y off e = by (nat_lt k (length xs))
  where
    less : n < length xs
    less = slice_get_within xs n y e

    by : (b : Bool) → slice_get (cond b (set xs k x) (xs ++ x ∷ [])) n ≡ Some y
    by true =
        let width = length-set xs k x in
        slice_get-get_or (set xs k x) n y (omega (arith, less))
        ∙ ap Some (get_or-set_other xs k n x y off ∙ get_or_from_slice_get xs n y y e)
    by false = slice_get_left xs (x ∷ []) n y e

pub bit_kept : (xs : List Bool) (k n : ℕ) → n ≢ k → bit xs n ≡ true → bit (put_at xs k true) n ≡ true
bit_kept xs k n off e = by (nat_lt k (length xs))
  where
    by : (b : Bool) → bit (cond b (set xs k true) (xs ++ true ∷ [])) n ≡ true
    by true = bit_set_other xs k n true off ∙ e
    by false = get_or_append_left xs (true ∷ []) false n (bit_within xs n e) ∙ e

pub All-put : {X : Type 0} (P : X → Type 0) (xs : List X) (k : ℕ) (x : X) → All P xs → P x → All P (put_at xs k x)
All-put {X} P xs k x all here = by (nat_lt k (length xs))
  where
    by : (b : Bool) → All P (cond b (set xs k x) (xs ++ x ∷ []))
    by true = All-set P xs k x here all
    by false = All-push P xs x all here
