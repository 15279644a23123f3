-- The first n properties are joined, and one property more.
use Rattle.std.proofs.Common.{◌≡◌, ℕ, refl, ◌+◌, ◌<◌, ◌&&◌, ◌↔◌, ⊎_elim, Bool, true, false, not, List, length, sym, ap, ◌∙◌, arith, below_more, IsTrue}
use Rattle.std.proofs.lemmas.Bool.{cases_lt, false≢true}
use Rattle.std.proofs.lemmas.List.{get_or_past}
use Rattle.ja_base.specs.Literals.{bit}
use Rattle.ja_base.specs.Sets.{IsJoined}

-- of the first n properties each that is expected to hold was proved
abbrev pub JoinedBelow : List Bool → List Bool → ℕ → Type 0
JoinedBelow assumed proved n = (p : ℕ) → p < n → bit assumed p ≡ true → bit proved p ≡ true

proved_where : (a b : Bool) → (a && not b) ≡ false → a ≡ true → b ≡ true
proved_where true true closed held = held
proved_where true false closed held = sym closed ∙ held
proved_where false b closed held = absurd (false≢true held)

open_where : (a b : Bool) → (a && not b) ≡ true → (a ≡ true) × (b ≡ false)
open_where true true is = absurd (false≢true is)
open_where true false is = (is, refl)
open_where false b is = absurd (false≢true is)

pub joined_more : (assumed proved : List Bool) (n : ℕ) → (bit assumed n && not (bit proved n)) ≡ false
    → JoinedBelow assumed proved n → JoinedBelow assumed proved (n + 1)
joined_more assumed proved n closed joined p lt = below_more
    (λ k. bit assumed k ≡ true → bit proved k ≡ true) n joined
    (proved_where (bit assumed n) (bit proved n) closed) p lt

pub joined_all : (assumed proved : List Bool) → JoinedBelow assumed proved (length assumed) → IsJoined assumed proved
joined_all assumed proved joined p held = joined p
    (⊎_elim (λ lt. lt) (λ past. absurd (false≢true (sym (get_or_past assumed p false past) ∙ held)))
    (cases_lt p (length assumed)))
    held

pub not_joined : (assumed proved : List Bool) (n : ℕ) → (bit assumed n && not (bit proved n)) ≡ true → IsJoined assumed proved → ⊥
not_joined assumed proved n left joined =
    let is = open_where (bit assumed n) (bit proved n) left in
    false≢true (sym is.1 ∙ joined n is.0)
