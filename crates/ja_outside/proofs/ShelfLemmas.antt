-- What a shelf that tells holds under a name: one of three things.
use Rattle.std.proofs.Common.{◌≡◌, ℕ, ◌<◌, ◌≤◌, List, length, Option, Some, None, ◌⊎◌, inl, inr, refl, sym, ◌∙◌, arith, IsSomeAnd}
use Rattle.std.proofs.lemmas.Bool.{cases_lt}
use Rattle.std.proofs.lemmas.Option.{same_Some}
use Rattle.ja_outside.specs.Shelf.{IsLonger, Lacks}
use Rattle.ja_outside.specs.Laws.{HoldsWithin, AnswersExclude}

answer : (file_of : List ℕ → Option (List ℕ)) (name : List ℕ) (limit : ℕ) (found : Option (List ℕ)) → file_of name ≡ found
    → HoldsWithin file_of name limit ⊎ IsLonger (Some file_of) name limit ⊎ Lacks (Some file_of) name
answer file_of name limit None e = inr (inr e)
answer file_of name limit (Some file) e =
    elim (cases_lt limit (length file)) [
      | inr h ↦ inl (record { bytes = file; is = e; few = h })
      | inl h ↦ inr (inl (rw e h))
    ]

pub some_answer : (file_of : List ℕ → Option (List ℕ)) (name : List ℕ) (limit : ℕ)
    → HoldsWithin file_of name limit ⊎ IsLonger (Some file_of) name limit ⊎ Lacks (Some file_of) name
some_answer file_of name limit = answer file_of name limit (file_of name) refl

longer_than : (limit : ℕ) (found : Option (List ℕ)) (bytes : List ℕ) → found ≡ Some bytes → length bytes ≤ limit
    → IsSomeAnd found (λ file. limit < length file) → ⊥
longer_than limit found bytes e few h = let more : limit < length bytes = rw e at h in omega arith

lacked : (limit : ℕ) (found : Option (List ℕ)) → found ≡ None → IsSomeAnd found (λ file. limit < length file) → ⊥
lacked limit found e h = rw e at h

pub one_answer : (file_of : List ℕ → Option (List ℕ)) (name : List ℕ) (limit : ℕ) → AnswersExclude file_of name limit
one_answer file_of name limit = record {
  same = λ a b g h. same_Some a b (sym g ∙ h);
  within = λ h more. longer_than limit (file_of name) h.bytes h.is h.few more;
  held = λ h none. let e = sym h.is ∙ none in absurd cc;
  longer = λ more none. lacked limit (file_of name) none more;
}
