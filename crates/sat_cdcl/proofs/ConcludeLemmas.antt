-- A trail on which the last literal gives way to its negation.
use Rattle.std.proofs.Common.{◌≡◌, ℕ, ◌<◌, Bool, List, [], ◌∷◌, ◌++◌, length, take, Some, slice_get, inl, inr, sym, subst, ◌∙◌, ap, arith}
use Rattle.std.specs.List.{Contains}
use Rattle.std.proofs.lemmas.Bool.Decides.{eqb_tells}
use Rattle.std.proofs.lemmas.List.{length-take, get_or-take}
use Rattle.std.proofs.lemmas.List.Elements.{All-push, All-take, Contains-push, Contains-append_left}
use Rattle.std.proofs.lemmas.List.Quantifiers.{all_pairs_push}
use Rattle.std.proofs.lemmas.Option.{get_or_from_slice_get, slice_get_within}
use Rattle.ja_base.specs.Literals.{variable, negated}
use Rattle.ja_base.specs.Trails.{IsTrail, IsReason, AreApart, AreFalse}
use Rattle.ja_base.proofs.LiteralLemmas.{variable_negated}
use Rattle.sat_plain.specs.declared.place.Place.{Place}
use Rattle.sat_plain.specs.Trails.{lits_of}
use Rattle.sat_plain.specs.Derive.{IsWalked}
use Rattle.sat_plain.proofs.PlaceLemmas.{lits_at}
use Rattle.sat_plain.proofs.WalkLemmas.{place_below}

apart_taken : (xs : List ℕ) (n : ℕ) → AreApart xs → AreApart (take n xs)
apart_taken xs n h = λ i j d less within e.
    let wide = length-take n xs in
    h i j d less (omega (arith, wide))
    (ap variable (sym (get_or-take n xs i d (omega (arith, wide)))) ∙ e ∙ ap variable (get_or-take n xs j d (omega (arith, wide))))

pub turned_walked : (vars : ℕ) (values : List Bool) (places : List Place) (at : ℕ) (place : Place)
    → IsTrail vars values (lits_of places) → slice_get places at ≡ Some place
    → IsWalked vars (take at (lits_of places) ++ negated place.lit ∷ [])
turned_walked vars values places at place is e =
    let lits : List ℕ = lits_of places in
    let there : slice_get lits at ≡ Some place.lit = lits_at places at place e in
    let within : at < length lits = slice_get_within lits at place.lit there in
    let P : ℕ → Type 0 = λ n. n < vars in
    let apart = is.apart in
    record {
      below =
          All-push (λ l. variable l < vars) (take at lits) (negated place.lit)
          (All-take (λ l. variable l < vars) at lits is.below)
          (subst P (sym (variable_negated place.lit)) (place_below vars values places at place is e));
      apart =
          all_pairs_push (λ m n. variable m ≡ variable n → ⊥) (take at lits) (negated place.lit) (apart_taken lits at is.apart)
          (λ k d less same.
          let low : k < at = omega (arith, length-take at lits) in
          apart k at d low within
          (ap variable (sym (get_or-take at lits k d low)) ∙ same ∙ variable_negated place.lit
          ∙ ap variable (sym (get_or_from_slice_get lits at place.lit d there))));
    }

pub turned_false : (lits : List ℕ) (l : ℕ) (clause : List ℕ) → IsReason lits l clause → AreFalse (lits ++ negated l ∷ []) clause
turned_false lits l clause h = record {
  each = λ m has.
      elim (eqb_tells m l) [
        | inl same ↦
            let P : ℕ → Type 0 = λ k. Contains (lits ++ negated l ∷ []) (negated k) in
            subst P (sym same.1) (Contains-push lits (negated l))
        | inr other ↦ Contains-append_left lits (negated l ∷ []) (negated m) (h.others m has other.1)
      ];
}
