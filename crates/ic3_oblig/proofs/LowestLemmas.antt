-- The lowest obligation, one further, and what is left once it is taken.
use Rattle.std.proofs.Common.{◌≡◌, ℕ, ◌+◌, ◌<◌, ◌≤◌, eqb, nat_lt, Bool, true, false, cond, List, [], ◌∷◌, ◌++◌, length, take, drop, Some, slice_get, refl, sym, ap, ◌∙◌, subst, arith}
use Rattle.std.proofs.lemmas.Bool.{eqb-true, eqb-false}
use Rattle.std.proofs.lemmas.Bool.Decides.{nat_tests}
use Rattle.std.proofs.lemmas.Option.{same_Some, slice_get_within}
use Rattle.ic3_oblig.specs.declared.obligation.Obligation.{Obligation}
use Rattle.ic3_oblig.specs.Lowest.{IsLowestOf, IsTaken}

IsLowestOf-first : (waiting : List Obligation) (first : Obligation) → slice_get waiting 0 ≡ Some first → IsLowestOf waiting 1 0
IsLowestOf-first waiting first is = record {
  obligation = first;
  is = is;
  within = omega arith;
  lowest = λ k o below at.
      let zero : k ≡ 0 = omega (arith, below) in
      let same = same_Some o first (sym at ∙ ap (slice_get waiting) zero ∙ is) in
      let level : o.level ≡ first.level = ap (λ (x : Obligation). x.level) same in
      omega (arith, level);
  first = λ k o below at. absurd (omega (arith, below));
}

pub IsLowestOf-some : (waiting : List Obligation) → 0 < length waiting → IsLowestOf waiting 1 0
IsLowestOf-some [] some = absurd (omega (arith, some))
IsLowestOf-some (x ∷ xs) some = IsLowestOf-first (x ∷ xs) x refl

module _ (waiting : List Obligation) (at next : ℕ) (n : Obligation) (is : slice_get waiting next ≡ Some n)
    (h : IsLowestOf waiting next at) where
  by_level : (b : Bool) → b ≡ nat_lt n.level h.obligation.level → IsLowestOf waiting (next + 1) (cond b next at)
  by_level true e =
      let lower : n.level < h.obligation.level = grind (arith, nat_tests) in
      record {
        obligation = n;
        is = is;
        within = omega arith;
        lowest = λ k o below at_k. by_place k o below at_k (eqb k next) refl lower;
        first = λ k o below at_k. let old = h.lowest k o below at_k in omega (arith, old, lower);
      }
    where
      by_place : (k : ℕ) (o : Obligation) → k < next + 1 → slice_get waiting k ≡ Some o → (b : Bool) → b ≡ eqb k next
          → n.level < h.obligation.level → n.level ≤ o.level
      by_place k o below at_k true f lower =
          let same = same_Some o n (sym at_k ∙ ap (slice_get waiting) (eqb-true k next (sym f)) ∙ is) in
          let level : o.level ≡ n.level = ap (λ (x : Obligation). x.level) same in
          omega (arith, level)
      by_place k o below at_k false f lower =
          let apart = eqb-false k next (sym f) in
          let old = h.lowest k o (omega (arith, below, apart)) at_k in
          omega (arith, old, lower)
  by_level false e =
      let higher : h.obligation.level ≤ n.level = grind (arith, nat_tests) in
      record {
        obligation = h.obligation;
        is = h.is;
        within = omega (arith, h.within);
        lowest = λ k o below at_k. by_place k o below at_k (eqb k next) refl higher;
        first = h.first;
      }
    where
      by_place : (k : ℕ) (o : Obligation) → k < next + 1 → slice_get waiting k ≡ Some o → (b : Bool) → b ≡ eqb k next
          → h.obligation.level ≤ n.level → h.obligation.level ≤ o.level
      by_place k o below at_k true f higher =
          let same = same_Some o n (sym at_k ∙ ap (slice_get waiting) (eqb-true k next (sym f)) ∙ is) in
          let level : o.level ≡ n.level = ap (λ (x : Obligation). x.level) same in
          omega (arith, level, higher)
      by_place k o below at_k false f higher =
          let apart = eqb-false k next (sym f) in
          h.lowest k o (omega (arith, below, apart)) at_k

  pub IsLowestOf-more : (place : ℕ)
      → place ≡ cond (nat_lt n.level h.obligation.level) next at → IsLowestOf waiting (next + 1) place
  IsLowestOf-more place e = subst (IsLowestOf waiting (next + 1)) (sym e) (by_level (nat_lt n.level h.obligation.level) refl)

pub IsTaken-lowest : (before after : List Obligation) (taken : Obligation) (place : ℕ) → IsLowestOf before (length before) place
    → slice_get before place ≡ Some taken → after ≡ take place before ++ drop (place + 1) before → IsTaken before taken after
IsTaken-lowest before after taken place h is rest =
    let same = same_Some h.obligation taken (sym h.is ∙ is) in
    let level : h.obligation.level ≡ taken.level = ap (λ (x : Obligation). x.level) same in
    record {
      place = place;
      is = is;
      rest = rest;
      lowest = λ k o at. let low = h.lowest k o (slice_get_within before k o at) at in omega (arith, low, level);
      first = λ k o below at. let low = h.first k o below at in omega (arith, low, level);
    }
