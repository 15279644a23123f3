-- How keys stand once two places have changed their variables.
use Rattle.std.proofs.Common.{◌≡◌, ◌≢◌, ℕ, zero, suc, ◌<◌, ◌≤◌, List, get_or, inl, inr, sym, ap, ◌∙◌, arith}
use Rattle.std.proofs.lemmas.Bool.Decides.{eqb_tells}
use Rattle.sat_heap.specs.Orders.{key, above, IsOrdered, IsRising, IsSinking, IsExchanged, IsLessAbove, IsMoreBelow}

-- keys of which those of two places changed their places
pub record AreExchanged (before after : ℕ → ℕ) (i j : ℕ) : Type 0 where
  pub first : after i ≡ before j
  pub second : after j ≡ before i
  pub others : (k : ℕ) → k ≢ i → k ≢ j → after k ≡ before k

pub keys_exchanged : (activity vars vars' : List ℕ) (i j : ℕ) → IsExchanged vars vars' i j
    → AreExchanged (key activity vars) (key activity vars') i j
keys_exchanged activity vars vars' i j h = record {
  first = ap (λ v. get_or activity v 0) h.first;
  second = ap (λ v. get_or activity v 0) h.second;
  others = λ k at_i at_j. ap (λ v. get_or activity v 0) (h.others k at_i at_j);
}

pub above_less : (k : ℕ) → 0 < k → above k < k
above_less k some = omega arith

lower_differs : (a b : ℕ) → a < b → a ≢ b
lower_differs a b less = λ e. omega arith

upper_differs : (a b : ℕ) → a < b → b ≢ a
upper_differs a b less = λ e. omega arith

-- ---- upwards

module _ (len : ℕ) (K K' : ℕ → ℕ) (i p : ℕ) (h : IsRising len K i) (small : i < len) (less : IsLessAbove K i p)
    (x : AreExchanged K K' i p) where
  lower : p < i
  lower = let e = less.is in let l = above_less i less.some in omega arith

  above_is : K (above i) ≡ K p
  above_is = ap K (sym less.is)

  rise_others : (k : ℕ) → 0 < k → k < len → k ≢ p → K' k ≤ K' (above k)
  rise_others k some within off =
      elim (eqb_tells k i) [
        | inl same ↦
            let here : K' k ≡ K p = ap K' same.1 ∙ x.first in
            let there : K' (above k) ≡ K i = ap (λ m. K' (above m)) same.1 ∙ ap K' (sym less.is) ∙ x.second in
            let l = less.less in
            omega arith
        | inr other ↦
            let here : K' k ≡ K k = x.others k other.1 off in
            elim (eqb_tells (above k) i) [
              | inl under ↦
                  let there : K' (above k) ≡ K p = ap K' under.1 ∙ x.first in
                  let b = h.below k some within under.1 less.some in
                  let t = above_is in
                  omega arith
              | inr not_i ↦
                  elim (eqb_tells (above k) p) [
                    | inl at_p ↦
                        let there : K' (above k) ≡ K i = ap K' at_p.1 ∙ x.second in
                        let was : K (above k) ≡ K p = ap K at_p.1 in
                        let b = h.others k some within other.1 in
                        let l = less.less in
                        omega arith
                    | inr not_p ↦
                        let there : K' (above k) ≡ K (above k) = x.others (above k) not_i.1 not_p.1 in
                        let b = h.others k some within other.1 in
                        omega arith
                  ]
            ]
      ]

  rise_below : (k : ℕ) → 0 < k → k < len → above k ≡ p → 0 < p → K' k ≤ K' (above p)
  rise_below k some within under positive =
      let low : above p < p = above_less p positive in
      let l = lower in
      let q : K' (above p) ≡ K (above p) =
      x.others (above p) (lower_differs (above p) i (omega arith)) (lower_differs (above p) p low) in
      let up : K p ≤ K (above p) = h.others p positive (omega arith) (lower_differs p i l) in
      elim (eqb_tells k i) [
        | inl same ↦ let here : K' k ≡ K p = ap K' same.1 ∙ x.first in omega arith
        | inr other ↦
            let a = above_less k some in
            let here : K' k ≡ K k = x.others k other.1 (upper_differs p k (omega arith)) in
            let b = h.others k some within other.1 in
            let was : K (above k) ≡ K p = ap K under in
            omega arith
      ]

  pub rise_step : IsRising len K' p
  rise_step = record { others = rise_others; below = rise_below }

pub risen : (len : ℕ) (K : ℕ → ℕ) (i : ℕ) → IsRising len K i → (0 < i → K i ≤ K (above i)) → IsOrdered len K
risen len K i h least = λ k some within.
    elim (eqb_tells k i) [
      | inl same ↦
          let e = same.1 in
          let here : K k ≡ K i = ap K e in
          let there : K (above k) ≡ K (above i) = ap (λ m. K (above m)) e in
          let l = least (omega arith) in
          omega arith
      | inr other ↦ h.others k some within other.1
    ]

-- ---- downwards

module _ (len : ℕ) (K K' : ℕ → ℕ) (i c : ℕ) (h : IsSinking len K i) (more : IsMoreBelow len K i c)
    (x : AreExchanged K K' i c) where
  sink_others : (k : ℕ) → 0 < k → k < len → above k ≢ c → K' k ≤ K' (above k)
  sink_others k some within off =
      elim (eqb_tells k c) [
        | inl same ↦
            let here : K' k ≡ K i = ap K' same.1 ∙ x.second in
            let there : K' (above k) ≡ K c = ap (λ m. K' (above m)) same.1 ∙ ap K' more.is ∙ x.first in
            let l = more.more in
            omega arith
        | inr other ↦
            elim (eqb_tells k i) [
              | inl at_i ↦
                  let e = at_i.1 in
                  let positive : 0 < i = omega arith in
                  let low = above_less i positive in
                  let l = more.lower in
                  let here : K' k ≡ K c = ap K' e ∙ x.first in
                  let there : K' (above k) ≡ K (above i) =
                  ap (λ m. K' (above m)) e
                  ∙ x.others (above i) (lower_differs (above i) i low) (lower_differs (above i) c (omega arith)) in
                  let b = h.below c (omega arith) more.within more.is positive in
                  omega arith
              | inr not_i ↦
                  let here : K' k ≡ K k = x.others k not_i.1 other.1 in
                  elim (eqb_tells (above k) i) [
                    | inl under ↦
                        let there : K' (above k) ≡ K c = ap K' under.1 ∙ x.first in
                        let b = more.most k some within under.1 in
                        omega arith
                    | inr apart ↦
                        let there : K' (above k) ≡ K (above k) = x.others (above k) apart.1 off in
                        let b = h.others k some within apart.1 in
                        omega arith
                  ]
            ]
      ]

  sink_below : (k : ℕ) → 0 < k → k < len → above k ≡ c → 0 < c → K' k ≤ K' (above c)
  sink_below k some within under positive =
      let a = above_less k some in
      let l = more.lower in
      let here : K' k ≡ K k = x.others k (upper_differs i k (omega arith)) (upper_differs c k (omega arith)) in
      let there : K' (above c) ≡ K c = ap K' more.is ∙ x.first in
      let b = h.others k some within (λ e. omega arith) in
      let was : K (above k) ≡ K c = ap K under in
      omega arith

  pub sink_step : IsSinking len K' c
  sink_step = record { others = sink_others; below = sink_below }

pub sunk : (len : ℕ) (K : ℕ → ℕ) (i : ℕ) → IsSinking len K i
    → ((k : ℕ) → 0 < k → k < len → above k ≡ i → K k ≤ K i) → IsOrdered len K
sunk len K i h none = λ k some within.
    elim (eqb_tells (above k) i) [
      | inl under ↦
          let there : K (above k) ≡ K i = ap K under.1 in
          let l = none k some within under.1 in
          omega arith
      | inr other ↦ h.others k some within other.1
    ]

-- ---- the first place

top_by : (fuel len : ℕ) (K : ℕ → ℕ) → IsOrdered len K → (k : ℕ) → k ≤ fuel → k < len → K k ≤ K 0
top_by zero len K h k low within = let e : k ≡ 0 = omega arith in let same = ap K e in omega arith
top_by (suc fuel) len K h k low within =
    elim (eqb_tells k 0) [
      | inl same ↦ let e = ap K same.1 in omega arith
      | inr other ↦
          let not_first = other.1 in
          let some : 0 < k = grind (arith) in
          let a = above_less k some in
          let up = h k some within in
          let first = top_by fuel len K h (above k) (omega arith) (omega arith) in
          omega arith
    ]

pub top : (len : ℕ) (K : ℕ → ℕ) → IsOrdered len K → (k : ℕ) → k < len → K k ≤ K 0
top len K h k within = top_by k len K h k (omega arith) within

-- the first place takes another key: all but it stand right
pub first_sinks : (len : ℕ) (K K' : ℕ → ℕ) → IsOrdered len K → ((k : ℕ) → 0 < k → k < len → K' k ≡ K k) → IsSinking len K' 0
first_sinks len K K' h same = record {
  others = λ k some within off.
      let a = above_less k some in
      let positive : 0 < above k = grind (arith) in
      let here = same k some within in
      let there = same (above k) positive (omega arith) in
      let b = h k some within in
      omega arith;
  below = λ k some within under positive. absurd (omega arith);
}

-- the key of a place became greater: all but it stand right
pub one_rises : (len : ℕ) (K K' : ℕ → ℕ) (i : ℕ) → IsOrdered len K → ((k : ℕ) → k < len → k ≢ i → K' k ≡ K k) → K i ≤ K' i
    → IsRising len K' i
one_rises len K K' i h same more = record {
  others = λ k some within off.
      let a = above_less k some in
      let here = same k within off in
      let b = h k some within in
      elim (eqb_tells (above k) i) [
        | inl under ↦
            let was : K (above k) ≡ K i = ap K under.1 in
            let now : K' (above k) ≡ K' i = ap K' under.1 in
            omega arith
        | inr apart ↦ let there = same (above k) (omega arith) apart.1 in omega arith
      ];
  below = λ k some within under positive.
      let a = above_less k some in
      let low = above_less i positive in
      let here = same k within (upper_differs i k (omega arith)) in
      let there = same (above i) (omega arith) (lower_differs (above i) i low) in
      let b = h k some within in
      let up = h i positive (omega arith) in
      let was : K (above k) ≡ K i = ap K under in
      omega arith;
}
