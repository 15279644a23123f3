-- The order of ranks, and the ranks of the first properties.
use Rattle.std.proofs.Common.{◌≡◌, ◌≢◌, ℕ, ◌+◌, ◌<◌, ◌⊎◌, inl, inr, ⊎_elim, Bool, true, false, not, Ordering, Less, Equal, List, [], ◌∷◌, ◌++◌, get_or, sym, ap, ◌∙◌, refl, arith, below_more}
use Rattle.std.specs.Ordering.{is_lt, nat_cmp, bool_cmp, ordering_then}
use Rattle.std.specs.Cmp.{IsTotalOrder, nat_cmp_total, bool_cmp_total, nat_cmp_is}
use Rattle.std.proofs.lemmas.Bool.{cases_order, false≢true}
use Rattle.std.proofs.lemmas.List.{length-append, get_or_append_left}
use Rattle.std.proofs.Math.Seq.{get_or-append_seam}
use Rattle.std.proofs.lemmas.Cmp.{then_total, on_total}
use Rattle.ja_base.specs.Circuit.{Problem}
use Rattle.job_plan.specs.Depths.{rank_of, AreRanks}

abbrev pub Rank : Type 0
Rank = Bool × ℕ × ℕ

-- what is expected to hold comes first, then the depth, then the number
abbrev pub rank_cmp : Rank → Rank → Ordering
rank_cmp x y = ordering_then (ordering_then (bool_cmp x.0 y.0) (nat_cmp x.1 y.1)) (nat_cmp x.2 y.2)

pub rank_cmp_total : IsTotalOrder rank_cmp
rank_cmp_total = then_total
    (then_total (on_total (λ (t : Rank). t.0) bool_cmp_total) (on_total (λ (t : Rank). t.1) nat_cmp_total))
    (on_total (λ (t : Rank). t.2) nat_cmp_total)

-- less deep, or as deep with a lower number
abbrev Shallower : ℕ → ℕ → ℕ → ℕ → Type 0
Shallower dp dq p q = (dp < dq) ⊎ ((dp ≡ dq) × (p < q))

by_number : (dp dq p q : ℕ) → dp ≡ dq → is_lt (nat_cmp q p) ≡ false → p ≢ q → Shallower dp dq p q
by_number dp dq p q same low apart = ⊎_elim (λ e. absurd (apart e)) (⊎_elim (λ lt. inr (same, lt)) less) (cases_order p q)
  where
    less : q < p → Shallower dp dq p q
    less lt = absurd (false≢true (sym low ∙ sym (ap is_lt (nat_cmp_is q p Less lt))))

by_depth : (dp dq p q : ℕ) → is_lt (ordering_then (nat_cmp dq dp) (nat_cmp q p)) ≡ false → p ≢ q → Shallower dp dq p q
by_depth dp dq p q low apart = ⊎_elim same (⊎_elim (λ lt. inl lt) less) (cases_order dp dq)
  where
    at_depths : (o : Ordering) → o ≡ nat_cmp dq dp → is_lt (ordering_then o (nat_cmp q p)) ≡ false
    at_depths o e = ap (λ x. is_lt (ordering_then x (nat_cmp q p))) e ∙ low

    same : dp ≡ dq → Shallower dp dq p q
    same e = by_number dp dq p q e (at_depths Equal (nat_cmp_is dq dp Equal (sym e))) apart

    less : dq < dp → Shallower dp dq p q
    less lt = absurd (false≢true (sym (at_depths Less (nat_cmp_is dq dp Less lt))))

pub before_from_ranks : (bp bq : Bool) (dp dq p q : ℕ) → is_lt (rank_cmp (not bq, dq, q) (not bp, dp, p)) ≡ false → p ≢ q
    → ((bp ≡ true) × (bq ≡ false)) ⊎ ((bp ≡ bq) × Shallower dp dq p q)
before_from_ranks true false dp dq p q low apart = inl (refl, refl)
before_from_ranks false true dp dq p q low apart = absurd (false≢true (sym low))
before_from_ranks true true dp dq p q low apart = inr (refl, by_depth dp dq p q low apart)
before_from_ranks false false dp dq p q low apart = inr (refl, by_depth dp dq p q low apart)

pub no_ranks : (t : Problem) (depths : List ℕ) → AreRanks t depths 0 []
no_ranks t depths = record { long = refl; at = λ p d h. absurd (omega (arith, h)) }

pub AreRanks-more : (t : Problem) (depths : List ℕ) (n : ℕ) (ranks : List Rank) (r : Rank) → r ≡ rank_of t depths n
    → AreRanks t depths n ranks → AreRanks t depths (n + 1) (ranks ++ r ∷ [])
AreRanks-more t depths n ranks r is a = record {
  long = length-append ranks (r ∷ []) ∙ ap (λ k. k + 1) a.long;
  at = λ p d lt. below_more (λ k. get_or (ranks ++ r ∷ []) k d ≡ rank_of t depths k) n (before d) (last d) p lt;
}
  where
    before : (d : Rank) (k : ℕ) → k < n → get_or (ranks ++ r ∷ []) k d ≡ rank_of t depths k
    before d k lt = get_or_append_left ranks (r ∷ []) d k (omega (arith, lt, a.long)) ∙ a.at k d lt

    last : (d : Rank) → get_or (ranks ++ r ∷ []) n d ≡ rank_of t depths n
    last d = ap (λ k. get_or (ranks ++ r ∷ []) k d) (sym a.long) ∙ get_or-append_seam ranks r [] d ∙ is
