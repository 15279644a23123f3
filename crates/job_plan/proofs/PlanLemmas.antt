-- Ranks that are sorted give a plan.
use Rattle.std.proofs.Common.{◌≡◌, ◌≢◌, ℕ, ◌<◌, false, List, length, map, get_or, eqb, sym, ap, ap₂, subst, ◌∙◌, refl, arith}
use Rattle.std.specs.Prelude.{All, AllPairs, Contains}
use Rattle.std.specs.List.Sorted.{IsPermutation, IsSorted}
use Rattle.std.specs.Ordering.{is_lt}
use Rattle.std.proofs.lemmas.Bool.Decides.{Decides-eqb}
use Rattle.std.proofs.lemmas.Cmp.{nat_eq_equiv}
use Rattle.std.proofs.lemmas.List.{length-map, get_or-map}
use Rattle.std.proofs.lemmas.List.Sorted.{IsPermutation-map, IsPermutation-sym, Contains-permutation, All-permutation, sorted_far, ranks_by}
use Rattle.std.proofs.lemmas.Map.Keys.{IsDistinct-IsPermutation}
use Rattle.std.proofs.lemmas.Map.Made.{AllPairs-from_IsDistinct, IsDistinct-from_AllPairs}
use Rattle.ja_base.specs.Literals.{bit}
use Rattle.ja_base.specs.Circuit.{Problem}
use Rattle.store_core.specs.Boards.{ListsEach}
use Rattle.job_plan.specs.Plans.{IsDepth, IsBefore, IsPlan, depth_of}
use Rattle.job_plan.specs.Depths.{rank_of, AreRanks}
use Rattle.job_plan.proofs.RankLemmas.{Rank, rank_cmp, rank_cmp_total, before_from_ranks}

-- the numbers of ranked properties
abbrev pub numbers : List Rank → List ℕ
numbers ranks = map (λ (r : Rank). r.2) ranks

module _ (t : Problem) (depths : List ℕ) (n : ℕ) (ranks sorted : List Rank) (are : AreRanks t depths n ranks)
    (moved : IsPermutation ranks sorted) (up : IsSorted rank_cmp sorted) where
  none : Rank
  none = (false, 0, 0)

  number_at : (k e : ℕ) → k < n → get_or (numbers ranks) k e ≡ k
  number_at k e lt = get_or-map (λ (r : Rank). r.2) ranks k none e (omega (arith, lt, are.long))
      ∙ ap (λ (r : Rank). r.2) (are.at k none lt)

  long : length (numbers ranks) ≡ n
  long = length-map ranks (λ (r : Rank). r.2) ∙ are.long

  apart_before : AllPairs {X = ℕ} (λ a b. a ≢ b) (numbers ranks)
  apart_before i j d lt within same =
      let last : j < n = omega (arith, within, long) in
      absurd (omega (arith, lt, sym (number_at i d (omega (arith, lt, last))) ∙ same ∙ number_at j d last))

  apart : AllPairs {X = ℕ} (λ a b. a ≢ b) (numbers sorted)
  apart = AllPairs-from_IsDistinct Decides-eqb (numbers sorted)
      (IsDistinct-IsPermutation eqb nat_eq_equiv.symm (numbers ranks) (numbers sorted)
      (IsPermutation-map (λ (r : Rank). r.2) ranks sorted moved)
      (IsDistinct-from_AllPairs Decides-eqb (numbers ranks) apart_before))

  below : (p : ℕ) → Contains (numbers ranks) p → p < n
  below p (k, within, is) = let lt : k < n = omega (arith, within, long) in omega (arith, lt, sym (number_at k p lt) ∙ is)

  listed : (p : ℕ) → p < n → Contains (numbers ranks) p
  listed p lt = (p, omega (arith, lt, long), number_at p p lt)

  each : ListsEach n (numbers sorted)
  each =
      let moves = IsPermutation-map (λ (r : Rank). r.2) ranks sorted moved in
      record {
        once = apart;
        members = λ p. (
          λ h. below p (Contains-permutation (numbers sorted) (numbers ranks) p
              (IsPermutation-sym (numbers ranks) (numbers sorted) moves) h),
          λ lt. Contains-permutation (numbers ranks) (numbers sorted) p moves (listed p lt),
        );
      }

  own : All (λ (r : Rank). r ≡ rank_of t depths r.2) sorted
  own = All-permutation (λ (r : Rank). r ≡ rank_of t depths r.2) ranks sorted moved (λ k d lt.
      let is = are.at k d (omega (arith, lt, are.long)) in
      is ∙ ap (rank_of t depths) (sym (ap (λ (r : Rank). r.2) is)))

  at_sorted : (k e : ℕ) → k < length sorted → get_or (numbers sorted) k e ≡ (get_or sorted k none).2
  at_sorted k e lt = get_or-map (λ (r : Rank). r.2) sorted k none e lt

  before : (i j : ℕ) → i < j → j < length sorted
      → IsBefore t (λ u. get_or depths u 0) (get_or sorted i none).2 (get_or sorted j none).2
  before i j lt within =
      let a = get_or sorted i none in
      let b = get_or sorted j none in
      let is_a = own i none (omega (arith, lt, within)) in
      let is_b = own j none within in
      let low = sorted_far (λ (x y : Rank). is_lt (rank_cmp x y)) (ranks_by rank_cmp_total (λ (x : Rank). x)) sorted up i j none
      (omega (arith, lt)) within in
      let low_ranks : is_lt (rank_cmp (rank_of t depths b.2) (rank_of t depths a.2)) ≡ false
      = sym (ap₂ (λ (x y : Rank). is_lt (rank_cmp x y)) is_b is_a) ∙ low in
      before_from_ranks (bit t.assumed a.2) (bit t.assumed b.2) (depth_of t (λ u. get_or depths u 0) a.2)
      (depth_of t (λ u. get_or depths u 0) b.2) a.2 b.2 low_ranks (λ same. apart i j 0 lt
      (omega (arith, within, length-map sorted (λ (r : Rank). r.2)))
      (at_sorted i 0 (omega (arith, lt, within)) ∙ same ∙ sym (at_sorted j 0 within)))

  pub plan_from_sorted : n ≡ length t.circuit.bads → IsDepth t.circuit (λ u. get_or depths u 0) → IsPlan t (numbers sorted)
  plan_from_sorted all depth_is = record {
    each = subst (λ k. ListsEach k (numbers sorted)) all each;
    depth = λ u. get_or depths u 0;
    depth_is = depth_is;
    sorted = λ i j d lt within.
        let last : j < length sorted = omega (arith, within, length-map sorted (λ (r : Rank). r.2)) in
        let at_i = at_sorted i d (omega (arith, lt, last)) in
        subst (λ p. IsBefore t (λ u. get_or depths u 0) p (get_or (numbers sorted) j d)) (sym at_i)
        (subst (λ q. IsBefore t (λ u. get_or depths u 0) (get_or sorted i none).2 q) (sym (at_sorted j d last))
        (before i j lt last));
  }

pub plan_is : (t : Problem) (depths seen : List ℕ) (ranks sorted given : List Rank) (plan : List ℕ) → seen ≡ depths
    → IsDepth t.circuit (λ u. get_or depths u 0) → AreRanks t seen (length t.circuit.bads) ranks → IsPermutation ranks sorted
    → IsSorted rank_cmp sorted → given ≡ sorted → plan ≡ numbers given → IsPlan t plan
plan_is t depths seen ranks sorted given plan same depth_is are moved up is_given is_plan =
    let are_ranks = subst (λ ds. AreRanks t ds (length t.circuit.bads) ranks) same are in
    subst (IsPlan t) (sym (is_plan ∙ ap numbers is_given))
    (plan_from_sorted t depths (length t.circuit.bads) ranks sorted are_ranks moved up refl depth_is)
