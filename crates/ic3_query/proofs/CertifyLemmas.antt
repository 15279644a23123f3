-- Candidates that a closed list does not have yet.
use Rattle.std.proofs.Common.{◌≡◌, ℕ, ◌+◌, ◌*◌, ◌≤◌, Bool, true, false, cond, List, [], ◌∷◌, ◌++◌, length, mul-le-mul_right, sym, ap, subst, ◌∙◌, arith}
use Rattle.std.specs.List.{All}
use Rattle.ja_base.specs.declared.meter.Meter.{Meter}
use Rattle.ja_base.specs.ClauseSets.{has_clause, fresh, joined}
use Rattle.ja_base.specs.Circuit.{Circuit}
use Rattle.ja_base.specs.Invariants.{IsInductive}
use Rattle.ja_base.proofs.JoinLemmas.{joined_is_fresh, fresh_again}
use Rattle.aig_model.specs.Task.{VerificationTask}
use Rattle.sat_plain.specs.Ticks.{TicksAtMost}
use Rattle.inv_cert.specs.Proofs.{IsCandidate}
use Rattle.inv_cert.proofs.JoinLemmas.{IsInductive-joined, All-fresh}

few_by : (b : Bool) (c : List ℕ) (had new : List (List ℕ)) (n : ℕ) → length had ≤ n → length new ≤ n
    → length (cond b had (c ∷ new)) ≤ n + 1
few_by true c had new n few more = omega (arith, few)
few_by false c had new n few more = omega (arith, more)

few_are_fresh : (a b : List (List ℕ)) → length (fresh a b) ≤ length b
few_are_fresh a [] = omega arith
few_are_fresh a (c ∷ cs) =
    let both : length (cond (has_clause a c) (fresh a cs) (c ∷ fresh (a ++ c ∷ []) cs)) ≤ length cs + 1 =
    few_by (has_clause a c) c (fresh a cs) (fresh (a ++ c ∷ []) cs) (length cs) (few_are_fresh a cs)
    (few_are_fresh (a ++ c ∷ []) cs) in
    omega (arith, both)

-- a bound for few is one for many
many_ticks : (before now : Meter) (few many q : ℕ) → few ≤ many → TicksAtMost before now (few * q)
    → TicksAtMost before now (many * q)
many_ticks before now few many q less h =
    let more : few * q ≤ many * q = mul-le-mul_right q less in
    omega (arith, h, more)

module _ (list candidates added : List (List ℕ)) (is : added ≡ fresh list candidates) where
  pub added_are_candidates : (t : VerificationTask) → All (IsCandidate t) candidates → All (IsCandidate t) added
  added_are_candidates t h = subst (All (IsCandidate t)) (sym is) (All-fresh (IsCandidate t) list candidates h)

  -- what is inductive stays so where no clause stands twice
  pub added_are_inductive : (c : Circuit) (set : List Bool) → IsInductive c set (list ++ candidates)
      → IsInductive c set (list ++ added)
  added_are_inductive c set h =
      let P : List (List ℕ) → Type 0 = IsInductive c set in
      let Q : List (List ℕ) → Type 0 = λ more. IsInductive c set (list ++ more) in
      subst Q (sym is) (subst P (joined_is_fresh list candidates) (IsInductive-joined c set list candidates h))

  pub added_are_fresh : fresh list added ≡ added
  added_are_fresh = ap (fresh list) is ∙ fresh_again list candidates ∙ sym is

  -- the list with those that were added is the same as with all
  pub added_are_joined : joined list added ≡ joined list candidates
  added_are_joined =
      joined_is_fresh list added ∙ ap (λ (more : List (List ℕ)). list ++ more) (added_are_fresh ∙ is)
      ∙ sym (joined_is_fresh list candidates)

  pub added_ticks : (before now : Meter) (q : ℕ) → TicksAtMost before now (length added * q)
      → TicksAtMost before now (length candidates * q)
  added_ticks before now q h =
      let few : length added ≤ length candidates = omega (arith, ap length is, few_are_fresh list candidates) in
      many_ticks before now (length added) (length candidates) q few h
