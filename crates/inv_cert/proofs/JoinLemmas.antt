-- A list that two became is closed where they are.
use Rattle.std.proofs.Common.{◌≡◌, ℕ, Bool, true, false, cond, List, [], ◌∷◌, ◌++◌, ap, ◌∙◌}
use Rattle.std.specs.Prelude.{All}
use Rattle.std.proofs.lemmas.List.Elements.{All-append, All-nil, All-cons, All-head, All-tail}
use Rattle.ja_base.specs.Literals.{SatisfiedBy}
use Rattle.ja_base.specs.Circuit.{Circuit, Problem}
use Rattle.ja_base.specs.ClauseSets.{has_clause, fresh, joined}
use Rattle.ja_base.specs.Valuation.{IsValuation, next_state, MeetsConstraints, AssumptionsHold}
use Rattle.ja_base.specs.Runs.{IsInitial}
use Rattle.ja_base.specs.Invariants.{latch_value, MeetsClauses, IsInductive}
use Rattle.ja_project.specs.Latches.{is_foreign}
use Rattle.inv_cert.specs.Closed.{IsClosed}
use Rattle.inv_cert.proofs.InductionLemmas.{All-part, IsInductive-same, IsInductive-append}
use Rattle.ja_base.proofs.JoinLemmas.{first_is_part, joined_is_fresh, joined_has_both, joined_has_no_other, All-joined, AreDistinct-joined}

pub IsInductive-joined : (c : Circuit) (set : List Bool) (a b : List (List ℕ)) → IsInductive c set (a ++ b)
    → IsInductive c set (joined a b)
IsInductive-joined c set a b h = IsInductive-same c set (a ++ b) (joined a b) (joined_has_no_other a b) (joined_has_both a b) h

-- ---- what the first list does not have

-- clauses of which the list has none
pub joined_with_fresh : (a b : List (List ℕ)) → fresh a b ≡ b → joined a b ≡ a ++ b
joined_with_fresh a b e = joined_is_fresh a b ∙ ap (λ (more : List (List ℕ)). a ++ more) e

fresh_by : (P : List ℕ → Type 0) (b : Bool) (c : List ℕ) (had new : List (List ℕ)) → P c → All P had → All P new
    → All P (cond b had (c ∷ new))
fresh_by P true c had new here old more = old
fresh_by P false c had new here old more = All-cons P c new here more

pub All-fresh : (P : List ℕ → Type 0) (a b : List (List ℕ)) → All P b → All P (fresh a b)
All-fresh P a [] h = All-nil P
All-fresh P a (c ∷ cs) h =
    fresh_by P (has_clause a c) c (fresh a cs) (fresh (a ++ c ∷ []) cs) (All-head P c cs h)
    (All-fresh P a cs (All-tail P c cs h)) (All-fresh P (a ++ c ∷ []) cs (All-tail P c cs h))

-- ---- closed lists

-- initial rows meet the candidates, and each step from a row that meets the list and all candidates leads to one that meets these
pub record AreInductiveOver (c : Circuit) (set : List Bool) (base candidates : List (List ℕ)) : Type 0 where
  pub starts : (state : List Bool) → IsInitial c state → MeetsClauses c state candidates
  pub steps : (state input values : List Bool) → IsValuation c state input values → MeetsClauses c state (base ++ candidates)
      → MeetsConstraints c values → AssumptionsHold c set values → MeetsClauses c (next_state c values) candidates

pub IsInductive-over : (c : Circuit) (set : List Bool) (base candidates : List (List ℕ)) → IsInductive c set base
    → AreInductiveOver c set base candidates → IsInductive c set (base ++ candidates)
IsInductive-over c set base candidates g h = record {
  starts = λ state initial.
      All-append (SatisfiedBy (latch_value c.latches state)) base candidates (g.starts state initial) (h.starts state initial);
  steps = λ state input values now meets constrained held.
      let of_base : MeetsClauses c state base =
      All-part (SatisfiedBy (latch_value c.latches state)) (base ++ candidates) base meets (first_is_part base candidates) in
      All-append (SatisfiedBy (latch_value c.latches (next_state c values))) base candidates
      (g.steps state input values now of_base constrained held) (h.steps state input values now meets constrained held);
}

-- a closed list, and candidates that are inductive over it
pub IsClosed-joined : (t : Problem) (base candidates : List (List ℕ)) → IsClosed t base
    → All (λ clause. is_foreign t.circuit clause ≡ false) candidates → AreInductiveOver t.circuit t.assumed base candidates
    → IsClosed t (joined base candidates)
IsClosed-joined t base candidates g own h = record {
  inductive = IsInductive-joined t.circuit t.assumed base candidates
      (IsInductive-over t.circuit t.assumed base candidates g.inductive h);
  own = All-joined (λ clause. is_foreign t.circuit clause ≡ false) base candidates g.own own;
  distinct = AreDistinct-joined base candidates g.distinct;
}

-- two lists that are closed for one task
pub IsClosed-both : (t : Problem) (a b : List (List ℕ)) → IsClosed t a → IsClosed t b → IsClosed t (joined a b)
IsClosed-both t a b g h = record {
  inductive = IsInductive-joined t.circuit t.assumed a b (IsInductive-append t.circuit t.assumed a b g.inductive h.inductive);
  own = All-joined (λ clause. is_foreign t.circuit clause ≡ false) a b g.own h.own;
  distinct = AreDistinct-joined a b g.distinct;
}
