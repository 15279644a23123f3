-- Proofs that are taken, and rows that show that there is none.
use Rattle.std.specs.Prelude.{◌≡◌, ℕ, ◌+◌, ◌<◌, Bool, true, false, Some, List, ◌++◌, length, slice_get, All, Contains}
use Rattle.ja_base.specs.Invariants.{IsInductive}
use Rattle.aig_model.specs.Netlist.{IsSound, circuit}
use Rattle.aig_model.specs.Task.{VerificationTask}
use Rattle.refute_check.specs.Laws.{Refutes}
use Rattle.refute_check.specs.Refuted.{Satisfies}
use Rattle.refute_check.specs.declared.lines.Refuted.{Refuted}
use Rattle.ja_project.specs.CodedClauses.{negated_next}
use Rattle.ja_project.specs.Latches.{is_foreign}
use Rattle.ja_project.specs.Start.{starts}
use Rattle.inv_cert.specs.Queries.{step_clauses}
use Rattle.inv_cert.specs.Refusals.{IsFirstRefusal}
use Rattle.inv_cert.specs.declared.not_closed.NotClosed.{NotClosed}

-- over the clauses of a step the proof refutes that the clause does not hold one step later
abbrev pub IsProofOf : VerificationTask → List (List ℕ) → List (List ℕ) → List ℕ → Refuted → Type 0
IsProofOf t base candidates clause proof =
    Refutes (t.design.vars + 1) (step_clauses t base candidates) (negated_next t.design clause)
    proof

-- at this place stands a proof of the clause
pub record HasProof (t : VerificationTask) (base candidates : List (List ℕ))
    (proofs : List Refuted) (k : ℕ) (clause : List ℕ) : Type 0 where
  pub proof : Refuted
  pub is : slice_get proofs k ≡ Some proof
  pub shows : IsProofOf t base candidates clause proof

-- each candidate below this number has its proof
abbrev pub AreProofs : VerificationTask → List (List ℕ) → List (List ℕ) → List Refuted → ℕ → Type 0
AreProofs t base candidates proofs number = (k : ℕ) (clause : List ℕ) → k < number
    → slice_get candidates k ≡ Some clause → HasProof t base candidates proofs k clause

-- the clause is over latches, says something, and no initial row falsifies it
pub record IsCandidate (t : VerificationTask) (clause : List ℕ) : Type 0 where
  pub own : is_foreign (circuit t.design) clause ≡ false
  pub begins : starts (circuit t.design) clause ≡ true

-- candidates that each have a proof have no refusal
abbrev pub ProofsAreTaken : Type 0
ProofsAreTaken = (t : VerificationTask) (base candidates : List (List ℕ)) (proofs : List Refuted)
    (r : NotClosed) → All (IsCandidate t) candidates
    → AreProofs t base candidates proofs (length candidates)
    → IsFirstRefusal t base candidates proofs r → ⊥

-- where a row meets the clauses of a step and not a candidate one step later, the list with the candidates is not inductive
abbrev pub OpenIsNotInductive : Type 0
OpenIsNotInductive = (t : VerificationTask) (base candidates : List (List ℕ)) (clause : List ℕ)
    (row : List Bool) → IsSound t.design → length t.expected ≡ length t.design.bads
    → All (λ c. is_foreign (circuit t.design) c ≡ false) (base ++ candidates)
    → Contains candidates clause
    → Satisfies (t.design.vars + 1) (step_clauses t base candidates)
    (negated_next t.design clause) row
    → IsInductive (circuit t.design) t.expected (base ++ candidates) → ⊥
