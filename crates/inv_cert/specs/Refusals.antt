-- Why candidates with their proofs are not closed, and which refusal comes first.
use Rattle.std.specs.Prelude.{◌≡◌, ℕ, ◌+◌, ◌<◌, not, if◌then◌else◌, Option, Some, None, List, [], ◌∷◌, ◌++◌, slice_get}
use Rattle.ja_base.specs.Circuit.{bad_literal}
use Rattle.aig_model.specs.Netlist.{circuit}
use Rattle.aig_model.specs.Task.{VerificationTask}
use Rattle.refute_check.specs.Lines.{refusal}
use Rattle.refute_check.specs.Laws.{with_lines}
use Rattle.refute_check.specs.Refuted.{is_covered}
use Rattle.refute_check.specs.declared.lines.Line.{Line}
use Rattle.refute_check.specs.declared.lines.Refuted.{Refuted}
use Rattle.inv_cert.specs.declared.not_closed.NotClosed.{NotClosed}
use Rattle.inv_cert.specs.declared.not_closed.NotClosed.TheVariants as case
use Rattle.ja_project.specs.Latches.{is_foreign}
use Rattle.ja_project.specs.Start.{starts}
use Rattle.ja_project.specs.CodedClauses.{negated_next}
use Rattle.inv_cert.specs.Queries.{step_clauses, cover_clauses}

-- this hint at this place, or else what comes later
abbrev pub hint_or : Option ℕ → ℕ → Option (ℕ × ℕ) → Option (ℕ × ℕ)
hint_or (Some hint) at later = Some (at, hint)
hint_or None at later = later

-- The first line that a checker with these clauses refuses, and its hint. The lines before it are accepted and added.
abbrev pub refused_line : ℕ → List (List ℕ) → ℕ → List Line → Option (ℕ × ℕ)
refused_line vars clauses at [] = None
refused_line vars clauses at (line ∷ lines) =
    hint_or (refusal vars clauses line.clause line.hints) at
    (refused_line vars (clauses ++ line.clause ∷ []) (at + 1) lines)

-- what is wrong with the proof of this number: a line that is refused, or that the clauses and lines do not cover the literals
abbrev pub proof_refusal : ℕ → ℕ → List (List ℕ) → List Line → List ℕ → Option NotClosed
proof_refusal number vars clauses lines under = by_line (refused_line vars clauses 0 lines)
  where
    by_line : Option (ℕ × ℕ) → Option NotClosed
    by_line (Some refused) = Some (case.Line number refused.0 refused.1)
    by_line None = if is_covered (with_lines clauses lines) under then None
        else Some (case.Left number)

-- what is wrong with a proof that the list covers the property; its number is 0
abbrev pub cover_refusal : VerificationTask → List (List ℕ) → ℕ → List Line → Option NotClosed
cover_refusal t clauses p lines =
    proof_refusal 0 (t.design.vars + 1) (cover_clauses t clauses) lines
    (bad_literal (circuit t.design) p ∷ [])

-- what is wrong with the candidate of this number; its proof is that of the same number
abbrev pub candidate_refusal : VerificationTask → List (List ℕ) → List (List ℕ) → List Refuted → ℕ
    → List ℕ → Option NotClosed
candidate_refusal t base candidates proofs number clause =
    if is_foreign (circuit t.design) clause then Some (case.Foreign number) else
    if not (starts (circuit t.design) clause) then Some (case.Start number)
    else by_proof (slice_get proofs number)
  where
    by_proof : Option Refuted → Option NotClosed
    by_proof None = Some (case.Missing number)
    by_proof (Some proof) =
        proof_refusal number (t.design.vars + 1) (step_clauses t base candidates) proof.lines
        (negated_next t.design clause)

-- nothing is wrong with any candidate below this number
abbrev pub AreTaken : VerificationTask → List (List ℕ) → List (List ℕ) → List Refuted → ℕ → Type 0
AreTaken t base candidates proofs number = (k : ℕ) (clause : List ℕ) → k < number
    → slice_get candidates k ≡ Some clause
    → candidate_refusal t base candidates proofs k clause ≡ None

-- this is wrong with the least candidate with which something is
pub record IsFirstRefusal (t : VerificationTask) (base candidates : List (List ℕ))
    (proofs : List Refuted) (r : NotClosed) : Type 0 where
  pub number : ℕ
  pub clause : List ℕ
  pub clause_is : slice_get candidates number ≡ Some clause
  pub refused : candidate_refusal t base candidates proofs number clause ≡ Some r
  pub earlier : AreTaken t base candidates proofs number
