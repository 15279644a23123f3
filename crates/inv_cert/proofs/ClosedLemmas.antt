-- A closed list that is seen for another task with the same problem, and what an answer says of it.
use Rattle.std.proofs.Common.{◌≡◌, ℕ, ◌+◌, Some, None, Ok, Err, Result, List, [], ◌∷◌, ◌++◌, length, slice_get, false, sym, ap, subst, ◌∙◌}
use Rattle.std.specs.List.{All}
use Rattle.std.proofs.lemmas.Option.{get_or_from_slice_get}
use Rattle.ja_base.specs.Answers.{IfRefused}
use Rattle.ja_base.specs.declared.memory.OrMemory.{OrMemory}
use Rattle.ja_base.specs.declared.memory.OrMemory.TheVariants.{Refused, Memory}
use Rattle.ja_base.specs.Circuit.{Problem, bad_literal}
use Rattle.ja_base.specs.ClauseSets.{fresh, joined}
use Rattle.ja_base.specs.Invariants.{Covers}
use Rattle.aig_model.specs.Netlist.{IsSound, circuit}
use Rattle.aig_model.specs.Task.{VerificationTask, problem}
use Rattle.refute_check.specs.Checked.{Checked}
use Rattle.refute_check.specs.declared.lines.Line.{Line}
use Rattle.refute_check.specs.declared.lines.Refuted.{Refuted}
use Rattle.ja_project.specs.Latches.{is_foreign}
use Rattle.inv_cert.specs.Closed.{ClosedList, IsClosed}
use Rattle.inv_cert.specs.Queries.{cover_clauses}
use Rattle.inv_cert.specs.Refusals.{AreTaken, proof_refusal}
use Rattle.inv_cert.specs.Taken.{IsLoaded}
use Rattle.inv_cert.proofs.JoinLemmas.{IsClosed-joined, joined_with_fresh}
use Rattle.inv_cert.proofs.MeaningLemmas.{accepted_are_own, accepted_are_inductive, accepted_is_refuted, refuted_is_covered}

-- the list of a closed one, for a task with its problem
pub closed_for : (seen : ClosedList) (task t : VerificationTask) (clauses : List (List ℕ))
    → record { task = task; clauses = clauses } ≡ seen
    → IsClosed (problem task) clauses → problem seen.task ≡ problem t → IsClosed (problem t) clauses
closed_for seen task t clauses view closed same =
    let P : Problem → Type 0 = λ p. IsClosed p clauses in
    subst P (ap (λ (c : ClosedList). problem c.task) view ∙ same) closed

-- with accepted candidates
pub IsClosed-accepted : (t : VerificationTask) → IsSound t.design → length t.expected ≡ length t.design.bads
    → (base candidates : List (List ℕ)) (proofs : List Refuted) → IsClosed (problem t) base
    → AreTaken t base candidates proofs (length candidates) → IsClosed (problem t) (joined base candidates)
IsClosed-accepted t sound expected base candidates proofs closed accepted =
    IsClosed-joined (problem t) base candidates closed (accepted_are_own t base candidates proofs accepted)
    (accepted_are_inductive t sound expected base candidates proofs closed.own accepted)

-- the view of a closed list by its parts
pub closed_list_is : (task t : VerificationTask) (list clauses : List (List ℕ)) → task ≡ t → list ≡ clauses
    → ◌≡◌ {A = ClosedList} (record { task = task; clauses = list }) (record { task = t; clauses = clauses })
closed_list_is task t list clauses e f =
    let P : VerificationTask → ClosedList = λ u. record { task = u; clauses = list } in
    let Q : List (List ℕ) → ClosedList = λ l. record { task = t; clauses = l } in
    ap P e ∙ ap Q f

-- ---- a list that grows, seen by its parts

module _ (seen : ClosedList) (task : VerificationTask) (base candidates : List (List ℕ))
    (view : ◌≡◌ {A = ClosedList} (record { task = task; clauses = base }) seen) (new : fresh seen.clauses candidates ≡ candidates)
    (after : List (List ℕ)) (pushed : after ≡ base ++ candidates) where
  fresh_here : fresh base candidates ≡ candidates
  fresh_here = ap (λ (c : ClosedList). fresh c.clauses candidates) view ∙ new

  pub grown_here : after ≡ joined base candidates
  grown_here = pushed ∙ sym (joined_with_fresh base candidates fresh_here)

  pub grown_seen : after ≡ joined seen.clauses candidates
  grown_seen = grown_here ∙ ap (λ (c : ClosedList). joined c.clauses candidates) view

-- ---- answers

pub IfRefused-weaker : {T R : Type 0} (answer : Result T (OrMemory R)) (P Q : R → Type 0) → ((r : R) → P r → Q r)
    → IfRefused answer P → IfRefused answer Q
IfRefused-weaker (Ok x) P Q f h = tt
IfRefused-weaker (Err (Refused r)) P Q f h = f r h
IfRefused-weaker (Err Memory) P Q f h = tt

-- what a checker that was loaded for a property tells of its literal
pub cover_refusal_is : (t : VerificationTask) (seen : ClosedList) (task : VerificationTask) (clauses : List (List ℕ))
    (checker : Checked) (lines : List Line)
    (prop bad : ℕ) → record { task = task; clauses = clauses } ≡ seen
    → IsLoaded (t.design.vars + 1) (cover_clauses t clauses) checker
    → slice_get t.design.bads prop ≡ Some bad
    → proof_refusal 0 checker.vars checker.list lines (bad ∷ [])
    ≡ proof_refusal 0 (t.design.vars + 1) (cover_clauses t seen.clauses) lines (bad_literal (circuit t.design) prop ∷ [])
cover_refusal_is t seen task clauses checker lines prop bad view h at =
    ap (λ (n : ℕ). proof_refusal 0 n checker.list lines (bad ∷ [])) h.vars_are
    ∙ ap (λ (list : List (List ℕ)). proof_refusal 0 (t.design.vars + 1) list lines (bad ∷ []))
    (h.list ∙ ap (λ (c : ClosedList). cover_clauses t c.clauses) view)
    ∙ ap (λ (l : ℕ). proof_refusal 0 (t.design.vars + 1) (cover_clauses t seen.clauses) lines (l ∷ []))
    (sym (get_or_from_slice_get t.design.bads prop bad 0 at))

-- a property of which nothing is left to refute
pub covered_by_proof : (t : VerificationTask) → IsSound t.design
    → (seen : ClosedList) (task : VerificationTask) (clauses : List (List ℕ)) (lines : List Line) (prop : ℕ)
    → record { task = task; clauses = clauses } ≡ seen → IsClosed (problem task) clauses → problem seen.task ≡ problem t
    → proof_refusal 0 (t.design.vars + 1) (cover_clauses t seen.clauses) lines (bad_literal (circuit t.design) prop ∷ []) ≡ None
    → Covers (circuit t.design) seen.clauses prop
covered_by_proof t sound seen task clauses lines prop view closed same accepted =
    let own = (closed_for seen task t clauses view closed same).own in
    let P : ClosedList → Type 0 = λ c. All (λ clause. is_foreign (circuit t.design) clause ≡ false) c.clauses in
    refuted_is_covered t sound seen.clauses prop (subst P view own)
    (accepted_is_refuted 0 (t.design.vars + 1) (cover_clauses t seen.clauses) lines
    (bad_literal (circuit t.design) prop ∷ []) accepted)
