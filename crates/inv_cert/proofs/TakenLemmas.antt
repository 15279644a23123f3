-- A proof of each candidate leaves no refusal, and a row in which a candidate is left open shows that the list is not inductive.
use Rattle.std.proofs.Common.{◌≡◌, ℕ, ◌+◌, ◌||◌, ◌&&◌, Bool, true, false, Option, Some, None, List, [], ◌∷◌, ◌++◌, length, get_or, map, ◌==◌, refl, sym, ap, subst, ◌∙◌, ⊎_elim, arith}
use Rattle.std.specs.List.{list_any, All}
use Rattle.std.specs.Prelude.{Contains}
use Rattle.std.proofs.lemmas.Bool.{both_ways, or_cases, or_left, or_right, and_parts, eqb-true, eq-eqb}
use Rattle.std.proofs.lemmas.List.{length-map, get_or-map}
use Rattle.std.proofs.lemmas.List.Folds.{Any-from_list_any, list_any_at}
use Rattle.std.proofs.lemmas.List.Elements.{All-append, All-contains, Contains-append_right}
use Rattle.std.proofs.lemmas.Option.{get_or_from_slice_get, slice_get_within}
use Rattle.ja_base.specs.Literals.{value, negated, SatisfiedBy, AllSatisfiedBy}
use Rattle.ja_base.specs.Clauses.{has_literal, is_part}
use Rattle.ja_base.specs.Circuit as plain
use Rattle.ja_base.specs.Invariants.{latch_value, MeetsClauses, IsInductive}
use Rattle.ja_base.specs.Valuation.{next_state}
use Rattle.ja_base.proofs.JoinLemmas.{first_is_part, second_is_part}
use Rattle.aig_model.specs.Netlist.{IsSound, circuit}
use Rattle.aig_model.specs.Task.{VerificationTask}
use Rattle.refute_check.specs.Laws.{AreAccepted, with_lines}
use Rattle.refute_check.specs.Refuted.{Satisfies, has_both_signs, is_covered, is_false_under}
use Rattle.refute_check.specs.declared.lines.Line.{Line}
use Rattle.refute_check.specs.declared.lines.Refuted.{Refuted}
use Rattle.ja_project.specs.CodedClauses.{coded_clauses, held_literals, negated_next}
use Rattle.ja_project.specs.Latches.{is_foreign}
use Rattle.ja_project.proofs.HeldLemmas.{held_means_assumptions}
use Rattle.ja_project.proofs.StepLemmas.{clauses_mean_steps}
use Rattle.ja_project.proofs.ValueLemmas.{met_back, later_false}
use Rattle.inv_cert.specs.declared.not_closed.NotClosed.{NotClosed}
use Rattle.inv_cert.specs.Proofs.{IsProofOf, AreProofs, IsCandidate}
use Rattle.inv_cert.specs.Queries.{step_clauses}
use Rattle.inv_cert.specs.Refusals.{hint_or, refused_line, proof_refusal, IsFirstRefusal}
use Rattle.inv_cert.specs.Taken.{refusal_by}
use Rattle.inv_cert.proofs.AcceptLemmas.{refusal_at}
use Rattle.inv_cert.proofs.InductionLemmas.{All-part}

-- ---- what covers a part covers the whole

has_more : (core under : List ℕ) → is_part core under ≡ true → (l : ℕ) → has_literal core l ≡ true → has_literal under l ≡ true
has_more [] under part l has = absurd cc
has_more (m ∷ ms) under part l has =
    let both = and_parts (has_literal under m) (is_part ms under) part in
    ⊎_elim (λ here. ap (has_literal under) (sym (eqb-true m l here)) ∙ both.0) (λ later. has_more ms under both.1 l later)
    (or_cases (m == l) (has_literal ms l) has)

and_both : (a b : Bool) → a ≡ true → b ≡ true → (a && b) ≡ true
and_both true b e f = f
and_both false b e f = e

false_under_more : (core under : List ℕ) → is_part core under ≡ true → (clause : List ℕ) → is_false_under core clause ≡ true
    → is_false_under under clause ≡ true
false_under_more core under part [] h = refl
false_under_more core under part (l ∷ ls) h =
    let both = and_parts (has_literal core (negated l)) (is_false_under core ls) h in
    and_both (has_literal under (negated l)) (is_false_under under ls) (has_more core under part (negated l) both.0)
    (false_under_more core under part ls both.1)

any_more : (p q : List ℕ → Bool) → ((clause : List ℕ) → p clause ≡ true → q clause ≡ true) → (clauses : List (List ℕ))
    → list_any p clauses ≡ true → list_any q clauses ≡ true
any_more p q more [] h = absurd cc
any_more p q more (c ∷ cs) h =
    ⊎_elim (λ here. or_left (q c) (list_any q cs) (more c here))
    (λ later. or_right (q c) (list_any q cs) (any_more p q more cs later))
    (or_cases (p c) (list_any p cs) h)

both_signs_more : (core under : List ℕ) → is_part core under ≡ true → has_both_signs core ≡ true → has_both_signs under ≡ true
both_signs_more core under part h =
    let found = Any-from_list_any (λ l. has_literal core (negated l)) core h in
    let l : ℕ = found.1 in
    let there : has_literal core l ≡ true =
    list_any_at (λ m. m == l) core found.0 l found.2 (eq-eqb (get_or core found.0 l) l found.3) in
    let in_under = Any-from_list_any (λ m. m == l) under (has_more core under part l there) in
    list_any_at (λ m. has_literal under (negated m)) under in_under.0 in_under.1 in_under.2
    (ap (λ m. has_literal under (negated m)) (in_under.3 ∙ eqb-true in_under.1 l in_under.4)
    ∙ has_more core under part (negated l) found.4)

pub covered_more : (clauses : List (List ℕ)) (core under : List ℕ) → is_part core under ≡ true → is_covered clauses core ≡ true
    → is_covered clauses under ≡ true
covered_more clauses core under part h =
    ⊎_elim
    (λ some. or_left (list_any (is_false_under under) clauses) (has_both_signs under)
    (any_more (is_false_under core) (is_false_under under) (false_under_more core under part) clauses some))
    (λ signs. or_right (list_any (is_false_under under) clauses) (has_both_signs under) (both_signs_more core under part signs))
    (or_cases (list_any (is_false_under core) clauses) (has_both_signs core) h)

-- ---- no refusal

none_refused : (vars : ℕ) (clauses : List (List ℕ)) (at : ℕ) (lines : List Line) → AreAccepted vars clauses lines
    → refused_line vars clauses at lines ≡ None
none_refused vars clauses at [] h = refl
none_refused vars clauses at (line ∷ lines) h =
    ap (λ (r : Option ℕ). hint_or r at (refused_line vars (clauses ++ line.clause ∷ []) (at + 1) lines)) h.0
    ∙ none_refused vars (clauses ++ line.clause ∷ []) (at + 1) lines h.1

no_refusal : (number vars : ℕ) (clauses : List (List ℕ)) (lines : List Line) (under : List ℕ)
    → refused_line vars clauses 0 lines ≡ None → is_covered (with_lines clauses lines) under ≡ true
    → proof_refusal number vars clauses lines under ≡ None
no_refusal number vars clauses lines under none covered = rw (none, covered) refl

taken_by : (t : VerificationTask) (base candidates : List (List ℕ)) (number : ℕ) (clause : List ℕ) (proof : Refuted)
    → IsCandidate t clause → IsProofOf t base candidates clause proof
    → refusal_by t (step_clauses t base candidates) number clause (Some proof) ≡ None
taken_by t base candidates number clause proof is shows =
    let list = step_clauses t base candidates in
    rw (is.own, is.begins) (no_refusal number (t.design.vars + 1) list proof.lines (negated_next t.design clause)
    (none_refused (t.design.vars + 1) list 0 proof.lines shows.accepted)
    (covered_more (with_lines list proof.lines) proof.core (negated_next t.design clause) shows.part shows.covered))

pub proofs_are_taken : (t : VerificationTask) (base candidates : List (List ℕ)) (proofs : List Refuted) (r : NotClosed)
    → All (IsCandidate t) candidates → AreProofs t base candidates proofs (length candidates)
    → IsFirstRefusal t base candidates proofs r → ⊥
proofs_are_taken t base candidates proofs r all have refused =
    let clause : List ℕ = refused.clause in
    let within = slice_get_within candidates refused.number clause refused.clause_is in
    let proof = have refused.number clause within refused.clause_is in
    let P : List ℕ → Type 0 = IsCandidate t in
    let is : IsCandidate t clause = subst P (get_or_from_slice_get candidates refused.number clause clause refused.clause_is)
    (all refused.number clause within) in
    let none = refusal_at t base candidates proofs refused.number clause (Some proof.proof) proof.is
    ∙ taken_by t base candidates refused.number clause proof.proof is proof.shows in
    let wrong : Some r ≡ None = sym refused.refused ∙ none in
    absurd cc

-- ---- a row in which a candidate is left open

or_false : (b : Bool) → (b || false) ≡ true → b ≡ true
or_false true e = refl
or_false false e = cc

held_back : (row : List Bool) (lits : List ℕ) → AllSatisfiedBy (value row) (map (λ l. l ∷ []) lits)
    → All (λ l. value row l ≡ true) lits
held_back row lits h = λ k d within.
    let unit : get_or (map (λ l. l ∷ []) lits) k [] ≡ get_or lits k d ∷ [] = get_or-map (λ (l : ℕ). l ∷ []) lits k d [] within in
    or_false (value row (get_or lits k d))
    (ap (list_any (value row)) (sym unit) ∙ h k [] (omega (arith, within, length-map lits (λ (l : ℕ). l ∷ []))))

pub open_is_not_inductive : (t : VerificationTask) (base candidates : List (List ℕ)) (clause : List ℕ) (row : List Bool)
    → IsSound t.design → length t.expected ≡ length t.design.bads
    → All (λ c. is_foreign (circuit t.design) c ≡ false) (base ++ candidates) → Contains candidates clause
    → Satisfies (t.design.vars + 1) (step_clauses t base candidates) (negated_next t.design clause) row
    → IsInductive (circuit t.design) t.expected (base ++ candidates) → ⊥
open_is_not_inductive t base candidates clause row sound expected own has s inductive =
    let c : plain.Circuit = circuit t.design in
    let P : List ℕ → Type 0 = SatisfiedBy (value row) in
    let units : List (List ℕ) = map (λ l. l ∷ []) (held_literals t) in
    let coded = coded_clauses t.design in
    let front = All-part P (coded ++ units ++ base ++ candidates) (coded ++ units ++ base) s.clauses_hold
    (first_is_part (coded ++ units ++ base) candidates) in
    let of_candidates = All-part P (coded ++ units ++ base ++ candidates) candidates s.clauses_hold
    (second_is_part (coded ++ units ++ base) candidates) in
    let of_base = All-part P (coded ++ units ++ base) base front (second_is_part (coded ++ units) base) in
    let low = All-part P (coded ++ units ++ base) (coded ++ units) front (first_is_part (coded ++ units) base) in
    let of_units = All-part P (coded ++ units) units low (second_is_part coded units) in
    let of_coded = All-part P (coded ++ units) coded low (first_is_part coded units) in
    let step = (clauses_mean_steps t.design sound row s.width).0 of_coded in
    let held = (held_means_assumptions t expected row).0 (held_back row (held_literals t) of_units) in
    let meets : MeetsClauses c step.0 (base ++ candidates) =
    subst (λ (state : List Bool). MeetsClauses c state (base ++ candidates)) step.2.latches
    (met_back c row (base ++ candidates) own (All-append P base candidates of_base of_candidates)) in
    let later : MeetsClauses c (next_state c row) (base ++ candidates) = inductive.steps step.0 step.1 row step.2 meets
    step.3 held in
    both_ways (list_any (latch_value c.latches (next_state c row)) clause)
    (later_false t.design row clause step.2.constant s.under_holds)
    (All-contains (SatisfiedBy (latch_value c.latches (next_state c row))) (base ++ candidates) clause later
    (Contains-append_right base candidates clause has))
