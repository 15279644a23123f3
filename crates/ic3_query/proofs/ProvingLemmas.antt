-- What the search for proofs keeps from candidate to candidate.
use Rattle.std.proofs.Common.{◌≡◌, ℕ, ◌+◌, ◌<◌, nat_lt, Bool, true, false, Some, List, [], ◌∷◌, ◌++◌, length, get_or, slice_get, refl, sym, ap, subst, ◌∙◌, arith}
use Rattle.std.proofs.lemmas.Bool.Decides.{nat_tests}
use Rattle.std.proofs.lemmas.List.{length_push}
use Rattle.std.proofs.lemmas.Option.{get_or_from_slice_get, slice_get_within}
use Rattle.std.specs.Prelude.{Contains, Option, None, Result, Err}
use Rattle.std.proofs.lemmas.List.Elements.{All-append, Contains-get_or}
use Rattle.ja_base.specs.Answers.{IfRefused}
use Rattle.ja_base.specs.declared.memory.OrMemory.{OrMemory}
use Rattle.ja_base.specs.declared.memory.OrMemory.TheVariants.{Refused}
use Rattle.ja_base.specs.Invariants.{IsInductive}
use Rattle.aig_model.specs.Netlist.{IsSound, circuit}
use Rattle.aig_model.specs.Task.{VerificationTask}
use Rattle.aig_model.proofs.Places.{get_left, get_last}
use Rattle.refute_check.specs.declared.lines.Refuted.{Refuted}
use Rattle.refute_check.specs.Laws.{Refutes}
use Rattle.refute_check.specs.Refuted.{Satisfies}
use Rattle.ja_project.specs.CodedClauses.{negated_next}
use Rattle.ja_project.specs.Latches.{is_foreign}
use Rattle.inv_cert.specs.Proofs.{IsProofOf, AreProofs, HasProof}
use Rattle.inv_cert.specs.Queries.{step_clauses}
use Rattle.inv_cert.proofs.TakenLemmas.{open_is_not_inductive}
use Rattle.ic3_query.specs.Known.{AreOwn}
use Rattle.ic3_query.specs.Proving.{IsSolved}

-- a proof for each of the first candidates, and no more
pub record AreProved (t : VerificationTask) (base candidates : List (List ℕ)) (proofs : List Refuted) (number : ℕ) : Type 0 where
  pub many : length proofs ≡ number
  pub each : AreProofs t base candidates proofs number

pub AreProved-none : (t : VerificationTask) (base candidates : List (List ℕ)) → AreProved t base candidates [] 0
AreProved-none t base candidates = record { many = refl; each = λ k clause within at. absurd (omega (arith, within)) }

pub AreProved-more : (t : VerificationTask) (base candidates : List (List ℕ)) (proofs : List Refuted) (number : ℕ)
    (clause : List ℕ)
    (proof : Refuted) → AreProved t base candidates proofs number → slice_get candidates number ≡ Some clause
    → IsProofOf t base candidates clause proof → AreProved t base candidates (proofs ++ proof ∷ []) (number + 1)
AreProved-more t base candidates proofs number clause proof h at shows = record {
  many = length_push proofs proof ∙ ap (λ (m : ℕ). m + 1) h.many;
  each = λ k other within is. by_test k other within is (nat_lt k number) refl;
}
  where
    low : (k : ℕ) → nat_lt k number ≡ true → k < number
    low k e = grind (arith, nat_tests)

    last : (k : ℕ) → nat_lt k number ≡ false → k < number + 1 → k ≡ number
    last k e within = grind (arith, nat_tests)

    same : (k : ℕ) (other : List ℕ) → k ≡ number → slice_get candidates k ≡ Some other → clause ≡ other
    same k other e is =
        sym (get_or_from_slice_get candidates number clause [] at) ∙ ap (λ (i : ℕ). get_or candidates i []) (sym e)
        ∙ get_or_from_slice_get candidates k other [] is

    by_test : (k : ℕ) (other : List ℕ) → k < number + 1 → slice_get candidates k ≡ Some other → (b : Bool) → nat_lt k number ≡ b
        → HasProof t base candidates (proofs ++ proof ∷ []) k other
    by_test k other within is true e =
        let had = h.each k other (low k e) is in
        record { proof = had.proof; is = get_left proofs (proof ∷ []) k had.proof had.is; shows = had.shows }
    by_test k other within is false e =
        let here : k ≡ number = last k e within in
        let P : List ℕ → Type 0 = λ c. IsProofOf t base candidates c proof in
        record {
          proof = proof;
          is = ap (λ (i : ℕ). slice_get (proofs ++ proof ∷ []) i) (here ∙ sym h.many) ∙ get_last proofs proof;
          shows = subst P (same k other here is) shows;
        }

-- a candidate without a proof shows that the list with all candidates is not inductive
pub none_is_open : (t : VerificationTask) (base candidates added : List (List ℕ)) (number : ℕ) (clause : List ℕ)
    (answer : Option Refuted) → IsSound t.design
    → length t.expected ≡ length t.design.bads → AreOwn (circuit t.design) base → AreOwn (circuit t.design) candidates
    → IsInductive (circuit t.design) t.expected (base ++ candidates) → slice_get candidates number ≡ Some clause
    → added ≡ step_clauses t base candidates → IsSolved (t.design.vars + 1) added (negated_next t.design clause) answer
    → answer ≡ None → ⊥
none_is_open t base candidates added number clause answer sound expected own_base own inductive at is h e =
    let has : Contains candidates clause =
    let P : List ℕ → Type 0 = Contains candidates in
    subst P (get_or_from_slice_get candidates number clause clause at)
    (Contains-get_or candidates number clause (slice_get_within candidates number clause at)) in
    let P : Option Refuted → Type 0 = IsSolved (t.design.vars + 1) added (negated_next t.design clause) in
    let found = subst P e h in
    let Q : List (List ℕ) → Type 0 = λ list. Satisfies (t.design.vars + 1) list (negated_next t.design clause) found.0 in
    open_is_not_inductive t base candidates clause found.0 sound expected
    (All-append (λ c. is_foreign (circuit t.design) c ≡ false) base candidates own_base own) has (subst Q is found.1) inductive

-- a proof that was found
pub proof_found : (t : VerificationTask) (base candidates added : List (List ℕ)) (clause : List ℕ) (answer : Option Refuted)
    (proof : Refuted)
    → added ≡ step_clauses t base candidates → IsSolved (t.design.vars + 1) added (negated_next t.design clause) answer
    → answer ≡ Some proof → IsProofOf t base candidates clause proof
proof_found t base candidates added clause answer proof is h e =
    let P : Option Refuted → Type 0 = IsSolved (t.design.vars + 1) added (negated_next t.design clause) in
    let Q : List (List ℕ) → Type 0 = λ list. Refutes (t.design.vars + 1) list (negated_next t.design clause) proof in
    subst Q is (subst P e h)

pub refusal_of : {T R : Type 0} (answer : Result T (OrMemory R)) (e : OrMemory R) (r : R) (P : R → Type 0) → IfRefused answer P
    → answer ≡ Err e → e ≡ Refused r → P r
refusal_of {T} {R} answer e r P h is refused =
    let Q : Result T (OrMemory R) → Type 0 = λ a. IfRefused a P in
    let S : OrMemory R → Type 0 = λ e. IfRefused {T = T} (Err e) P in
    subst S refused (subst Q is h)
