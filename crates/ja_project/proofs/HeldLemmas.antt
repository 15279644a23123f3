-- The held literals are 1 exactly where no property that is expected to hold is broken.
use Rattle.std.proofs.Common.{◌≡◌, ℕ, ◌+◌, ◌<◌, Bool, true, false, not, cond, List, [], ◌∷◌, length, refl, sym, ap, ◌∙◌, arith, inl, inr}
use Rattle.std.specs.Prelude.{All}
use Rattle.std.specs.List.{AllByRecursion, range_with_len}
use Rattle.std.proofs.lemmas.Bool.{cases_lt}
use Rattle.std.proofs.lemmas.List.{get_or_past}
use Rattle.std.proofs.lemmas.List.Elements.{All-from_recursion, recursion_from_All}
use Rattle.std.proofs.lemmas.Option.{slice_get-get_or}
use Rattle.ja_base.specs.Literals.{bit, variable, negated, value}
use Rattle.ja_base.specs.Circuit.{bad_literal}
use Rattle.ja_base.specs.Clauses.{IsBelow}
use Rattle.ja_base.specs.Valuation.{AssumptionsHold}
use Rattle.ja_base.proofs.LiteralLemmas.{value_negated}
use Rattle.aig_model.specs.Netlist.{IsSound, circuit}
use Rattle.aig_model.specs.Task.{VerificationTask}
use Rattle.ja_project.specs.CodedClauses.{held_literals, held_literals_of}
use Rattle.ja_project.specs.Meaning.{CodesAssumptions}
use Rattle.ja_project.proofs.EachLemmas.{each_flattened, each_unflattened, each_in_range, each_of_range}
use Rattle.ja_project.proofs.BelowLemmas.{lit_is_below, negated_is_below}

module _ (P : ℕ → Type 0) (t : VerificationTask) where
  held_each : AllByRecursion P (held_literals t) → (p : ℕ) → p < length t.design.bads → AllByRecursion P (held_literals_of t p)
  held_each h p within =
      each_in_range (λ p. AllByRecursion P (held_literals_of t p)) 0 (length t.design.bads) p
      (each_unflattened P (held_literals_of t) (range_with_len 0 (length t.design.bads)) h) (omega arith) (omega arith)

  each_held : ((p : ℕ) → p < length t.design.bads → AllByRecursion P (held_literals_of t p)) → AllByRecursion P (held_literals t)
  each_held h =
      each_flattened P (held_literals_of t) (range_with_len 0 (length t.design.bads))
      (each_of_range (λ p. AllByRecursion P (held_literals_of t p)) 0 (length t.design.bads) (λ p low high. h p (omega arith)))

good_from : (row : List Bool) (l : ℕ) (b : Bool) → b ≡ true
    → AllByRecursion (λ l. value row l ≡ true) (cond b (negated l ∷ []) []) → value row l ≡ false
good_from row l true e h = is_false (value row l) (sym (value_negated row l) ∙ h.0)
  where
    is_false : (v : Bool) → not v ≡ true → v ≡ false
    is_false true e = absurd cc
    is_false false e = refl
good_from row l false e h = absurd cc

from_good : (row : List Bool) (l : ℕ) (b : Bool) → (b ≡ true → value row l ≡ false)
    → AllByRecursion (λ l. value row l ≡ true) (cond b (negated l ∷ []) [])
from_good row l true h = (value_negated row l ∙ ap not (h refl), tt)
from_good row l false h = tt

-- a property that is expected to hold is one of the design
assumed_within : (t : VerificationTask) (p : ℕ) → length t.expected ≡ length t.design.bads → bit t.expected p ≡ true
    → p < length t.design.bads
assumed_within t p widths e =
    elim (cases_lt p (length t.design.bads)) [
      | inl within ↦ within
      | inr past ↦ let none : bit t.expected p ≡ false = get_or_past t.expected p false (omega arith) in absurd cc
    ]

pub held_means_assumptions : (t : VerificationTask) → length t.expected ≡ length t.design.bads
    → CodesAssumptions t (held_literals t)
held_means_assumptions t widths row = (good, held)
  where
    good : All (λ l. value row l ≡ true) (held_literals t) → AssumptionsHold (circuit t.design) t.expected row
    good all p assumed =
        let h = recursion_from_All (λ l. value row l ≡ true) (held_literals t) all in
        good_from row (bad_literal (circuit t.design) p) (bit t.expected p) assumed
        (held_each (λ l. value row l ≡ true) t h p (assumed_within t p widths assumed))

    held : AssumptionsHold (circuit t.design) t.expected row → All (λ l. value row l ≡ true) (held_literals t)
    held h =
        All-from_recursion (λ l. value row l ≡ true) (held_literals t)
        (each_held (λ l. value row l ≡ true) t
        (λ p within. from_good row (bad_literal (circuit t.design) p) (bit t.expected p) (h p)))

below_if : (vars l : ℕ) (b : Bool) → variable l < vars + 1
    → AllByRecursion (λ l. variable l < vars + 1) (cond b (negated l ∷ []) [])
below_if vars l true h = (negated_is_below vars l h, tt)
below_if vars l false h = tt

pub held_is_below : (t : VerificationTask) → IsSound t.design → IsBelow (t.design.vars + 1) (held_literals t)
held_is_below t sound =
    All-from_recursion (λ l. variable l < t.design.vars + 1) (held_literals t)
    (each_held (λ l. variable l < t.design.vars + 1) t
    (λ p within. below_if t.design.vars (bad_literal (circuit t.design) p) (bit t.expected p)
    (lit_is_below t.design.vars (bad_literal (circuit t.design) p)
    (sound.bads p (bad_literal (circuit t.design) p) (slice_get-get_or t.design.bads p 0 within)).within)))
