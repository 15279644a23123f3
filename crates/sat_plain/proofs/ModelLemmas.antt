-- The row of a trail that gives each variable a value.
use Rattle.std.proofs.Common.{◌≡◌, ℕ, ◌+◌, ◌*◌, ◌%◌, ◌<◌, Bool, true, false, not, cond, List, length, get_or, inl, inr, refl, sym, subst, ◌∙◌, ap, arith}
use Rattle.std.specs.List.{All, list_any}
use Rattle.std.proofs.lemmas.Bool.{cases_eq, false_from_ne_true}
use Rattle.std.proofs.lemmas.Bool.Decides.{nat_tests}
use Rattle.std.proofs.lemmas.List.Elements.{All-contains}
use Rattle.std.proofs.lemmas.List.Recursion.{or_at}
use Rattle.ja_base.specs.Literals.{bit, variable, negated, is_negated, value, SatisfiedBy}
use Rattle.ja_base.specs.Clauses.{IsBelow}
use Rattle.ja_base.proofs.LiteralLemmas.{variable_negated, negated_twice}
use Rattle.ja_base.specs.Trails.{open_lits, IsTrail, IsFull}
use Rattle.refute_check.specs.Lines.{found_of}
use Rattle.refute_check.specs.declared.found.Found.TheVariants.{Other}
use Rattle.sat_plain.specs.Trails.{IsQuiet}
use Rattle.sat_plain.specs.Turns.{IsModel}
use Rattle.sat_plain.proofs.PlaceLemmas.{found_other}
use Rattle.sat_plain.proofs.FinishLemmas.{one_sign}

module _ (vars : ℕ) (values row : List Bool) (lits : List ℕ) (is : IsTrail vars values lits)
    (bits : (v : ℕ) → v < vars → bit row v ≡ bit values (2 * v)) where
  true_value : (l : ℕ) → variable l < vars → bit values l ≡ true → value row l ≡ true
  true_value l small t =
      elim (cases_eq (l % 2) 0) [
        | inl even ↦
            let this : 2 * variable l ≡ l = omega arith in
            let plain : is_negated l ≡ false = grind (arith, nat_tests) in
            ap (λ n. cond n (not (bit row (variable l))) (bit row (variable l))) plain ∙ bits (variable l) small
            ∙ ap (bit values) this ∙ t
        | inr odd ↦
            let this : 2 * variable l + 1 ≡ l = omega arith in
            let minus : is_negated l ≡ true = grind (arith, nat_tests) in
            let other : negated l ≡ 2 * variable l = grind (arith, nat_tests) in
            let gone : bit values (2 * variable l) ≡ false =
            false_from_ne_true (bit values (2 * variable l)) (λ e.
            one_sign lits l is.apart (is.only l t) (is.only (negated l) (ap (bit values) other ∙ e))) in
            ap (λ n. cond n (not (bit row (variable l))) (bit row (variable l))) minus
            ∙ ap not (bits (variable l) small ∙ gone)
      ]

  clause_holds : IsFull vars values → (clause : List ℕ) → IsBelow vars clause
      → found_of values (open_lits values clause) ≡ Other → SatisfiedBy (value row) clause
  clause_holds full clause below e =
      let r = found_other values clause e in
      let m : ℕ = r.0 in
      let small : variable m < vars = All-contains (λ l. variable l < vars) clause m below r.1 in
      let P : ℕ → Type 0 = λ v. v < vars in
      let t : bit values m ≡ true =
      ap (bit values) (sym (negated_twice m)) ∙ full.other (negated m) (subst P (sym (variable_negated m)) small) r.2 in
      or_at (list_any (value row)) (value row) refl (λ _ _. refl) clause r.1.0 m r.1.1
      (ap (value row) r.1.2 ∙ true_value m small t)

pub model_of : (vars : ℕ) (values row : List Bool) (lits : List ℕ) (clauses : List (List ℕ)) → IsTrail vars values lits
    → IsFull vars values → IsQuiet clauses values → All (IsBelow vars) clauses → length row ≡ vars
    → ((v : ℕ) → v < vars → bit row v ≡ bit values (2 * v)) → IsModel vars clauses lits row
model_of vars values row lits clauses is full quiet below width bits = record {
  width = width;
  clauses_hold = λ k d less.
      clause_holds vars values row lits is bits full (get_or clauses k d) (below k d less) (quiet k d less);
  lits_hold = λ l has.
      true_value vars values row lits is bits l (All-contains (λ m. variable m < vars) lits l is.below has) (is.on l has);
}
