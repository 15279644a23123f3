-- The end of a walk: the line is accepted.
use Rattle.std.proofs.Common.{◌≡◌, ℕ, ◌*◌, ◌<◌, Bool, true, false, not, cond, nat_lt, List, length, get_or, reverse, Some, None, inl, inr, refl, sym, subst, ◌∙◌, ap, arith}
use Rattle.std.specs.List.{Contains, list_any, list_all}
use Rattle.std.proofs.lemmas.Bool.Decides.{nat_tests, Decides-ltb, Decides-by_and, Decides-by_or}
use Rattle.std.proofs.lemmas.Bool.{and_from, cases_order, false_from_ne_true}
use Rattle.std.proofs.lemmas.List.{length-replicate, get_or_default}
use Rattle.std.proofs.lemmas.List.Elements.{All-contains, Contains-get_or}
use Rattle.ja_base.specs.Literals.{bit, variable, negated}
use Rattle.ja_base.specs.Clauses.{IsSetOf, has_literal}
use Rattle.ja_base.proofs.LiteralLemmas.{variable_negated, negated_twice}
use Rattle.ja_base.proofs.ClauseLemmas.{has_literal_decides}
use Rattle.refute_check.specs.Refuted.{has_both_signs}
use Rattle.refute_check.specs.Lines.{outcome, assumed, unknown, refusal, is_fit}
use Rattle.ja_base.specs.Trails.{AreApart}
use Rattle.sat_plain.specs.Derive.{Derived, IsReady, IsDerived, IsWalked}
use Rattle.sat_plain.proofs.Members.{Contains-none}
use Rattle.sat_plain.proofs.TrailLemmas.{bit_within}
use Rattle.sat_plain.proofs.AssumedLemmas.{assumed_is_negated, negated_is_assumed, length_assumed, bit_unknown}

-- the two signs of a variable do not both stand on a trail
pub one_sign : (trail : List ℕ) (l : ℕ) → AreApart trail → Contains trail l → Contains trail (negated l) → ⊥
one_sign trail l apart first second =
    let i : ℕ = first.0 in
    let j : ℕ = second.0 in
    let a : get_or trail i 0 ≡ l = get_or_default trail i 0 l first.1 ∙ first.2 in
    let b : get_or trail j 0 ≡ negated l = get_or_default trail j 0 (negated l) second.1 ∙ second.2 in
    elim (cases_order i j) [
      | inl same ↦ not_itself l (sym a ∙ ap (λ k. get_or trail k 0) same ∙ b)
      | inr less ↦ elim less [
        | inl low ↦ apart i j 0 low second.1 (ap variable a ∙ sym (variable_negated l) ∙ sym (ap variable b))
        | inr high ↦ apart j i 0 high first.1 (ap variable b ∙ variable_negated l ∙ sym (ap variable a))
      ]
    ]
  where
    not_itself : (k : ℕ) → k ≡ negated k → ⊥
    not_itself k e = grind (arith, nat_tests)

line_fits : (vars : ℕ) (clauses : List (List ℕ)) (trail clause : List ℕ) (d : Derived) → IsWalked vars trail
    → IsSetOf d.lits clause → IsDerived vars clauses trail 0 d → is_fit vars clause ≡ true
line_fits vars clauses trail clause d walked set_of h =
    and_from (list_all (λ l. nat_lt (variable l) vars) clause) (not (has_both_signs clause)) below
    (ap not (false_from_ne_true (has_both_signs clause) no_signs))
  where
    on : (m : ℕ) → Contains clause m → Contains trail (negated m)
    on m has = h.from m ((set_of.members m).0 has)

    below : list_all (λ l. nat_lt (variable l) vars) clause ≡ true
    below =
        (Decides-by_and (λ l. nat_lt (variable l) vars) (λ l. variable l < vars)
        (list_all (λ l. nat_lt (variable l) vars)) (λ l. Decides-ltb (variable l) vars) refl (λ _ _. refl) clause).1
        (λ k e less.
        let m : ℕ = get_or clause k e in
        let w : variable (negated m) < vars =
        All-contains (λ l. variable l < vars) trail (negated m) walked.below (on m (Contains-get_or clause k e less)) in
        let P : ℕ → Type 0 = λ u. u < vars in
        subst P (variable_negated m) w)

    no_signs : has_both_signs clause ≡ true → ⊥
    no_signs e =
        let p : ℕ → Bool = λ l. has_literal clause (negated l) in
        let r = (Decides-by_or p (λ l. p l ≡ true) (list_any p) (λ l. (λ k. k, λ k. k)) refl (λ _ _. refl) clause).0 e in
        let m : ℕ = get_or clause r.0 0 in
        let first : Contains trail (negated m) = on m (Contains-get_or clause r.0 0 r.1) in
        let second : Contains trail (negated (negated m)) = on (negated m) ((has_literal_decides clause (negated m)).0 (r.2 0)) in
        one_sign trail (negated m) walked.apart first second

pub finished : (vars : ℕ) (clauses : List (List ℕ)) (trail clause : List ℕ) (d : Derived) → IsWalked vars trail
    → IsSetOf d.lits clause → IsDerived vars clauses trail 0 d → refusal vars clauses clause (reverse d.hints) ≡ None
finished vars clauses trail clause d walked set_of h =
    ap (λ b. cond b (outcome clauses (reverse d.hints) (assumed clause (unknown vars)) 0).1 (Some 0))
    (line_fits vars clauses trail clause d walked set_of h)
    ∙ h.accepted (assumed clause (unknown vars)) 0 ready
  where
    width : length (assumed clause (unknown vars)) ≡ length d.marks
    width = length_assumed clause (unknown vars) ∙ length-replicate (2 * vars) false ∙ sym h.width

    ready : IsReady trail 0 d (assumed clause (unknown vars))
    ready = record {
      width = width;
      marked = λ m e.
          elim (h.known m e) [
            | inl k ↦ absurd (Contains-none m k)
            | inr k ↦
                let small : m < length d.marks = bit_within d.marks m e in
                let wide : length (unknown vars) ≡ length d.marks = length-replicate (2 * vars) false ∙ sym h.width in
                let P : ℕ → Type 0 = λ n. n < length (unknown vars) in
                let Q : ℕ → Type 0 = λ n. bit (assumed clause (unknown vars)) n ≡ true in
                subst Q (negated_twice m) (negated_is_assumed clause (unknown vars) (negated m)
                ((set_of.members (negated m)).1 k) (subst P (sym (negated_twice m)) (omega arith)))
          ];
      only = λ m e.
          elim (assumed_is_negated clause (unknown vars) m e) [
            | inl k ↦ inr ((set_of.members (negated m)).0 k)
            | inr f ↦ absurd (bit_unknown (2 * vars) m f)
          ];
    }
