-- The literals of a question.
use Rattle.std.proofs.Common.{◌≡◌, ℕ, zero, suc, ◌+◌, ◌-◌, ◌≤◌, ◌<◌, List, [], ◌∷◌, ◌++◌, get_or, map, sym, ap, subst, ◌∙◌, arith}
use Rattle.std.specs.List.{range_with_len}
use Rattle.std.proofs.lemmas.List.{map-append}
use Rattle.std.proofs.lemmas.List.Elements.{All-append, All-map, All-cons, All-nil}
use Rattle.std.proofs.lemmas.List.FromFn.{length-range_with_len, get_or-range_with_len}
use Rattle.ja_base.specs.Literals.{variable}
use Rattle.ja_base.specs.Clauses.{IsBelow}
use Rattle.ja_base.specs.Circuit.{bad_literal}
use Rattle.aig_model.specs.Netlist.{Netlist, circuit}
use Rattle.aig_model.specs.Task.{VerificationTask}
use Rattle.ja_project.specs.CodedClauses.{held_literals, negated_next}
use Rattle.ic3_query.specs.Switches.{switch, switch_var}
use Rattle.ic3_query.specs.Under.{switches, step_literals, bad_literals}
use Rattle.ic3_query.proofs.RowLemmas.{variable_positive}

range_push : (a n : ℕ) → range_with_len a (suc n) ≡ range_with_len a n ++ (a + n) ∷ []
range_push a zero = ap (λ (m : ℕ). m ∷ []) (omega arith)
range_push a (suc n) =
    ap (λ (l : List ℕ). a ∷ l) (range_push (a + 1) n ∙ ap (λ (m : ℕ). range_with_len (a + 1) n ++ m ∷ []) (omega arith))

-- one switch more
pub switches_more : (n : Netlist) (level at : ℕ) (old new : List ℕ) → level ≤ at
    → old ≡ map (switch n) (range_with_len level (at - level))
    → new ≡ old ++ switch n at ∷ [] → new ≡ map (switch n) (range_with_len level (at + 1 - level))
switches_more n level at old new up is push =
    let count : at + 1 - level ≡ suc (at - level) = omega (arith, up) in
    let last : level + (at - level) ≡ at = omega (arith, up) in
    push ∙ ap (λ (l : List ℕ). l ++ switch n at ∷ []) is
    ∙ sym (ap (λ (m : ℕ). map (switch n) (range_with_len level m)) count
    ∙ ap (map (switch n)) (range_push level (at - level) ∙ ap (λ (m : ℕ). range_with_len level (at - level) ++ m ∷ []) last)
    ∙ map-append (switch n) (range_with_len level (at - level)) (at ∷ []))

pub switches_all : (n : Netlist) (level top at : ℕ) (lits : List ℕ) → at - level ≤ top + 1 - level → top + 1 ≤ at
    → lits ≡ map (switch n) (range_with_len level (at - level)) → lits ≡ switches n level top
switches_all n level top at lits low high is =
    let count : at - level ≡ top + 1 - level = omega (arith, low, high) in
    is ∙ ap (λ (m : ℕ). map (switch n) (range_with_len level m)) count

pub switches_below : (n : Netlist) (k top : ℕ) → IsBelow (n.vars + 1 + top + 1) (switches n k top)
switches_below n k top =
    All-map (λ l. variable l < n.vars + 1 + top + 1) (switch n) (range_with_len k (top + 1 - k)) (λ i d within.
    let short : i < top + 1 - k = omega (arith, within, length-range_with_len k (top + 1 - k)) in
    let is : get_or (range_with_len k (top + 1 - k)) i d ≡ k + i = get_or-range_with_len k (top + 1 - k) i d short in
    omega (arith, variable_positive (switch_var n (get_or (range_with_len k (top + 1 - k)) i d)), is, short))

lower_below : (few many : ℕ) (lits : List ℕ) → few ≤ many → IsBelow few lits → IsBelow many lits
lower_below few many lits up h k d within = omega (arith, up, h k d within)

pub step_literals_below : (t : VerificationTask) (k top : ℕ) (clause lits : List ℕ)
    → IsBelow (t.design.vars + 1) (held_literals t)
    → IsBelow (t.design.vars + 1) (negated_next t.design clause) → lits ≡ step_literals t k top clause
    → IsBelow (t.design.vars + 1 + top + 1) lits
step_literals_below t k top clause lits held later is =
    let count : ℕ = t.design.vars + 1 + top + 1 in
    let up : t.design.vars + 1 ≤ t.design.vars + 1 + top + 1 = omega arith in
    let P : ℕ → Type 0 = λ l. variable l < t.design.vars + 1 + top + 1 in
    let Q : List ℕ → Type 0 = IsBelow (t.design.vars + 1 + top + 1) in
    subst Q (sym is) (All-append P (switches t.design k top ++ held_literals t) (negated_next t.design clause)
    (All-append P (switches t.design k top) (held_literals t) (switches_below t.design k top)
    (lower_below (t.design.vars + 1) (t.design.vars + 1 + top + 1) (held_literals t) up held))
    (lower_below (t.design.vars + 1) (t.design.vars + 1 + top + 1) (negated_next t.design clause) up later))

pub bad_literals_below : (t : VerificationTask) (k top p : ℕ) (lits : List ℕ)
    → variable (bad_literal (circuit t.design) p) < t.design.vars + 1 → lits ≡ bad_literals t k top p
    → IsBelow (t.design.vars + 1 + top + 1) lits
bad_literals_below t k top p lits low is =
    let P : ℕ → Type 0 = λ l. variable l < t.design.vars + 1 + top + 1 in
    let Q : List ℕ → Type 0 = IsBelow (t.design.vars + 1 + top + 1) in
    subst Q (sym is)
    (All-append P (switches t.design k top) (bad_literal (circuit t.design) p ∷ []) (switches_below t.design k top)
    (All-cons P (bad_literal (circuit t.design) p) [] (omega (arith, low)) (All-nil P)))
