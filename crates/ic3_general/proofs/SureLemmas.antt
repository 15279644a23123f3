-- The three-valued rule: what is surely 1 is 1 in each row of the cube, a part of a clause makes no more literals sure, and the
-- clause of a whole row makes all sure that are 1.
use Rattle.std.proofs.Common.{◌≡◌, ℕ, suc, zero, ◌+◌, ◌*◌, ◌<◌, ◌≤◌, ◌%◌, ◌==◌, ◌&&◌, ◌||◌, Bool, true, false, not, List, Some, is_some, length, get_or, slice_get, [], ◌∷◌, refl, sym, ap, ap₂, ◌∙◌, subst, arith, eqb-true, ⊎_elim, ◌⊎◌, inl, inr}
use Rattle.std.specs.Prelude.{All, Any, Contains}
use Rattle.std.specs.List.{list_any, list_all}
use Rattle.std.specs.FinMap as finite_map
use Rattle.std.proofs.lemmas.Bool.{false≢true, cases_Bool, cases_lt, or_cases, or_left, or_right, and_parts, and_from, and_cases, not-false, false_from_ne_true}
use Rattle.std.proofs.lemmas.Bool.Decides.{nat_tests}
use Rattle.std.proofs.lemmas.List.{get_or_past}
use Rattle.std.proofs.lemmas.List.Elements.{All-weaker, All-tail}
use Rattle.std.proofs.lemmas.List.Folds.{list_all_at}
use Rattle.ja_base.specs.Literals.{bit, value, variable, negated, is_negated, literal_of, with_sign}
use Rattle.ja_base.specs.Clauses.{has_literal}
use Rattle.ja_base.specs.Circuit.{Circuit, Latch, IsAcyclic, is_defined}
use Rattle.ja_base.specs.Invariants.{latch_value}
use Rattle.ja_base.specs.Valuation.{IsValuation, latch_row, input_row}
use Rattle.ja_base.proofs.ClauseLemmas.{has_literal_decides}
use Rattle.ja_base.proofs.LiteralLemmas.{value_negated, variable_negated}
use Rattle.aig_eval.proofs.PlaceLemmas.{map_at}
use Rattle.aig_eval.proofs.DefinedLemmas.{found_in, some_value}
use Rattle.ja_project.specs.Latches.{is_over_latch}
use Rattle.ja_project.proofs.ValueLemmas.{now_value}
use Rattle.ja_project.proofs.StepLemmas.{variable_of}
use Rattle.ic3_general.specs.Cubes.{IsOutside}
use Rattle.ic3_general.specs.Lifting.{IsSureRow, MakesSure}
use Rattle.ic3_general.specs.Dropping.{HasUnmet}
use Rattle.ic3_general.proofs.CubeLemmas.{passes_none}

-- ---- one induction over the gates

-- bits of literals that go by the three-valued rule at each gate
pub record IsThreeValued (c : Circuit) (f : ℕ → Bool) : Type 0 where
  pub ands : (g : ℕ) (rights : ℕ × ℕ) → finite_map.get c.gates g ≡ Some rights
      → f (literal_of g false) ≡ (f rights.0 && f rights.1)
  pub ors : (g : ℕ) (rights : ℕ × ℕ) → finite_map.get c.gates g ≡ Some rights
      → f (literal_of g true) ≡ (f (negated rights.0) || f (negated rights.1))

cases_sign : (l : ℕ) → (l ≡ literal_of (variable l) false) ⊎ (l ≡ literal_of (variable l) true)
cases_sign l = ⊎_elim (λ even. inl (omega arith)) (λ odd. inr (omega arith)) (cases_lt (l % 2) 1)

-- variables of a range that has the right sides of its gates
abbrev pub IsClosed : Circuit → (ℕ → Type 0) → Type 0
IsClosed c InRange = (g : ℕ) (rights : ℕ × ℕ) → finite_map.get c.gates g ≡ Some rights
    → InRange (variable rights.0) × InRange (variable rights.1)

-- what is 1 at each literal over no gate is 1 at each literal
module _ (c : Circuit) (acyclic : IsAcyclic c) (InRange : ℕ → Type 0) (closed : IsClosed c InRange) (f h : ℕ → Bool)
    (f_rule : IsThreeValued c f) (h_rule : IsThreeValued c h)
    (leaf : (l : ℕ) → InRange (variable l) → is_some (finite_map.get c.gates (variable l)) ≡ false → f l ≡ true → h l ≡ true) where
  at_gate : (g l : ℕ) (rights : ℕ × ℕ) → finite_map.get c.gates g ≡ Some rights → variable l ≡ g
      → ((m : ℕ) → InRange (variable m) → acyclic.height (variable m) < acyclic.height g → f m ≡ true → h m ≡ true)
      → f l ≡ true → h l ≡ true
  at_gate g l rights e var below one =
      ⊎_elim
      (λ plain. let is : l ≡ literal_of g false = subst (λ u. l ≡ literal_of u false) var plain in
      subst (λ m. h m ≡ true) (sym is) (both (subst (λ m. f m ≡ true) is one)))
      (λ negative. let is : l ≡ literal_of g true = subst (λ u. l ≡ literal_of u true) var negative in
      subst (λ m. h m ≡ true) (sym is) (either (subst (λ m. f m ≡ true) is one)))
      (cases_sign l)
    where
      lower : (m : ℕ) → acyclic.height (variable m) < acyclic.height g → acyclic.height (variable (negated m)) < acyclic.height g
      lower m low = subst (λ u. acyclic.height u < acyclic.height g) (sym (variable_negated m)) low

      ranged : (m : ℕ) → InRange (variable m) → InRange (variable (negated m))
      ranged m range = subst InRange (sym (variable_negated m)) range

      both : f (literal_of g false) ≡ true → h (literal_of g false) ≡ true
      both is =
          let parts = and_parts (f rights.0) (f rights.1) (sym (f_rule.ands g rights e) ∙ is) in
          let rises = acyclic.rises g rights e in
          let range = closed g rights e in
          h_rule.ands g rights e
          ∙ and_from (h rights.0) (h rights.1) (below rights.0 range.0 rises.0 parts.0) (below rights.1 range.1 rises.1 parts.1)

      either : f (literal_of g true) ≡ true → h (literal_of g true) ≡ true
      either is =
          let rises = acyclic.rises g rights e in
          let range = closed g rights e in
          h_rule.ors g rights e
          ∙ ⊎_elim
          (λ first. or_left (h (negated rights.0)) (h (negated rights.1))
          (below (negated rights.0) (ranged rights.0 range.0) (lower rights.0 rises.0) first))
          (λ second. or_right (h (negated rights.0)) (h (negated rights.1))
          (below (negated rights.1) (ranged rights.1 range.1) (lower rights.1 rises.1) second))
          (or_cases (f (negated rights.0)) (f (negated rights.1)) (sym (f_rule.ors g rights e) ∙ is))

  carried_below : (n l : ℕ) → InRange (variable l) → acyclic.height (variable l) < n → f l ≡ true → h l ≡ true
  carried_below zero l range low one = absurd (omega arith)
  carried_below (suc n) l range low one =
      ⊎_elim
      (λ some. let gate = some_value (finite_map.get c.gates (variable l)) some in
      at_gate (variable l) l gate.0 gate.1 refl (λ m more lower. carried_below n m more (omega arith)) one)
      (λ none. leaf l range none one)
      (cases_Bool (is_some (finite_map.get c.gates (variable l))))

  pub carried : (l : ℕ) → InRange (variable l) → f l ≡ true → h l ≡ true
  carried l range = carried_below (suc (acyclic.height (variable l))) l range (omega arith)

-- ---- what goes by the rule

value_negative : (row : List Bool) (u : ℕ) → value row (literal_of u true) ≡ not (bit row u)
value_negative row u =
    let negative : is_negated (literal_of u true) ≡ true = grind (arith, nat_tests) in
    rw (negative, variable_of u) refl

value_positive : (row : List Bool) (u : ℕ) → value row (literal_of u false) ≡ bit row u
value_positive row u =
    let positive : is_negated (literal_of u false) ≡ false = grind (arith, nat_tests) in
    let var : variable (literal_of u false) ≡ u = omega arith in
    rw (positive, var) refl

not_both : (a b : Bool) → not (a && b) ≡ (not a || not b)
not_both true b = refl
not_both false b = refl

pub values_go_by_rule : (c : Circuit) (s x v : List Bool) → IsValuation c s x v → IsThreeValued c (value v)
values_go_by_rule c s x v step = record {
  ands = λ g rights e. value_positive v g ∙ step.gates g rights e;
  ors = λ g rights e. value_negative v g ∙ ap not (step.gates g rights e) ∙ not_both (value v rights.0) (value v rights.1)
      ∙ sym (ap₂ (λ a b. a || b) (value_negated v rights.0) (value_negated v rights.1));
}

pub bits_go_by_rule : (c : Circuit) (values : List Bool) (clause : List ℕ) (sure : List Bool) → IsSureRow c values clause sure
    → IsThreeValued c (bit sure)
bits_go_by_rule c values clause sure row = record { ands = row.ands; ors = row.ors }

-- a bit that is 1 is that of a literal in range
pub within_row : (vars l : ℕ) (sure : List Bool) → length sure ≡ 2 * (vars + 1) → bit sure l ≡ true → variable l ≤ vars
within_row vars l sure width one =
    ⊎_elim (λ low. omega arith)
    (λ high. absurd (false≢true (sym (get_or_past sure l false (omega arith)) ∙ one)))
    (cases_lt l (2 * (vars + 1)))

pub over_negated : (c : Circuit) (l : ℕ) → is_over_latch c (negated l) ≡ is_over_latch c l
over_negated c l = ap (λ (u : ℕ). list_any (λ (k : Latch). u == k.var) c.latches) (variable_negated l)

-- ---- steps under the same inputs have the same values at what is no latch's and no gate's

same_leaf : (c : Circuit) (s t x v w : List Bool) (u : ℕ) → IsValuation c s x v → IsValuation c t x w
    → list_any (λ (k : Latch). u == k.var) c.latches ≡ false → is_some (finite_map.get c.gates u) ≡ false → bit v u ≡ bit w u
same_leaf c s t x v w u a b no_latch no_gate =
    ⊎_elim
    (λ t. let r = found_in (λ x. u == x) c.inputs t in
    let same = eqb-true u r.1 r.3 in ap (bit v) same ∙ at_input r.0 r.1 r.2 ∙ ap (bit w) (sym same))
    (λ none. let undefined : is_defined c u ≡ false =
    ap₂ (λ p q. p || q) (ap₂ (λ p q. p || q) none no_latch) no_gate in
    a.rest u undefined ∙ sym (b.rest u undefined))
    (cases_Bool (list_any (λ x. u == x) c.inputs))
  where
    at_input : (k i : ℕ) → slice_get c.inputs k ≡ Some i → bit v i ≡ bit w i
    at_input k i e =
        sym (map_at (bit v) c.inputs k i false e) ∙ ap (λ r. get_or r k false) (a.inputs ∙ sym b.inputs)
        ∙ map_at (bit w) c.inputs k i false e

-- ---- soundness

module _ (c : Circuit) (values : List Bool) (clause : List ℕ) (sure : List Bool) (row : IsSureRow c values clause sure)
    (step : IsValuation c (latch_row c values) (input_row c values) values) (s v : List Bool) (out : IsOutside c clause s)
    (now : IsValuation c s (input_row c values) v) where
  sure_latch : (l : ℕ) → is_over_latch c l ≡ true → bit sure l ≡ true → value v l ≡ true
  sure_latch l over one =
      let among : has_literal clause (negated l) ≡ true = sym (row.leaves.latches l over) ∙ one in
      let unmet : latch_value c.latches s (negated l) ≡ false =
      passes_none (latch_value c.latches s) clause out.unmet (negated l) ((has_literal_decides clause (negated l)).0 among) in
      let there : value v (negated l) ≡ false =
      sym (now_value c.latches v (negated l) (over_negated c l ∙ over))
      ∙ ap (λ (r : List Bool). latch_value c.latches r (negated l)) now.latches ∙ unmet in
      not-false (value v l) (sym (value_negated v l) ∙ there)

  sure_leaf : (l : ℕ) → Unit {0} → is_some (finite_map.get c.gates (variable l)) ≡ false → bit sure l ≡ true → value v l ≡ true
  sure_leaf l range no_gate one =
      ⊎_elim (λ over. sure_latch l over one)
      (λ free. ap (with_sign l) (same_leaf c s (latch_row c values) (input_row c values) v values (variable l) now step free no_gate)
      ∙ sym (row.leaves.others l (within_row c.vars l sure row.leaves.width one) free no_gate) ∙ one)
      (cases_Bool (is_over_latch c l))

  pub sure_is_1 : IsAcyclic c → (l : ℕ) → bit sure l ≡ true → value v l ≡ true
  sure_is_1 acyclic l =
      carried c acyclic (λ _. Unit {0}) (λ g rights e. (tt, tt)) (bit sure) (value v) (bits_go_by_rule c values clause sure row)
      (values_go_by_rule c s (input_row c values) v now) sure_leaf l tt

pub passes_each : (p : ℕ → Bool) (xs : List ℕ) → list_all p xs ≡ true → All (λ x. p x ≡ true) xs
passes_each p xs all k d within = ⊎_elim (λ t. t)
    (λ f. absurd (false≢true (sym (list_all_at p xs k d within f) ∙ all))) (cases_Bool (p (get_or xs k d)))

-- where a row of the rule has each target literal at 1, the cube makes them 1
pub makes_sure : (c : Circuit) (values : List Bool) (clause target : List ℕ) (sure : List Bool) → IsAcyclic c
    → IsValuation c (latch_row c values) (input_row c values) values → IsSureRow c values clause sure
    → list_all (bit sure) target ≡ true → MakesSure c values target clause
makes_sure c values clause target sure acyclic step row all s v out now =
    All-weaker (λ l. bit sure l ≡ true) (λ l. value v l ≡ true) (sure_is_1 c values clause sure row step s v out now acyclic)
    target (passes_each (bit sure) target all)

-- ---- a part of a clause makes no more sure

module _ (c : Circuit) (values : List Bool) (part whole : List ℕ) (less more : List Bool)
    (part_row : IsSureRow c values part less) (whole_row : IsSureRow c values whole more)
    (among : (m : ℕ) → Contains part m → Contains whole m) where
  more_leaf : (l : ℕ) → Unit {0} → is_some (finite_map.get c.gates (variable l)) ≡ false → bit less l ≡ true → bit more l ≡ true
  more_leaf l range no_gate one =
      ⊎_elim
      (λ over. whole_row.leaves.latches l over
      ∙ (has_literal_decides whole (negated l)).1
      (among (negated l) ((has_literal_decides part (negated l)).0 (sym (part_row.leaves.latches l over) ∙ one))))
      (λ free. let within = within_row c.vars l less part_row.leaves.width one in
      whole_row.leaves.others l within free no_gate ∙ sym (part_row.leaves.others l within free no_gate) ∙ one)
      (cases_Bool (is_over_latch c l))

  pub sure_in_more : IsAcyclic c → (l : ℕ) → bit less l ≡ true → bit more l ≡ true
  sure_in_more acyclic l =
      carried c acyclic (λ _. Unit {0}) (λ g rights e. (tt, tt)) (bit less) (bit more)
      (bits_go_by_rule c values part less part_row) (bits_go_by_rule c values whole more whole_row) more_leaf l tt

some_fails : (p : ℕ → Bool) (xs : List ℕ) → list_all p xs ≡ false → Any (λ x. p x ≡ false) xs
some_fails p [] e = absurd cc
some_fails p (x ∷ xs) e = ⊎_elim (λ here. (0, x, omega arith, refl, here))
    (λ later. let r = some_fails p xs later in (suc r.0, r.1, omega (arith, r.2), r.3, r.4)) (and_cases (p x) (list_all p xs) e)

pub all_pass_each : (p : ℕ → Bool) (xs : List ℕ) → All (λ x. p x ≡ true) xs → list_all p xs ≡ true
all_pass_each p [] h = refl
all_pass_each p (y ∷ ys) h = and_from (p y) (list_all p ys) (h 0 0 (omega arith))
    (all_pass_each p ys (All-tail (λ x. p x ≡ true) y ys h))

fewer_fail : (p q : ℕ → Bool) (xs : List ℕ) → ((x : ℕ) → p x ≡ true → q x ≡ true) → list_all q xs ≡ false
    → list_all p xs ≡ false
fewer_fail p q xs each fails = false_from_ne_true (list_all p xs) (λ all.
    let e : list_all q xs ≡ true =
    all_pass_each q xs (All-weaker (λ x. p x ≡ true) (λ x. q x ≡ true) each xs (passes_each p xs all)) in
    false≢true (sym fails ∙ e))

-- where a clause leaves some target literal unsure, each part of it does
pub part_leaves_unsure : (c : Circuit) (values : List Bool) (part whole target : List ℕ) (less more : List Bool) → IsAcyclic c
    → IsSureRow c values part less → IsSureRow c values whole more → ((m : ℕ) → Contains part m → Contains whole m)
    → list_all (bit more) target ≡ false → Any (λ t. bit less t ≡ false) target
part_leaves_unsure c values part whole target less more acyclic part_row whole_row among fails =
    some_fails (bit less) target
    (fewer_fail (bit less) (bit more) target (sure_in_more c values part whole less more part_row whole_row among acyclic) fails)

-- ---- the clause of a whole row

module _ (c : Circuit) (values : List Bool) (clause : List ℕ) (sure : List Bool) (row : IsSureRow c values clause sure)
    (unmet : HasUnmet c values clause) where
  whole_leaf : (l : ℕ) → variable l ≤ c.vars → is_some (finite_map.get c.gates (variable l)) ≡ false → value values l ≡ true
      → bit sure l ≡ true
  whole_leaf l range no_gate one =
      ⊎_elim
      (λ over. row.leaves.latches l over ∙ (has_literal_decides clause (negated l)).1 (unmet l over one))
      (λ free. row.leaves.others l range free no_gate ∙ one)
      (cases_Bool (is_over_latch c l))

  pub whole_is_sure : IsAcyclic c → IsClosed c (λ u. u ≤ c.vars)
      → IsValuation c (latch_row c values) (input_row c values) values
      → (l : ℕ) → variable l ≤ c.vars → value values l ≡ true → bit sure l ≡ true
  whole_is_sure acyclic closed step =
      carried c acyclic (λ u. u ≤ c.vars) closed (value values) (bit sure)
      (values_go_by_rule c (latch_row c values) (input_row c values) values step) (bits_go_by_rule c values clause sure row)
      whole_leaf
