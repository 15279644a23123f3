-- The clauses of a sound design hold exactly at its steps under the constraints.
use Rattle.std.proofs.Common.{◌≡◌, ℕ, ◌+◌, ◌<◌, ◌≤◌, ◌&&◌, ◌||◌, Bool, true, false, not, cond, List, [], ◌∷◌, ◌++◌, length, map, Some, slice_get, refl, sym, ap, ◌∙◌, arith, inl, inr}
use Rattle.std.specs.FinMap as finite_map
use Rattle.std.specs.List.{AllByRecursion, flat_map, range_with_len}
use Rattle.std.proofs.lemmas.Bool.{cases_lt}
use Rattle.std.proofs.lemmas.Bool.Decides.{nat_tests}
use Rattle.std.proofs.lemmas.List.{get_or_past}
use Rattle.std.proofs.lemmas.List.Elements.{All-from_recursion, recursion_from_All}
use Rattle.ja_base.specs.Literals.{bit, variable, is_negated, value, literal_of, SatisfiedBy, AllSatisfiedBy}
use Rattle.ja_base.specs.Circuit.{is_defined}
use Rattle.ja_base.specs.Valuation.{MeetsConstraints, latch_row, input_row}
use Rattle.aig_model.specs.declared.netlist.AndGate.{AndGate}
use Rattle.aig_model.specs.Netlist.{Netlist, IsSound, circuit, gate_var}
use Rattle.aig_model.proofs.GateHeights.{entry_has_gate}
use Rattle.ja_project.specs.CodedClauses.{gate_clauses, undefined_clauses, coded_clauses}
use Rattle.ja_project.specs.Meaning.{IsLegalStep, CodesSteps}
use Rattle.ja_project.proofs.EachLemmas.{each_left, each_right, each_joined, each_at, each_from_places, each_mapped, each_unmapped, each_flattened, each_unflattened, each_in_range, each_of_range}
use Rattle.ja_project.proofs.GateLemmas.{value_even, gate_holds, holds_gate, gate_of_circuit}

one_held : (b : Bool) → (b || false) ≡ true → b ≡ true
one_held true e = refl
one_held false e = e

held_one : (b : Bool) → b ≡ true → (b || false) ≡ true
held_one true e = refl
held_one false e = e

not_false : (b : Bool) → not b ≡ true → b ≡ false
not_false true e = absurd cc
not_false false e = refl

false_not : (b : Bool) → b ≡ false → not b ≡ true
false_not true e = absurd cc
false_not false e = refl

pub variable_of : (u : ℕ) → variable (literal_of u true) ≡ u
variable_of u = omega arith

value_negative : (row : List Bool) (u : ℕ) → value row (literal_of u true) ≡ not (bit row u)
value_negative row u =
    let negative : is_negated (literal_of u true) ≡ true = grind (arith, nat_tests) in
    rw (negative, variable_of u) refl

-- ---- the parts of the list

gates_part : Netlist → List (List ℕ)
gates_part n = flat_map gate_clauses n.gates

undefined_part : Netlist → List (List ℕ)
undefined_part n = flat_map (undefined_clauses n) (range_with_len 1 n.vars)

constraints_part : Netlist → List (List ℕ)
constraints_part n = map (λ l. l ∷ []) n.constraints

pub record Parts (P : List ℕ → Type 0) (n : Netlist) : Type 0 where
  pub constant : P (1 ∷ [])
  pub gates : (k : ℕ) (g : AndGate) → slice_get n.gates k ≡ Some g → AllByRecursion P (gate_clauses g)
  pub undefined : (u : ℕ) → 1 ≤ u → u < 1 + n.vars → AllByRecursion P (undefined_clauses n u)
  pub constraints : AllByRecursion (λ l. P (l ∷ [])) n.constraints

module _ (P : List ℕ → Type 0) (n : Netlist) where
  parts_of : AllByRecursion P (coded_clauses n) → Parts P n
  unfolding gates_part undefined_part constraints_part
  parts_of h =
      let front = each_left P (gates_part n ++ undefined_part n) (constraints_part n) h.1 in
      let gates = each_unflattened P gate_clauses n.gates (each_left P (gates_part n) (undefined_part n) front) in
      let undefined = each_unflattened P (undefined_clauses n) (range_with_len 1 n.vars)
      (each_right P (gates_part n) (undefined_part n) front) in
      record {
        constant = h.0;
        gates = λ k g is. each_at (λ g. AllByRecursion P (gate_clauses g)) n.gates k g gates is;
        undefined = λ u low high. each_in_range (λ u. AllByRecursion P (undefined_clauses n u)) 1 n.vars u undefined low high;
        constraints = each_unmapped P (λ l. l ∷ []) n.constraints
            (each_right P (gates_part n ++ undefined_part n) (constraints_part n) h.1);
      }

  pub from_parts : Parts P n → AllByRecursion P (coded_clauses n)
  unfolding gates_part undefined_part constraints_part
  from_parts h =
      let gates = each_flattened P gate_clauses n.gates
      (each_from_places (λ g. AllByRecursion P (gate_clauses g)) n.gates h.gates) in
      let undefined = each_flattened P (undefined_clauses n) (range_with_len 1 n.vars)
      (each_of_range (λ u. AllByRecursion P (undefined_clauses n u)) 1 n.vars h.undefined) in (
        h.constant,
        each_joined P (gates_part n ++ undefined_part n) (constraints_part n)
            (each_joined P (gates_part n) (undefined_part n) gates undefined)
            (each_mapped P (λ l. l ∷ []) n.constraints h.constraints),
      )

-- ---- one variable that nothing defines

undefined_is_0 : (n : Netlist) (row : List Bool) (u : ℕ) (b : Bool) → b ≡ is_defined (circuit n) u → b ≡ false
    → AllByRecursion (SatisfiedBy (value row)) (cond b [] ((literal_of u true ∷ []) ∷ [])) → bit row u ≡ false
undefined_is_0 n row u true e free h = absurd cc
undefined_is_0 n row u false e free h = not_false (bit row u) (sym (value_negative row u)
    ∙ one_held (value row (literal_of u true)) h.0)

is_0_undefined : (row : List Bool) (u : ℕ) (b : Bool) → (b ≡ false → bit row u ≡ false)
    → AllByRecursion (SatisfiedBy (value row)) (cond b [] ((literal_of u true ∷ []) ∷ []))
is_0_undefined row u true h = tt
is_0_undefined row u false h = (
  held_one (value row (literal_of u true)) (value_negative row u
      ∙ false_not (bit row u) (h refl)),
  tt,
)

-- ---- the meaning

module _ (n : Netlist) (sound : IsSound n) (row : List Bool) (width : length row ≡ n.vars + 1) where
  rest_is_0 : Parts (SatisfiedBy (value row)) n → (u : ℕ) → is_defined (circuit n) u ≡ false → bit row u ≡ false
  rest_is_0 h u free =
      elim (cases_lt 0 u) [
        | inl some ↦ elim (cases_lt u (1 + n.vars)) [
          | inl within ↦ undefined_is_0 n row u (is_defined (circuit n) u) refl free (h.undefined u (omega arith) within)
          | inr past ↦ get_or_past row u false (omega arith)
        ]
        | inr none ↦ let zero : u ≡ 0 = omega arith in ap (bit row) zero
            ∙ not_false (bit row 0) (one_held (not (bit row 0)) h.constant)
      ]

  gates_are : Parts (SatisfiedBy (value row)) n → (u : ℕ) (rights : ℕ × ℕ) → finite_map.get (circuit n).gates u ≡ Some rights
      → bit row u ≡ (value row rights.0 && value row rights.1)
  gates_are h u rights is =
      let e = entry_has_gate n u rights is in
      let here : bit row (gate_var e.gate) ≡ (value row e.gate.rhs0 && value row e.gate.rhs1)
      = sym (value_even row e.gate.lhs (sound.gates e.place e.gate e.is).lhs.even)
      ∙ gate_holds row e.gate (h.gates e.place e.gate e.is) in
      ap (bit row) (sym e.var) ∙ here ∙ ap (λ (r : ℕ × ℕ). value row r.0 && value row r.1) e.rights_are

  constraints_hold : Parts (SatisfiedBy (value row)) n → MeetsConstraints (circuit n) row
  constraints_hold h = All-from_recursion (λ l. value row l ≡ true) n.constraints (each_one n.constraints h.constraints)
    where
      each_one : (ls : List ℕ) → AllByRecursion (λ l. SatisfiedBy (value row) (l ∷ [])) ls
          → AllByRecursion (λ l. value row l ≡ true) ls
      each_one [] h = tt
      each_one (l ∷ ls) h = (one_held (value row l) h.0, each_one ls h.1)

  step_from_clauses : AllSatisfiedBy (value row) (coded_clauses n) → IsLegalStep n row
  step_from_clauses all =
      let h = parts_of (SatisfiedBy (value row)) n (recursion_from_All (SatisfiedBy (value row)) (coded_clauses n) all) in (
        latch_row (circuit n) row,
        input_row (circuit n) row,
        record {
          width = width;
          constant = not_false (bit row 0) (one_held (not (bit row 0)) h.constant);
          latches = refl;
          inputs = refl;
          gates = gates_are h;
          rest = rest_is_0 h;
        },
        constraints_hold h,
      )

  clauses_from_step : IsLegalStep n row → AllSatisfiedBy (value row) (coded_clauses n)
  clauses_from_step step =
      let v = step.2 in
      All-from_recursion (SatisfiedBy (value row)) (coded_clauses n)
      (from_parts (SatisfiedBy (value row)) n (record {
        constant = held_one (not (bit row 0)) (false_not (bit row 0) v.constant);
        gates = λ k g is. holds_gate row g (value_even row g.lhs (sound.gates k g is).lhs.even
            ∙ v.gates (gate_var g) (g.rhs0, g.rhs1) (gate_of_circuit n sound k g is));
        undefined = λ u low high. is_0_undefined row u (is_defined (circuit n) u) (v.rest u);
        constraints = each_one n.constraints (recursion_from_All (λ l. value row l ≡ true) n.constraints step.3);
      }))
    where
      each_one : (ls : List ℕ) → AllByRecursion (λ l. value row l ≡ true) ls
          → AllByRecursion (λ l. SatisfiedBy (value row) (l ∷ [])) ls
      each_one [] h = tt
      each_one (l ∷ ls) h = (held_one (value row l) h.0, each_one ls h.1)

pub clauses_mean_steps : (n : Netlist) → IsSound n → CodesSteps n (coded_clauses n)
clauses_mean_steps n sound row width = (step_from_clauses n sound row width, clauses_from_step n sound row width)
