-- The clauses of a sound design are over its variables.
use Rattle.std.proofs.Common.{ℕ, ◌+◌, ◌*◌, ◌<◌, ◌≤◌, Bool, true, false, cond, List, [], ◌∷◌, arith}
use Rattle.std.specs.Prelude.{All}
use Rattle.std.specs.List.{AllByRecursion}
use Rattle.std.proofs.lemmas.List.Elements.{All-from_recursion}
use Rattle.ja_base.specs.Literals.{variable, negated, literal_of}
use Rattle.ja_base.specs.Circuit.{is_defined}
use Rattle.ja_base.specs.Clauses.{IsBelow}
use Rattle.ja_base.proofs.LiteralLemmas.{variable_negated}
use Rattle.aig_model.specs.declared.netlist.AndGate.{AndGate}
use Rattle.aig_model.specs.Netlist.{Netlist, IsSound, IsSoundGate, IsNew, circuit}
use Rattle.ja_project.specs.CodedClauses.{clause_of, gate_clauses, coded_clauses}
use Rattle.ja_project.proofs.EachLemmas.{each_from_places}
use Rattle.ja_project.proofs.ClauseLemmas.{each_of_clause}
use Rattle.ja_project.proofs.StepLemmas.{from_parts, variable_of}

clause_is_below : (vars : ℕ) (lits : List ℕ) → AllByRecursion (λ l. variable l < vars + 1) lits
    → IsBelow (vars + 1) (clause_of lits)
clause_is_below vars lits h = All-from_recursion (λ l. variable l < vars + 1) (clause_of lits)
    (each_of_clause (λ l. variable l < vars + 1) lits h)

pub lit_is_below : (vars l : ℕ) → l ≤ 2 * vars + 1 → variable l < vars + 1
lit_is_below vars l h = omega arith

pub new_is_below : (vars l : ℕ) → IsNew vars l → variable l < vars + 1
new_is_below vars l new = omega (arith, new.within)

pub negated_is_below : (vars l : ℕ) → variable l < vars + 1 → variable (negated l) < vars + 1
negated_is_below vars l h = omega (arith, variable_negated l)

gate_is_below : (n : Netlist) (k : ℕ) (g : AndGate) → IsSoundGate n k g → AllByRecursion (IsBelow (n.vars + 1)) (gate_clauses g)
gate_is_below n k g sound =
    let lhs : variable g.lhs < n.vars + 1 = omega (arith, sound.lhs.within) in
    let rhs0 = lit_is_below n.vars g.rhs0 sound.rhs0.within in
    let rhs1 = lit_is_below n.vars g.rhs1 sound.rhs1.within in
    let left = clause_is_below n.vars (negated g.lhs ∷ g.rhs0 ∷ []) (negated_is_below n.vars g.lhs lhs, (rhs0, tt)) in
    let right = clause_is_below n.vars (negated g.lhs ∷ g.rhs1 ∷ []) (negated_is_below n.vars g.lhs lhs, (rhs1, tt)) in
    let both = clause_is_below n.vars (g.lhs ∷ negated g.rhs0 ∷ negated g.rhs1 ∷ [])
    (lhs, (negated_is_below n.vars g.rhs0 rhs0, (negated_is_below n.vars g.rhs1 rhs1, tt))) in
    (left, (right, (both, tt)))

undefined_is_below : (vars u : ℕ) (b : Bool) → u < 1 + vars
    → AllByRecursion (IsBelow (vars + 1)) (cond b [] ((literal_of u true ∷ []) ∷ []))
undefined_is_below vars u true high = tt
undefined_is_below vars u false high = (clause_is_below vars (literal_of u true ∷ []) (omega (arith, variable_of u), tt), tt)

pub clauses_are_below : (n : Netlist) → IsSound n → All (IsBelow (n.vars + 1)) (coded_clauses n)
clauses_are_below n sound =
    All-from_recursion (IsBelow (n.vars + 1)) (coded_clauses n)
    (from_parts (IsBelow (n.vars + 1)) n (record {
      constant = clause_is_below n.vars (1 ∷ []) (omega arith, tt);
      gates = λ k g is. gate_is_below n k g (sound.gates k g is);
      undefined = λ u low high. undefined_is_below n.vars u (is_defined (circuit n) u) high;
      constraints = each_from_places (λ l. IsBelow (n.vars + 1) (l ∷ [])) n.constraints
          (λ k l is. clause_is_below n.vars (l ∷ []) (lit_is_below n.vars l (sound.constraints k l is).within, tt));
    }))
