-- The gates of a sound design have their right sides in range, and a whole row makes its target sure.
use Rattle.std.proofs.Common.{◌≡◌, ℕ, ◌+◌, ◌≤◌, Bool, true, List, get_or, subst, arith}
use Rattle.std.specs.Prelude.{All}
use Rattle.std.specs.List.{list_all}
use Rattle.ja_base.specs.Literals.{bit, variable, value}
use Rattle.ja_base.specs.Clauses.{IsSetOf, IsBelow}
use Rattle.ja_base.specs.Valuation.{IsValuation, latch_row, input_row}
use Rattle.aig_model.specs.Netlist.{Netlist, IsSound, circuit}
use Rattle.aig_eval.proofs.DefinedLemmas.{has_gate}
use Rattle.aig_eval.proofs.OrderLemmas.{sound_is_acyclic}
use Rattle.ic3_general.specs.Cubes.{unmet_literals}
use Rattle.ic3_general.specs.Lifting.{IsSureRow}
use Rattle.ic3_general.proofs.CubeLemmas.{has_unmet}
use Rattle.ic3_general.proofs.SureLemmas.{IsClosed, whole_is_sure, all_pass_each}

pub gates_are_closed : (n : Netlist) → IsSound n → IsClosed (circuit n) (λ u. u ≤ n.vars)
gates_are_closed n sound g rights e =
    let h = has_gate n g rights e in
    let at = sound.gates h.place h.gate h.is in
    subst (λ (r : ℕ × ℕ). (variable r.0 ≤ n.vars) × (variable r.1 ≤ n.vars)) h.rights_are
    (omega (arith, at.rhs0.within), omega (arith, at.rhs1.within))

pub row_makes_sure : (n : Netlist) → IsSound n → (values : List Bool) (clause : List ℕ) (sure : List Bool) (target : List ℕ)
    → IsValuation (circuit n) (latch_row (circuit n) values) (input_row (circuit n) values) values
    → IsSetOf (unmet_literals n values) clause → IsSureRow (circuit n) values clause sure → IsBelow (n.vars + 1) target
    → All (λ l. value values l ≡ true) target → list_all (bit sure) target ≡ true
row_makes_sure n sound values clause sure target step set row below met =
    all_pass_each (bit sure) target (λ k d within.
    whole_is_sure (circuit n) values clause sure row
    (λ l over one. (set.members _).1 (has_unmet n sound values l over one))
    (sound_is_acyclic n sound) (gates_are_closed n sound) step (get_or target k d)
    (let low = below k d within in omega arith) (met k d within))
