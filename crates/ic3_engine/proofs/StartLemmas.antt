-- What a clause says of initial rows.
use Rattle.std.proofs.Common.{◌≡◌, ℕ, Bool, true, List, ⊎_elim}
use Rattle.std.specs.List.{list_any}
use Rattle.std.proofs.lemmas.Bool.{both_ways, cases_Bool}
use Rattle.ja_base.specs.Invariants.{latch_value}
use Rattle.ja_base.specs.Runs.{IsInitial}
use Rattle.aig_model.specs.Netlist.{Netlist, IsSound, circuit}
use Rattle.ja_project.specs.Start.{starts}
use Rattle.ja_project.proofs.StartLemmas.{own_vars, starts_false}
use Rattle.ic3_general.specs.Cubes.{IsOutside}
use Rattle.ic3_query.specs.Known.{HoldsAtStart}

-- a clause with a literal that agrees with a reset is met by each initial row
pub begins_holds : (n : Netlist) (clause : List ℕ) → IsSound n → starts (circuit n) clause ≡ true → HoldsAtStart (circuit n) clause
begins_holds n clause sound begins s initial =
    ⊎_elim (λ met. met)
    (λ unmet. absurd (both_ways (starts (circuit n) clause)
    (starts_false (circuit n) clause (own_vars n sound) (s, initial, both_ways (list_any (latch_value (circuit n).latches s) clause) unmet)) begins))
    (cases_Bool (list_any (latch_value (circuit n).latches s) clause))

-- no clause that begins so excludes an initial row
pub begins_has_no_initial : (n : Netlist) (clause : List ℕ) (s : List Bool) → IsSound n → starts (circuit n) clause ≡ true
    → IsInitial (circuit n) s → IsOutside (circuit n) clause s → ⊥
begins_has_no_initial n clause s sound begins initial out =
    both_ways (list_any (latch_value (circuit n).latches s) clause) out.unmet (begins_holds n clause sound begins s initial)
