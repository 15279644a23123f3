-- Clauses that are parts of others, and clauses over latches.
use Rattle.std.proofs.Common.{◌≡◌, ℕ, ◌==◌, true, false, not, List, sym, ap, ◌∙◌, subst, arith}
use Rattle.std.specs.Prelude.{Contains}
use Rattle.std.specs.List.{list_all}
use Rattle.std.proofs.lemmas.Bool.{or_parts, both_ways, eqb-true}
use Rattle.std.proofs.lemmas.List.{length-map, get_or-map}
use Rattle.std.proofs.lemmas.List.Elements.{Contains-get_or}
use Rattle.std.proofs.lemmas.List.Folds.{Any-from_list_any, list_any_at}
use Rattle.ja_base.specs.Literals.{variable, negated}
use Rattle.ja_base.specs.Clauses.{has_literal, is_part}
use Rattle.ja_base.specs.Circuit as plain
use Rattle.ja_base.proofs.ClauseLemmas.{has_literal_decides, is_part_decides}
use Rattle.refute_check.specs.Refuted.{has_both_signs}
use Rattle.aig_model.specs.Netlist.{Netlist, circuit}
use Rattle.ja_project.specs.Latches.{is_foreign, is_over_latch}
use Rattle.ja_project.proofs.ForeignLemmas.{is_over_at}
use Rattle.ic3_frames.specs.Sums.{IsOver}
use Rattle.ic3_engine.specs.Searching.{latch_vars}

pub part_of_itself : (clause : List ℕ) → is_part clause clause ≡ true
part_of_itself clause = (is_part_decides clause clause).1 (λ k d within. Contains-get_or clause k d within)

-- a clause over latches, of which no variable has both signs
pub own_is_over : (n : Netlist) (clause : List ℕ) → is_foreign (circuit n) clause ≡ false → IsOver (latch_vars n) clause
own_is_over n clause own = record { among = among; one_sign = one_sign }
  where
    among : (l : ℕ) → Contains clause l → Contains (latch_vars n) (variable l)
    among l c =
        let over : is_over_latch (circuit n) l ≡ true = subst (λ m. is_over_latch (circuit n) m ≡ true) c.2 (is_over_at (circuit n) clause c.0 l own c.1) in
        let found = Any-from_list_any (λ (k : plain.Latch). variable l == k.var) (circuit n).latches over in
        let var = eqb-true (variable l) found.1.var found.4 in (
          found.0,
          omega (arith, found.2, length-map (circuit n).latches (λ (k : plain.Latch). k.var)),
          get_or-map (λ (k : plain.Latch). k.var) (circuit n).latches found.0 found.1 (variable l) found.2
              ∙ ap (λ (k : plain.Latch). k.var) found.3 ∙ sym var,
        )

    one_sign : (l : ℕ) → Contains clause l → Contains clause (negated l) → ⊥
    one_sign l c other =
        let parts = or_parts (has_both_signs clause) (not (list_all (is_over_latch (circuit n)) clause)) own in
        both_ways (has_both_signs clause) parts.0
        (list_any_at (λ m. has_literal clause (negated m)) clause c.0 l c.1
        (subst (λ m. has_literal clause (negated m) ≡ true) (sym c.2) ((has_literal_decides clause (negated l)).1 other)))
