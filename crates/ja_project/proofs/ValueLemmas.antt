-- What literals over latches are in a step, and one step later.
use Rattle.std.proofs.Common.{◌≡◌, ℕ, ◌==◌, ◌||◌, eqb, eqb-true, Bool, true, false, not, cond, List, [], ◌∷◌, get_or, map, refl, sym, ap, ◌∙◌, arith}
use Rattle.std.specs.List.{list_any, All, AllByRecursion}
use Rattle.std.proofs.lemmas.Bool.{or_parts, not-true}
use Rattle.std.proofs.lemmas.List.{length-map, get_or-map}
use Rattle.std.proofs.lemmas.List.Folds.{list_any_none}
use Rattle.std.proofs.lemmas.Bool.Decides.{nat_tests}
use Rattle.std.proofs.lemmas.List.Elements.{All-from_recursion}
use Rattle.ja_base.specs.Literals.{bit, variable, negated, value, with_sign, SatisfiedBy, AllSatisfiedBy}
use Rattle.ja_base.specs.Circuit as plain
use Rattle.ja_base.specs.Valuation.{latch_row, next_state}
use Rattle.ja_base.specs.Invariants.{latch_value, MeetsClauses}
use Rattle.ja_base.proofs.LiteralLemmas.{value_negated}
use Rattle.aig_model.specs.declared.netlist.Latch.{Latch}
use Rattle.aig_model.specs.Netlist.{Netlist, circuit, latch_of}
use Rattle.ja_project.specs.CodedClauses.{next_literal, with_sign_of}
use Rattle.ja_project.proofs.NextLemmas.{value_signed}
use Rattle.ja_project.specs.Latches.{is_foreign, is_over_latch}
use Rattle.ja_project.specs.CodedClauses.{negated_next}
use Rattle.ja_project.proofs.ForeignLemmas.{all_over}

-- ---- this step

pub now_value : (latches : List plain.Latch) (values : List Bool) (l : ℕ)
    → list_any (λ (k : plain.Latch). variable l == k.var) latches ≡ true
    → latch_value latches (map (λ (k : plain.Latch). bit values k.var) latches) l ≡ value values l
now_value [] values l e = cc
now_value (k ∷ ks) values l e = by_test (eqb (variable l) k.var) refl (now_value ks values l) e
  where
    by_test : (b : Bool) → b ≡ eqb (variable l) k.var
        → (list_any (λ (k : plain.Latch). variable l == k.var) ks ≡ true
        → latch_value ks (map (λ (k : plain.Latch). bit values k.var) ks) l ≡ value values l)
        → (b || list_any (λ (k : plain.Latch). variable l == k.var) ks) ≡ true
        → cond b (with_sign l (bit values k.var)) (latch_value ks (map (λ (k : plain.Latch). bit values k.var) ks) l) ≡
        value values l
    by_test true f later e = ap (λ (u : ℕ). with_sign l (bit values u)) (sym (eqb-true (variable l) k.var (sym f)))
    by_test false f later e = later e

pub same_any : (c : plain.Circuit) (values : List Bool) (clause : List ℕ) → AllByRecursion (λ l. is_over_latch c l ≡ true) clause
    → list_any (latch_value c.latches (latch_row c values)) clause ≡ list_any (value values) clause
same_any c values [] h = refl
same_any c values (l ∷ ls) h =
    ap (λ (b : Bool). b || list_any (latch_value c.latches (latch_row c values)) ls) (now_value c.latches values l h.0)
    ∙ ap (λ (b : Bool). value values l || b) (same_any c values ls h.1)

-- what the latch row of a step meets holds in the step
pub met_now : (c : plain.Circuit) (values : List Bool) (clauses : List (List ℕ))
    → All (λ clause. is_foreign c clause ≡ false) clauses
    → MeetsClauses c (latch_row c values) clauses → AllSatisfiedBy (value values) clauses
met_now c values clauses own meets = λ k d within.
    sym (same_any c values (get_or clauses k d) (all_over c (get_or clauses k d) (own k d within))) ∙ meets k d within

-- what holds in a step is met by its latch row
pub met_back : (c : plain.Circuit) (values : List Bool) (clauses : List (List ℕ))
    → All (λ clause. is_foreign c clause ≡ false) clauses
    → AllSatisfiedBy (value values) clauses → MeetsClauses c (latch_row c values) clauses
met_back c values clauses own holds = λ k d within.
    same_any c values (get_or clauses k d) (all_over c (get_or clauses k d) (own k d within)) ∙ holds k d within

-- ---- one step later

other_way : (u v : ℕ) → eqb u v ≡ eqb v u
other_way u v = grind (arith, nat_tests)

pub next_value : (latches : List Latch) (values : List Bool) (l : ℕ) → bit values 0 ≡ false
    → value values (next_literal latches l)
    ≡ latch_value (map latch_of latches) (map (λ (k : plain.Latch). value values k.next) (map latch_of latches)) l
next_value [] values l zero = zero
next_value (k ∷ ks) values l zero =
    by_test (eqb (variable k.lit) (variable l)) (next_value ks values l zero)
    ∙ ap (λ (b : Bool). cond b (with_sign l (value values k.next))
    (latch_value (map latch_of ks) (map (λ (x : plain.Latch). value values x.next) (map latch_of ks)) l))
    (other_way (variable k.lit) (variable l))
  where
    by_test : (b : Bool)
        → value values (next_literal ks l) ≡ latch_value (map latch_of ks)
        (map (λ (x : plain.Latch). value values x.next) (map latch_of ks)) l
        → value values (cond b (with_sign_of l k.next) (next_literal ks l))
        ≡ cond b (with_sign l (value values k.next))
        (latch_value (map latch_of ks) (map (λ (x : plain.Latch). value values x.next) (map latch_of ks)) l)
    by_test true later = value_signed values l k.next
    by_test false later = later

-- where the clause does not hold one step later, each of its negated next literals is 1
pub obliged : (n : Netlist) (values : List Bool) (clause : List ℕ) → bit values 0 ≡ false
    → list_any (latch_value (circuit n).latches (next_state (circuit n) values)) clause ≡ false
    → AllByRecursion (λ m. value values m ≡ true) (negated_next n clause)
obliged n values [] zero e = tt
obliged n values (l ∷ ls) zero e =
    let parts = or_parts (latch_value (circuit n).latches (next_state (circuit n) values) l)
    (list_any (latch_value (circuit n).latches (next_state (circuit n) values)) ls) e in (
      value_negated values (next_literal n.latches l) ∙ ap not (next_value n.latches values l zero ∙ parts.0),
      obliged n values ls zero parts.1,
    )

pub holds_later : (n : Netlist) (values : List Bool) (clause : List ℕ) → bit values 0 ≡ false
    → (All (λ m. value values m ≡ true) (negated_next n clause) → ⊥)
    → SatisfiedBy (latch_value (circuit n).latches (next_state (circuit n) values)) clause
holds_later n values clause zero refuted = by_case
    (list_any (latch_value (circuit n).latches (next_state (circuit n) values)) clause) refl
  where
    by_case : (b : Bool) → list_any (latch_value (circuit n).latches (next_state (circuit n) values)) clause ≡ b → b ≡ true
    by_case true e = refl
    by_case false e =
        absurd (refuted (All-from_recursion (λ m. value values m ≡ true) (negated_next n clause)
        (obliged n values clause zero e)))

-- where each of the negated next literals is 1, the clause does not hold one step later
pub later_false : (n : Netlist) (values : List Bool) (clause : List ℕ) → bit values 0 ≡ false
    → All (λ m. value values m ≡ true) (negated_next n clause)
    → list_any (latch_value (circuit n).latches (next_state (circuit n) values)) clause ≡ false
later_false n values clause zero under =
    list_any_none (latch_value (circuit n).latches (next_state (circuit n) values)) clause (λ k d within.
    let l : ℕ = get_or clause k d in
    let is : get_or (negated_next n clause) k 0 ≡ negated (next_literal n.latches l) =
    get_or-map (λ (l : ℕ). negated (next_literal n.latches l)) clause k d 0 within in
    let one : value values (negated (next_literal n.latches l)) ≡ true =
    ap (value values) (sym is)
    ∙ under k 0 (omega (arith, within, length-map clause (λ (l : ℕ). negated (next_literal n.latches l)))) in
    sym (next_value n.latches values l zero)
    ∙ not-true (value values (next_literal n.latches l)) (sym (value_negated values (next_literal n.latches l)) ∙ one))
