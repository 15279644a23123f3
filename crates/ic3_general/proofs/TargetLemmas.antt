-- Where the target literals are 1 the step leads on, and they are 1 in a step that does.
use Rattle.std.proofs.Common.{◌≡◌, ℕ, suc, ◌+◌, ◌%◌, ◌<◌, ◌==◌, Bool, true, false, cond, List, [], ◌∷◌, ◌++◌, Some, length, get_or, drop, slice_get, refl, sym, ap, ◌∙◌, subst, arith, add-one, length-append, eq-eqb}
use Rattle.std.specs.Prelude.{All}
use Rattle.std.specs.List.{list_any}
use Rattle.std.proofs.Math.Seq.{drop-cons}
use Rattle.std.proofs.lemmas.Bool.{ne_eqb}
use Rattle.std.proofs.lemmas.List.{length-map, get_or_append_left, get_or-append-add}
use Rattle.std.proofs.lemmas.List.Elements.{All-from_recursion, All-append, All-cons, All-head, All-tail, All-map, All-from_get_or}
use Rattle.std.proofs.lemmas.Option.{slice_get_within, get_or_from_slice_get, slice_get-get_or}
use Rattle.ja_base.specs.Literals.{bit, value, variable, negated}
use Rattle.ja_base.specs.Clauses.{IsBelow}
use Rattle.ja_base.specs.Invariants.{latch_value}
use Rattle.ja_base.specs.Valuation.{IsBad, IsValuation, MeetsConstraints, AssumptionsHold, latch_row, input_row, next_state}
use Rattle.aig_model.specs.declared.netlist.Latch.{Latch}
use Rattle.aig_model.specs.Netlist.{Netlist, IsSound, circuit, latch_of}
use Rattle.aig_model.specs.Task.{VerificationTask, problem}
use Rattle.aig_eval.proofs.LawLemmas.{valuation_exists}
use Rattle.ja_project.specs.CodedClauses.{held_literals, negated_next, next_literal, with_sign_of}
use Rattle.ja_project.proofs.BelowLemmas.{lit_is_below, negated_is_below}
use Rattle.ja_project.proofs.HeldLemmas.{held_means_assumptions, held_is_below}
use Rattle.ja_project.proofs.ValueLemmas.{obliged, later_false}
use Rattle.ic3_general.specs.Cubes.{IsOutside}
use Rattle.ic3_general.specs.Chains.{AllLead}
use Rattle.ic3_general.specs.Lifting.{MakesSure}
use Rattle.ic3_general.proofs.ChainLemmas.{leads_back, leads_last}

-- ---- the next literal is looked for from the front

drop_at : (ks : List Latch) (i : ℕ) (k : Latch) → slice_get ks i ≡ Some k → drop i ks ≡ k ∷ drop (i + 1) ks
drop_at ks i k is =
    drop-cons ks i k (slice_get_within ks i k is) ∙ ap (λ (x : Latch). x ∷ drop (suc i) ks) (get_or_from_slice_get ks i k k is)
    ∙ ap (λ (n : ℕ). k ∷ drop n ks) (sym (add-one i))

pub next_found : (ks : List Latch) (i l : ℕ) (k : Latch) → slice_get ks i ≡ Some k → variable k.lit ≡ variable l
    → next_literal (drop i ks) l ≡ with_sign_of l k.next
next_found ks i l k is var =
    ap (λ (xs : List Latch). next_literal xs l) (drop_at ks i k is)
    ∙ ap (λ b. cond b (with_sign_of l k.next) (next_literal (drop (i + 1) ks) l)) (eq-eqb (variable k.lit) (variable l) var)

pub next_passed : (ks : List Latch) (i l : ℕ) (k : Latch) → slice_get ks i ≡ Some k → (variable k.lit ≡ variable l → ⊥)
    → next_literal (drop i ks) l ≡ next_literal (drop (i + 1) ks) l
next_passed ks i l k is other =
    ap (λ (xs : List Latch). next_literal xs l) (drop_at ks i k is)
    ∙ ap (λ b. cond b (with_sign_of l k.next) (next_literal (drop (i + 1) ks) l))
    (ne_eqb (variable k.lit) (variable l) other)

-- ---- the target literals are in range

with_sign_is_below : (vars l next : ℕ) → variable next < vars + 1 → variable (with_sign_of l next) < vars + 1
with_sign_is_below vars l next h = by_sign (l % 2 == 1)
  where
    by_sign : (b : Bool) → variable (cond b (negated next) next) < vars + 1
    by_sign true = negated_is_below vars next h
    by_sign false = h

next_is_below : (vars l : ℕ) (ks : List Latch)
    → ((i : ℕ) (k : Latch) → slice_get ks i ≡ Some k → variable k.next < vars + 1) → variable (next_literal ks l) < vars + 1
next_is_below vars l [] each = omega arith
next_is_below vars l (k ∷ ks) each =
    by_test (variable k.lit == variable l) (next_is_below vars l ks (λ i x is. each (suc i) x is))
  where
    by_test : (b : Bool) → variable (next_literal ks l) < vars + 1
        → variable (cond b (with_sign_of l k.next) (next_literal ks l)) < vars + 1
    by_test true rest = with_sign_is_below vars l k.next (each 0 k refl)
    by_test false rest = rest

nexts_below : (n : Netlist) (clause : List ℕ) → IsSound n → IsBelow (n.vars + 1) (negated_next n clause)
nexts_below n clause sound =
    All-map (λ l. variable l < n.vars + 1) (λ l. negated (next_literal n.latches l)) clause
    (λ k d within. let l : ℕ = get_or clause k d in
    negated_is_below n.vars (next_literal n.latches l)
    (next_is_below n.vars l n.latches (λ i x is. lit_is_below n.vars x.next (sound.latches i x is).next.within)))

constraints_below : (n : Netlist) → IsSound n → IsBelow (n.vars + 1) n.constraints
constraints_below n sound = All-from_get_or (λ l. variable l < n.vars + 1) n.constraints 0 (λ i within.
    lit_is_below n.vars (get_or n.constraints i 0)
    (sound.constraints i (get_or n.constraints i 0) (slice_get-get_or n.constraints i 0 within)).within)

pub step_target_below : (t : VerificationTask) (clause : List ℕ) → IsSound t.design
    → IsBelow (t.design.vars + 1) ((negated_next t.design clause ++ t.design.constraints) ++ held_literals t)
step_target_below t clause sound =
    All-append (λ l. variable l < t.design.vars + 1) (negated_next t.design clause ++ t.design.constraints) (held_literals t)
    (All-append (λ l. variable l < t.design.vars + 1) (negated_next t.design clause) t.design.constraints
    (nexts_below t.design clause sound) (constraints_below t.design sound)) (held_is_below t sound)

pub bad_target_below : (n : Netlist) (bad : ℕ) → IsSound n → variable bad < n.vars + 1
    → IsBelow (n.vars + 1) (bad ∷ n.constraints)
bad_target_below n bad sound low = All-cons (λ l. variable l < n.vars + 1) bad n.constraints low (constraints_below n sound)

-- ---- what the target literals say

all_left : (P : ℕ → Type 0) (xs ys : List ℕ) → All P (xs ++ ys) → All P xs
all_left P xs ys h k d within =
    subst P (get_or_append_left xs ys d k within) (h k d (omega (arith, length-append xs ys)))

all_right : (P : ℕ → Type 0) (xs ys : List ℕ) → All P (xs ++ ys) → All P ys
all_right P xs ys h k d within =
    subst P (get_or-append-add xs ys k d) (h (length xs + k) d (omega (arith, length-append xs ys)))

module _ (t : VerificationTask) (sound : IsSound t.design) (widths : length t.expected ≡ length t.design.bads)
    (vals : List Bool) where
  pub step_target_met : (clause : List ℕ)
      → IsValuation (circuit t.design) (latch_row (circuit t.design) vals) (input_row (circuit t.design) vals) vals
      → MeetsConstraints (circuit t.design) vals → AssumptionsHold (circuit t.design) t.expected vals
      → list_any (latch_value (circuit t.design).latches (next_state (circuit t.design) vals)) clause ≡ false
      → All (λ l. value vals l ≡ true) ((negated_next t.design clause ++ t.design.constraints) ++ held_literals t)
  step_target_met clause step constrained held unmet =
      All-append (λ l. value vals l ≡ true) (negated_next t.design clause ++ t.design.constraints) (held_literals t)
      (All-append (λ l. value vals l ≡ true) (negated_next t.design clause) t.design.constraints
      (All-from_recursion (λ l. value vals l ≡ true) (negated_next t.design clause)
      (obliged t.design vals clause step.constant unmet)) constrained)
      ((held_means_assumptions t widths vals).1 held)

  -- the step from another row of the cube under the same inputs
  step_from : (s : List Bool) → length s ≡ length (circuit t.design).latches
      → (v : List Bool) × IsValuation (circuit t.design) s (input_row (circuit t.design) vals) v
  step_from s width =
      valuation_exists t.design s (input_row (circuit t.design) vals) sound
      (width ∙ length-map t.design.latches latch_of)
      (length-map (circuit t.design).inputs (bit vals) ∙ length-map t.design.inputs variable)

  pub cube_leads_back : (p : ℕ) (clause lifted : List ℕ) (chain : List (List Bool))
      → MakesSure (circuit t.design) vals
      ((negated_next t.design clause ++ t.design.constraints) ++ held_literals t) lifted
      → AllLead (problem t) p clause chain → AllLead (problem t) p lifted (input_row (circuit t.design) vals ∷ chain)
  cube_leads_back p clause lifted chain makes leads s out =
      let c = circuit t.design in
      let there = step_from s out.width in
      let v : List Bool = there.0 in
      let IsOne : ℕ → Type 0 = λ l. value v l ≡ true in
      let ones = makes s v out there.1 in
      let front = all_left IsOne (negated_next t.design clause ++ t.design.constraints) (held_literals t) ones in
      let under = all_left IsOne (negated_next t.design clause) t.design.constraints front in
      let constrained = all_right IsOne (negated_next t.design clause) t.design.constraints front in
      let held = (held_means_assumptions t widths v).0
      (all_right IsOne (negated_next t.design clause ++ t.design.constraints) (held_literals t) ones) in
      let next : IsOutside c clause (next_state c v) = record {
        width = length-map c.latches _;
        unmet = later_false t.design v clause there.1.constant under;
      } in
      leads_back (problem t) p s (input_row c vals) v chain there.1 constrained held (leads (next_state c v) next)

  pub cube_leads_last : (p : ℕ) (bad : ℕ) (lifted : List ℕ)
      → ((v : List Bool) → value v bad ≡ true → IsBad (circuit t.design) p v)
      → MakesSure (circuit t.design) vals (bad ∷ t.design.constraints) lifted
      → AllLead (problem t) p lifted (input_row (circuit t.design) vals ∷ [])
  cube_leads_last p bad lifted is_bad makes s out =
      let there = step_from s out.width in
      let v : List Bool = there.0 in
      let IsOne : ℕ → Type 0 = λ l. value v l ≡ true in
      let ones = makes s v out there.1 in
      leads_last (problem t) p s (input_row (circuit t.design) vals) v there.1
      (All-tail IsOne bad t.design.constraints ones) (is_bad v (All-head IsOne bad t.design.constraints ones))
