-- Resets as bits of a row, and a solver that is told of them under the switch of level 0.
use Rattle.std.proofs.Common.{◌≡◌, ℕ, suc, zero, ◌+◌, ◌≤◌, ◌<◌, ◌||◌, Bool, true, false, not, Some, None, List, [], ◌∷◌, ◌++◌, length, get_or, slice_get, nat_le, nat_lt, refl, sym, ap, subst, ◌∙◌, arith}
use Rattle.std.specs.Prelude.{Result, Ok, Err, OnOk}
use Rattle.std.proofs.lemmas.Bool.{not-true}
use Rattle.std.proofs.lemmas.Bool.Decides.{nat_tests}
use Rattle.std.proofs.lemmas.List.{length-map}
use Rattle.std.proofs.lemmas.List.Elements.{All-append, All-push, All-nil}
use Rattle.std.proofs.lemmas.Option.{get_or_from_slice_get, slice_get_within}
use Rattle.ja_base.specs.Literals.{bit, negated, value, SatisfiedBy, AllSatisfiedBy}
use Rattle.ja_base.specs.Circuit as plain
use Rattle.ja_base.specs.Runs.{IsInitial}
use Rattle.ja_base.specs.Valuation.{latch_row}
use Rattle.ja_base.proofs.LiteralLemmas.{value_negated}
use Rattle.aig_model.specs.declared.netlist.Reset.TheVariants.{Zero, One, Free}
use Rattle.aig_model.specs.declared.netlist.Latch.{Latch}
use Rattle.aig_model.specs.Netlist.{Netlist, IsNew, circuit, latch_of, reset_bit}
use Rattle.aig_model.proofs.Places.{get_map, map_cases}
use Rattle.ja_project.specs.CodedClauses.{coded_clauses}
use Rattle.ja_project.proofs.GateLemmas.{value_even}
use Rattle.ja_project.proofs.ValueLemmas.{met_now, met_back}
use Rattle.ic3_frames.specs.Levels.{Entry}
use Rattle.ic3_frames.specs.Soundness.{Meets, IsIn}
use Rattle.ic3_query.specs.Known.{AreOwn}
use Rattle.ic3_query.specs.Opening.{HasReset, IsReset, AreReset, Says}
use Rattle.ic3_query.specs.Serving.{IsKnownStep, Serves}
use Rattle.ic3_query.specs.Switches.{switch_var, IsOn, IsExactly}
use Rattle.ic3_query.specs.Under.{IsGuarded}
use Rattle.ic3_query.proofs.RowLemmas.{guarded_holds, holds_guarded}
use Rattle.ic3_query.proofs.ServeLemmas.{first_part, second_part, last_part}

-- ---- resets and initial rows

latch_bit : (n : Netlist) (row : List Bool) (k : ℕ) (l : plain.Latch) → slice_get (circuit n).latches k ≡ Some l
    → bit (latch_row (circuit n) row) k ≡ bit row l.var
latch_bit n row k l at =
    get_or_from_slice_get (latch_row (circuit n) row) k (bit row l.var) false
    (get_map (λ (l : plain.Latch). bit row l.var) (circuit n).latches k l at)

pub initial_from_resets : (n : Netlist) (row : List Bool)
    → ((k : ℕ) (latch : Latch) → k < length n.latches → slice_get n.latches k ≡ Some latch → HasReset latch row)
    → IsInitial (circuit n) (latch_row (circuit n) row)
initial_from_resets n row h = record {
  width = length-map (circuit n).latches (λ (l : plain.Latch). bit row l.var);
  agrees = λ k l b at reset.
      let found = map_cases latch_of n.latches k l at in
      latch_bit n row k l at ∙ ap (λ (l : plain.Latch). bit row l.var) (sym found.2)
      ∙ h k found.0 (slice_get_within n.latches k found.0 found.1) found.1 b
      (ap (λ (l : plain.Latch). l.reset) found.2 ∙ reset);
}

pub resets_from_initial : (n : Netlist) (row : List Bool) → IsInitial (circuit n) (latch_row (circuit n) row)
    → (k : ℕ) (latch : Latch) → slice_get n.latches k ≡ Some latch → HasReset latch row
resets_from_initial n row initial k latch at b reset =
    let there = get_map latch_of n.latches k latch at in
    sym (latch_bit n row k (latch_of latch) there) ∙ initial.agrees k (latch_of latch) b there reset

-- ---- what a solver is told

pub Says-none : (n : Netlist) (clauses : List (List ℕ)) → Says (AreReset n 0) clauses clauses
Says-none n clauses = record {
  forth = λ row all h. all;
  back = λ row all. all;
  gained = λ row all k latch within at. absurd (omega (arith, within));
}

pub Says-more : (n : Netlist) (k : ℕ) (latch : Latch) (a b c : List (List ℕ)) → Says (AreReset n k) a b
    → slice_get n.latches k ≡ Some latch → Says (IsReset n latch) b c → Says (AreReset n (k + 1)) a c
Says-more n k latch a b c g at h = record {
  forth = λ row all said.
      h.forth row (g.forth row all (λ j other within is. said j other (omega (arith, within)) is))
      (said k latch (omega arith) at);
  back = λ row all. g.back row (h.back row all);
  gained = λ row all j other within is. by_place row all j other within is;
}
  where
    same_latch : (j : ℕ) (other : Latch) → j ≡ k → slice_get n.latches j ≡ Some other → latch ≡ other
    same_latch j other e is =
        sym (get_or_from_slice_get n.latches k latch latch at) ∙ ap (λ (i : ℕ). get_or n.latches i latch) (sym e)
        ∙ get_or_from_slice_get n.latches j other latch is

    below : (j : ℕ) → nat_lt j k ≡ true → j < k
    below j e = grind (arith, nat_tests)

    at_end : (j : ℕ) → nat_lt j k ≡ false → j < k + 1 → j ≡ k
    at_end j e within = grind (arith, nat_tests)

    by_place : (row : List Bool) → AllSatisfiedBy (value row) c → (j : ℕ) (other : Latch) → j < k + 1
        → slice_get n.latches j ≡ Some other → IsReset n other row
    by_place row all j other within is = by_test (nat_lt j k) refl
      where
        by_test : (b : Bool) → nat_lt j k ≡ b → IsReset n other row
        by_test true e = g.gained row (h.back row all) j other (below j e) is
        by_test false e =
            let P : Latch → Type 0 = λ l. IsReset n l row in
            subst P (same_latch j other (at_end j e within) is) (h.gained row all)

-- the literal holds under the switch of level 0
pub says_literal : (n : Netlist) (lit : ℕ) (clause : List ℕ) (clauses : List (List ℕ)) → IsGuarded n 0 (lit ∷ []) clause
    → Says (λ row. bit row (switch_var n 0) ≡ true → value row lit ≡ true) clauses (clauses ++ clause ∷ [])
says_literal n lit clause clauses is = record {
  forth = λ row all on. All-push (SatisfiedBy (value row)) clauses clause all
      (guarded_holds n 0 (lit ∷ []) clause row is (λ at. left (value row lit) (on at)));
  back = λ row all. first_part row clauses (clause ∷ []) all;
  gained = λ row all at. one (value row lit) (holds_guarded n 0 (lit ∷ []) clause row is (last_part row clauses clause all) at);
}
  where
    left : (b : Bool) → b ≡ true → (b || false) ≡ true
    left true e = refl
    left false e = e

    one : (b : Bool) → (b || false) ≡ true → b ≡ true
    one true e = refl
    one false e = e

says_as : (P Q : List Bool → Type 0) (a b : List (List ℕ)) → ((row : List Bool) → P row → Q row)
    → ((row : List Bool) → Q row → P row) → Says P a b → Says Q a b
says_as P Q a b f g h = record {
  forth = λ row all q. h.forth row all (g row q);
  back = h.back;
  gained = λ row all. f row (h.gained row all);
}

true_is : (b : Bool) → Some true ≡ Some b → b ≡ true
true_is true e = refl
true_is false e = absurd cc

false_is : (b : Bool) → Some false ≡ Some b → b ≡ false
false_is false e = refl
false_is true e = absurd cc

pub says_free : (n : Netlist) (latch : Latch) (clauses : List (List ℕ)) → latch.reset ≡ Free
    → Says (IsReset n latch) clauses clauses
says_free n latch clauses free = record {
  forth = λ row all h. all;
  back = λ row all. all;
  gained = λ row all on b reset. let wrong : None ≡ Some b = sym (ap reset_bit free) ∙ reset in absurd cc;
}

pub says_one : (n : Netlist) (latch : Latch) (a b : List (List ℕ)) → latch.reset ≡ One → IsNew n.vars latch.lit
    → Says (λ row. bit row (switch_var n 0) ≡ true → value row latch.lit ≡ true) a b → Says (IsReset n latch) a b
says_one n latch a b is new h =
    says_as (λ row. bit row (switch_var n 0) ≡ true → value row latch.lit ≡ true) (IsReset n latch) a b
    (λ row f on c reset. sym (value_even row latch.lit new.even) ∙ f on ∙ sym (true_is c (sym (ap reset_bit is) ∙ reset)))
    (λ row f on. value_even row latch.lit new.even ∙ f on true (ap reset_bit is)) h

pub says_zero : (n : Netlist) (latch : Latch) (a b : List (List ℕ)) → latch.reset ≡ Zero → IsNew n.vars latch.lit
    → Says (λ row. bit row (switch_var n 0) ≡ true → value row (negated latch.lit) ≡ true) a b → Says (IsReset n latch) a b
says_zero n latch a b is new h =
    says_as (λ row. bit row (switch_var n 0) ≡ true → value row (negated latch.lit) ≡ true) (IsReset n latch) a b
    (λ row f on c reset. sym (value_even row latch.lit new.even)
    ∙ not-true (value row latch.lit) (sym (value_negated row latch.lit) ∙ f on)
    ∙ sym (false_is c (sym (ap reset_bit is) ∙ reset)))
    (λ row f on. value_negated row latch.lit ∙ ap not (value_even row latch.lit new.even ∙ f on false (ap reset_bit is))) h

pub OnOk-map : {T E : Type 0} (answer : Result T E) (P Q : Type 0) → (P → Q) → OnOk answer P → OnOk answer Q
OnOk-map (Ok x) P Q f h = f h
OnOk-map (Err e) P Q f h = tt

-- ---- the opened solver

none_below : (k : ℕ) → nat_le (suc k) 0 ≡ true → ⊥
none_below k e = grind (arith, nat_tests)

pub serves_opened : (n : Netlist) (known before after : List (List ℕ)) (count : ℕ) → AreOwn (circuit n) known
    → before ≡ coded_clauses n ++ known → count ≡ n.vars + 1 + 1 → count ≤ 2147483648
    → Says (AreReset n (length n.latches)) before after → Serves n known (record { top = 0; kept = [] }) count after
serves_opened n known before after count own is width small says = record {
  width = omega (arith, width);
  small = small;
  holds = record {
    step = λ row all. step row all;
    level = λ row all k on. at_level row all k on;
  };
  fits = λ row known_step k there exactly. says.forth row (met_before row known_step)
      (λ j latch within at on. by_level row k there exactly on j latch at);
}
  where
    of_before : (row : List Bool) → AllSatisfiedBy (value row) after → AllSatisfiedBy (value row) (coded_clauses n ++ known)
    of_before row all = let P : List (List ℕ) → Type 0 = AllSatisfiedBy (value row) in subst P is (says.back row all)

    step : (row : List Bool) → AllSatisfiedBy (value row) after → IsKnownStep n known row
    step row all = record {
      coded = first_part row (coded_clauses n) known (of_before row all);
      known_met = met_back (circuit n) row known own (second_part row (coded_clauses n) known (of_before row all));
    }

    at_level : (row : List Bool) → AllSatisfiedBy (value row) after → (k : ℕ) → IsOn n 0 k row
        → IsIn (circuit n) [] k (latch_row (circuit n) row)
    at_level row all zero on = initial_from_resets n row
        (λ j latch within at. says.gained row all j latch within at (on 0 (omega arith) (omega arith)))
    at_level row all (suc k) on = All-nil
        (λ (e : Entry). suc k ≤ e.level → Meets (circuit n) (latch_row (circuit n) row) e.clause)

    met_before : (row : List Bool) → IsKnownStep n known row → AllSatisfiedBy (value row) before
    met_before row h =
        let P : List (List ℕ) → Type 0 = AllSatisfiedBy (value row) in
        subst P (sym is)
        (All-append (SatisfiedBy (value row)) (coded_clauses n) known h.coded (met_now (circuit n) row known own h.known_met))

    by_level : (row : List Bool) (k : ℕ) → IsIn (circuit n) [] k (latch_row (circuit n) row) → IsExactly n 0 k row
        → bit row (switch_var n 0) ≡ true → (j : ℕ) (latch : Latch) → slice_get n.latches j ≡ Some latch → HasReset latch row
    by_level row zero initial exactly on j latch at = resets_from_initial n row initial j latch at
    by_level row (suc k) there exactly on j latch at = absurd (none_below k (sym (exactly 0 (omega arith)) ∙ on))
