-- A solver goes on to serve the levels where both change together.
use Rattle.std.proofs.Common.{◌≡◌, ℕ, suc, zero, ◌+◌, ◌≤◌, ◌<◌, Bool, true, false, List, [], ◌∷◌, ◌++◌, nat_le, sym, subst, ◌∙◌, arith}
use Rattle.std.specs.List.{list_any, All}
use Rattle.std.specs.Prelude.{Contains}
use Rattle.std.proofs.lemmas.Bool.Decides.{nat_tests}
use Rattle.std.proofs.lemmas.List.Elements.{All-append, All-push}
use Rattle.ja_base.specs.Literals.{value, SatisfiedBy, AllSatisfiedBy}
use Rattle.ja_base.specs.Valuation.{latch_row}
use Rattle.ja_base.specs.Invariants.{latch_value, MeetsClauses}
use Rattle.ja_base.proofs.JoinLemmas.{first_is_part, second_is_part}
use Rattle.aig_model.specs.Netlist.{Netlist, circuit}
use Rattle.ja_project.specs.Latches.{is_foreign}
use Rattle.ja_project.proofs.ValueLemmas.{met_now, met_back}
use Rattle.inv_cert.proofs.InductionLemmas.{All-part}
use Rattle.ic3_frames.specs.Levels.{Levels}
use Rattle.ic3_frames.specs.Soundness.{Meets, IsIn, Gains}
use Rattle.ic3_query.specs.Known.{AreOwn, HoldsAtStart}
use Rattle.ic3_query.specs.Switches.{IsOn, IsExactly}
use Rattle.ic3_query.specs.Serving.{IsKnownStep, Holds, Fits, Serves}
use Rattle.ic3_query.specs.Under.{IsGuarded}
use Rattle.ic3_query.proofs.RowLemmas.{met_in_row, met_by_latches, guarded_holds, holds_guarded}

pub first_part : (row : List Bool) (a b : List (List ℕ)) → AllSatisfiedBy (value row) (a ++ b) → AllSatisfiedBy (value row) a
first_part row a b h = All-part (SatisfiedBy (value row)) (a ++ b) a h (first_is_part a b)

pub second_part : (row : List Bool) (a b : List (List ℕ)) → AllSatisfiedBy (value row) (a ++ b) → AllSatisfiedBy (value row) b
second_part row a b h = All-part (SatisfiedBy (value row)) (a ++ b) b h (second_is_part a b)

pub last_part : (row : List Bool) (a : List (List ℕ)) (c : List ℕ) → AllSatisfiedBy (value row) (a ++ c ∷ [])
    → list_any (value row) c ≡ true
last_part row a c h = second_part row a (c ∷ []) h 0 [] (omega arith)

on_up : (k j : ℕ) → nat_le k j ≡ true → k ≤ j
on_up k j e = grind (arith, nat_tests)

-- what the levels gained, the solver is told under the switch of the level
module _ (n : Netlist) (known : List (List ℕ)) (old new : Levels) (level : ℕ) (clause guarded : List ℕ)
    (clauses : List (List ℕ)) (top : new.top ≡ old.top) (high : level ≤ old.top)
    (gains : Gains (circuit n) level clause old.kept new.kept) (own : is_foreign (circuit n) clause ≡ false)
    (begins : HoldsAtStart (circuit n) clause) (is : IsGuarded n level clause guarded) where
  was_on : (k : ℕ) (row : List Bool) → IsOn n new.top k row → IsOn n old.top k row
  was_on k row on = λ j up within. on j up (omega (arith, within, top))

  was_exactly : (k : ℕ) (row : List Bool) → IsExactly n new.top k row → IsExactly n old.top k row
  was_exactly k row on = λ j within. on j (omega (arith, within, top))

  holds_gained : Holds n known old clauses → Holds n known new (clauses ++ guarded ∷ [])
  holds_gained h = record {
    step = λ row all. h.step row (first_part row clauses (guarded ∷ []) all);
    level = λ row all k on. at_level row all k on;
  }
    where
      at_level : (row : List Bool) → AllSatisfiedBy (value row) (clauses ++ guarded ∷ []) → (k : ℕ) → IsOn n new.top k row
          → IsIn (circuit n) new.kept k (latch_row (circuit n) row)
      at_level row all zero on = h.level row (first_part row clauses (guarded ∷ []) all) 0 (was_on 0 row on)
      at_level row all (suc k) on =
          gains.forth (suc k) (latch_row (circuit n) row)
          (h.level row (first_part row clauses (guarded ∷ []) all) (suc k) (was_on (suc k) row on))
          (λ up. met_by_latches (circuit n) row clause own (holds_guarded n level clause guarded row is
          (last_part row clauses guarded all) (on level up (omega (arith, high, top)))))

  fits_gained : Fits n known old clauses → Fits n known new (clauses ++ guarded ∷ [])
  fits_gained h row step zero initial exactly =
      All-push (SatisfiedBy (value row)) clauses guarded (h row step 0 initial (was_exactly 0 row exactly))
      (guarded_holds n level clause guarded row is
      (λ _. met_in_row (circuit n) row clause own (begins (latch_row (circuit n) row) initial)))
  fits_gained h row step (suc k) there exactly =
      All-push (SatisfiedBy (value row)) clauses guarded
      (h row step (suc k) (gains.back (suc k) (latch_row (circuit n) row) there) (was_exactly (suc k) row exactly))
      (guarded_holds n level clause guarded row is (λ on. met_in_row (circuit n) row clause own
      (gains.gained (suc k) (latch_row (circuit n) row) there
      (on_up (suc k) level (sym (exactly level (omega (arith, high, top))) ∙ on)))))

  pub serves_gained : (count : ℕ) → Serves n known old count clauses → Serves n known new count (clauses ++ guarded ∷ [])
  serves_gained count h = record {
    width = omega (arith, h.width, top);
    small = h.small;
    holds = holds_gained h.holds;
    fits = fits_gained h.fits;
  }

-- one more level
pub serves_grown : (n : Netlist) (known : List (List ℕ)) (old new : Levels) (count : ℕ) (clauses : List (List ℕ))
    → new ≡ record { top = old.top + 1; kept = old.kept } → count < 2147483648
    → Serves n known old count clauses → Serves n known new (count + 1) clauses
serves_grown n known old new count clauses is small h =
    let P : Levels → Type 0 = λ f. Serves n known f (count + 1) clauses in
    subst P (sym is) (record {
      width = omega (arith, h.width);
      small = omega (arith, small);
      holds = record {
        step = h.holds.step;
        level = λ row all k on. h.holds.level row all k (λ j up within. on j up (omega (arith, within)));
      };
      fits = λ row step k there exactly. h.fits row step k there (λ j within. exactly j (omega (arith, within)));
    })

-- clauses that are known, with no switch
module _ (n : Netlist) (known more now : List (List ℕ)) (own : AreOwn (circuit n) more)
    (all : All (Contains (known ++ more)) now) (both : All (Contains now) (known ++ more)) where
  now_met : (row : List Bool) → MeetsClauses (circuit n) row known → MeetsClauses (circuit n) row more
      → MeetsClauses (circuit n) row now
  now_met row a b =
      let P : List ℕ → Type 0 = SatisfiedBy (latch_value (circuit n).latches row) in
      All-part P (known ++ more) now (All-append P known more a b) all

  was_met : (row : List Bool) → MeetsClauses (circuit n) row now → MeetsClauses (circuit n) row (known ++ more)
  was_met row h = All-part (SatisfiedBy (latch_value (circuit n).latches row)) now (known ++ more) h both

  step_now : (clauses : List (List ℕ)) (row : List Bool) → AllSatisfiedBy (value row) (clauses ++ more)
      → IsKnownStep n known row → IsKnownStep n now row
  step_now clauses row h step = record {
    coded = step.coded;
    known_met = now_met (latch_row (circuit n) row) step.known_met
        (met_back (circuit n) row more own (second_part row clauses more h));
  }

  step_before : (row : List Bool) → IsKnownStep n now row → IsKnownStep n known row
  step_before row step = record {
    coded = step.coded;
    known_met = All-part (SatisfiedBy (latch_value (circuit n).latches (latch_row (circuit n) row))) (known ++ more) known
        (was_met (latch_row (circuit n) row) step.known_met) (first_is_part known more);
  }

  more_met : (row : List Bool) → IsKnownStep n now row → AllSatisfiedBy (value row) more
  more_met row step =
      met_now (circuit n) row more own
      (All-part (SatisfiedBy (latch_value (circuit n).latches (latch_row (circuit n) row))) (known ++ more) more
      (was_met (latch_row (circuit n) row) step.known_met) (second_is_part known more))

  pub serves_known : (f : Levels) (count : ℕ) (clauses : List (List ℕ)) → Serves n known f count clauses
      → Serves n now f count (clauses ++ more)
  serves_known f count clauses h = record {
    width = h.width;
    small = h.small;
    holds = record {
      step = λ row all. step_now clauses row all (h.holds.step row (first_part row clauses more all));
      level = λ row all. h.holds.level row (first_part row clauses more all);
    };
    fits = λ row step k there exactly.
        All-append (SatisfiedBy (value row)) clauses more (h.fits row (step_before row step) k there exactly) (more_met row step);
  }

-- a clause that is known stands at the top too, and needs no switch there
module _ (n : Netlist) (known : List (List ℕ)) (old new : Levels) (clause : List ℕ) (level : ℕ) (top : new.top ≡ old.top)
    (gains : Gains (circuit n) level clause old.kept new.kept) where
  is_met : (row : List Bool) → MeetsClauses (circuit n) row (known ++ clause ∷ []) → Meets (circuit n) row clause
  is_met row h =
      All-part (SatisfiedBy (latch_value (circuit n).latches row)) (known ++ clause ∷ []) (clause ∷ []) h
      (second_is_part known (clause ∷ [])) 0 [] (omega arith)

  in_new : (row : List Bool) (k : ℕ) → IsKnownStep n (known ++ clause ∷ []) row
      → IsIn (circuit n) old.kept k (latch_row (circuit n) row)
      → IsIn (circuit n) new.kept k (latch_row (circuit n) row)
  in_new row zero step h = h
  in_new row (suc k) step h =
      gains.forth (suc k) (latch_row (circuit n) row) h (λ _. is_met (latch_row (circuit n) row) step.known_met)

  in_old : (row : List Bool) (k : ℕ) → IsIn (circuit n) new.kept k (latch_row (circuit n) row)
      → IsIn (circuit n) old.kept k (latch_row (circuit n) row)
  in_old row zero h = h
  in_old row (suc k) h = gains.back (suc k) (latch_row (circuit n) row) h

  pub serves_kept : (count : ℕ) (clauses : List (List ℕ)) → Serves n (known ++ clause ∷ []) old count clauses
      → Serves n (known ++ clause ∷ []) new count clauses
  serves_kept count clauses h = record {
    width = omega (arith, h.width, top);
    small = h.small;
    holds = record {
      step = h.holds.step;
      level = λ row all k on. in_new row k (h.holds.step row all)
          (h.holds.level row all k (λ j up within. on j up (omega (arith, within, top))));
    };
    fits = λ row step k there exactly. h.fits row step k (in_old row k there)
        (λ j within. exactly j (omega (arith, within, top)));
  }
