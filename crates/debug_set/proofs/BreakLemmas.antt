-- A list of steps in which a property of a set is broken somewhere has a first such step.
use Rattle.std.proofs.Common.{◌≡◌, ℕ, zero, suc, ◌<◌, ◌⊎◌, inl, inr, ⊎_elim, Bool, true, false, List, [], ◌∷◌, ◌++◌, length, sym, ap, subst, ◌∙◌, refl, arith, below_more}
use Rattle.std.specs.Prelude.{All}
use Rattle.std.proofs.lemmas.Bool.{cases_lt, false≢true}
use Rattle.std.proofs.lemmas.List.{get_or_past}
use Rattle.std.proofs.lemmas.List.Elements.{All-nil, All-cons, All-head, All-tail}
use Rattle.ja_base.specs.Literals.{bit, value}
use Rattle.ja_base.specs.Circuit.{Circuit, Problem, bad_literal}
use Rattle.ja_base.specs.Valuation.{IsBad, IsGood, AssumptionsHold}
use Rattle.ja_base.specs.Runs.{Trace, IsLegal, IsFirstBroken, BreaksAssumed}

-- a property of the set that is broken at the step
abbrev Broken : Circuit → List Bool → List Bool → Type 0
Broken c set values = (p : ℕ) × (bit set p ≡ true) × IsBad c p values

-- none of the first n properties is of the set and broken
abbrev HoldBelow : Circuit → List Bool → List Bool → ℕ → Type 0
HoldBelow c set values n = (p : ℕ) → p < n → bit set p ≡ true → IsGood c p values

next_property : (c : Circuit) (set values : List Bool) (n : ℕ) (assumed bad : Bool) → bit set n ≡ assumed
    → value values (bad_literal c n) ≡ bad → HoldBelow c set values n → Broken c set values ⊎ HoldBelow c set values (suc n)
next_property c set values n true true assumed bad hold = inl (n, assumed, bad)
next_property c set values n true false assumed bad hold =
    inr (λ p lt. below_more (λ k. bit set k ≡ true → IsGood c k values) n hold (λ h. bad) p (omega (arith, lt)))
next_property c set values n false b assumed bad hold =
    inr (λ p lt. below_more (λ k. bit set k ≡ true → IsGood c k values) n hold (λ h. absurd (false≢true (sym assumed ∙ h))) p
    (omega (arith, lt)))

broken_or_hold : (c : Circuit) (set values : List Bool) (n : ℕ) → Broken c set values ⊎ HoldBelow c set values n
broken_or_hold c set values zero = inr (λ p lt. absurd (omega (arith, lt)))
broken_or_hold c set values (suc n) = ⊎_elim (λ broken. inl broken)
    (λ hold. next_property c set values n (bit set n) (value values (bad_literal c n)) refl refl hold)
    (broken_or_hold c set values n)

-- the steps in two parts, with the first step at which a property of the set is broken between them
record FirstBreak (c : Circuit) (set : List Bool) (steps : List (List Bool)) : Type 0 where
  before : List (List Bool)
  at : List Bool
  after : List (List Bool)
  steps_are : steps ≡ before ++ at ∷ after
  held : All (AssumptionsHold c set) before
  broken : Broken c set at

abbrev Splits : Circuit → List Bool → List (List Bool) → Type 0
Splits c set steps = FirstBreak c set steps ⊎ All (AssumptionsHold c set) steps

holds_from_all : (c : Circuit) (set values : List Bool) → HoldBelow c set values (length set) → AssumptionsHold c set values
holds_from_all c set values hold p assumed = ⊎_elim (λ lt. hold p lt assumed)
    (λ past. absurd (false≢true (sym (get_or_past set p false past) ∙ assumed))) (cases_lt p (length set))

one_step : (c : Circuit) (set values : List Bool) → Broken c set values ⊎ AssumptionsHold c set values
one_step c set values = ⊎_elim (λ broken. inl broken) (λ hold. inr (holds_from_all c set values hold))
    (broken_or_hold c set values (length set))

add_step : (c : Circuit) (set values : List Bool) (steps : List (List Bool)) → Broken c set values ⊎ AssumptionsHold c set values
    → Splits c set steps → Splits c set (values ∷ steps)
add_step c set values steps (inl broken) rest = inl (record {
  before = [];
  at = values;
  after = steps;
  steps_are = refl;
  held = All-nil (AssumptionsHold c set);
  broken = broken;
})
add_step c set values steps (inr hold) (inl first) = inl (record {
  before = values ∷ first.before;
  at = first.at;
  after = first.after;
  steps_are = ap (λ more. values ∷ more) first.steps_are;
  held = All-cons (AssumptionsHold c set) values first.before hold first.held;
  broken = first.broken;
})
add_step c set values steps (inr hold) (inr all) = inr (All-cons (AssumptionsHold c set) values steps hold all)

splits : (c : Circuit) (set : List Bool) (steps : List (List Bool)) → Splits c set steps
splits c set [] = inr (All-nil (AssumptionsHold c set))
splits c set (v ∷ steps) = add_step c set v steps (one_step c set v) (splits c set steps)

middle_of_all : {X : Type 0} (P : X → Type 0) (front : List X) (x : X) (back : List X) → All P (front ++ x ∷ back) → P x
middle_of_all P [] x back h = All-head P x back h
middle_of_all P (y ∷ front) x back h = middle_of_all P front x back (All-tail P y (front ++ x ∷ back) h)

pub breaks_have_first : (t : Problem) (m : Trace) → BreaksAssumed t.circuit t.assumed m → (p : ℕ) × IsFirstBroken t m p
breaks_have_first t m b = ⊎_elim found none (splits t.circuit t.assumed (b.before ++ b.at ∷ b.after))
  where
    found : FirstBreak t.circuit t.assumed (b.before ++ b.at ∷ b.after) → (p : ℕ) × IsFirstBroken t m p
    found f = (
      f.broken.0,
      record {
        before = f.before;
        at = f.at;
        after = f.after;
        legal = subst (IsLegal t.circuit m) f.steps_are b.legal;
        held = f.held;
        assumed = f.broken.1;
        bad = f.broken.2;
      },
    )

    none : All (AssumptionsHold t.circuit t.assumed) (b.before ++ b.at ∷ b.after) → (p : ℕ) × IsFirstBroken t m p
    none all = let good = middle_of_all (AssumptionsHold t.circuit t.assumed) b.before b.at b.after all b.property b.assumed in
        absurd (false≢true (sym good ∙ b.bad))
