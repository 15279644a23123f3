-- A stimulus that suits a sound design has a verdict: each reason stands or does not, and where none does it is a local failure.
use Rattle.std.proofs.Common.{◌≡◌, ℕ, zero, suc, ◌<◌, ◌≤◌, ◌⊎◌, inl, inr, Bool, true, false, not, List, [], ◌∷◌, ◌++◌, length, slice_get, Option, Some, None, refl, sym, ap, subst, ◌∙◌, arith, All, below_more}
use Rattle.std.proofs.lemmas.Bool.{cases_lt, false≢true}
use Rattle.std.proofs.lemmas.List.{get_or_default, get_or_past}
use Rattle.std.proofs.lemmas.List.Elements.{All-nil, All-cons, All-head, All-tail}
use Rattle.std.proofs.lemmas.Option.{same_Some}
use Rattle.ja_base.specs.Literals.{bit, value}
use Rattle.ja_base.specs.Circuit.{Circuit, Latch, Problem, bad_literal}
use Rattle.ja_base.specs.Valuation.{MeetsConstraints, AssumptionsHold, IsBad}
use Rattle.ja_base.specs.Runs.{Trace, IsReplay, IsLegal}
use Rattle.ja_base.specs.Replay.{IsLeast, step_at, BreaksReset, BreaksConstraint, BreaksAt}
use Rattle.aig_model.specs.Netlist.{IsSound, circuit}
use Rattle.aig_model.specs.Task.{VerificationTask, problem}
use Rattle.local_stim.specs.StimulusText.{Suits}
use Rattle.local_stim.specs.Verdict.{IsVerdict}
use Rattle.local_stim.specs.declared.verdict.Confirm.{Confirm}
use Rattle.local_stim.specs.declared.verdict.Confirm.TheVariants.{Local, NotInitial, Constraint, NotBad, Assumed}
use Rattle.local_stim.proofs.CheckLemmas.{same_or_other, initial_from_none}
use Rattle.local_stim.proofs.RunLemmas.{length-run, run_exists}
use Rattle.local_stim.proofs.VerdictLemmas.{not_self}

-- ---- what stands or does not

abbrev pub Decided : Type 0 → Type 0
Decided P = P ⊎ (P → ⊥)

-- the least number below n with the property, or none has it
abbrev pub LeastBelow : (ℕ → Type 0) → ℕ → Type 0
LeastBelow P n = ((k : ℕ) × (k < n) × IsLeast P k) ⊎ ((k : ℕ) → k < n → P k → ⊥)

least_step : (P : ℕ → Type 0) (n : ℕ) → LeastBelow P n → Decided (P n) → LeastBelow P (suc n)
least_step P n (inl found) here = inl (found.0, omega arith, found.2)
least_step P n (inr none) (inl p) = inl (n, omega arith, (p, none))
least_step P n (inr none) (inr not_here) = inr (λ k lt. below_more (λ j. P j → ⊥) n none not_here k (omega arith))

pub least_or_none : (P : ℕ → Type 0) (n : ℕ) → ((k : ℕ) → k < n → Decided (P k)) → LeastBelow P n
least_or_none P zero each = inr (λ k lt. absurd (omega arith))
least_or_none P (suc n) each = least_step P n (least_or_none P n (λ k lt. each k (omega arith))) (each n (omega arith))

is_true : (b : Bool) → Decided (b ≡ true)
is_true true = inl refl
is_true false = inr (λ e. false≢true e)

both_decided : (P Q : Type 0) → Decided P → Decided Q → Decided (P × Q)
both_decided P Q (inl p) (inl q) = inl (p, q)
both_decided P Q (inr not_p) q = inr (λ h. not_p h.0)
both_decided P Q (inl p) (inr not_q) = inr (λ h. not_q h.1)

-- ---- resets

reset_given : (c : Circuit) (first : List Bool) (k : ℕ) (l : Latch) → slice_get c.latches k ≡ Some l → (r : Option Bool)
    → l.reset ≡ r → Decided (BreaksReset c first k)
reset_given c first k l e None h =
    inr (λ b. let none : ◌≡◌ {A = Option Bool} None (Some b.reset) = sym h
    ∙ ap (λ (x : Latch). x.reset) (same_Some l b.latch (sym e ∙ b.latch_is)) ∙ b.given in absurd cc)
reset_given c first k l e (Some r) h = by_bit (same_or_other (bit first k) r)
  where
    by_bit : (bit first k ≡ r) ⊎ (bit first k ≡ not r) → Decided (BreaksReset c first k)
    by_bit (inl same) = inr (λ b.
        let is : r ≡ b.reset = same_Some r b.reset
        (sym h ∙ ap (λ (x : Latch). x.reset) (same_Some l b.latch (sym e ∙ b.latch_is)) ∙ b.given) in
        not_self r (sym same ∙ b.other ∙ ap not (sym is)))
    by_bit (inr other) = inl (record { latch = l; reset = r; latch_is = e; given = h; other = other })

reset_decided : (c : Circuit) (first : List Bool) (k : ℕ) (found : Option Latch) → slice_get c.latches k ≡ found
    → Decided (BreaksReset c first k)
reset_decided c first k None e = inr
    (λ b. let none : ◌≡◌ {A = Option Latch} None (Some b.latch) = sym e ∙ b.latch_is in absurd cc)
reset_decided c first k (Some l) e = reset_given c first k l e l.reset refl

-- ---- constraints

literals_decided : (v : List Bool) (xs : List ℕ) → Decided (All (λ l. value v l ≡ true) xs)
literals_decided v [] = inl (All-nil (λ l. value v l ≡ true))
literals_decided v (x ∷ xs) = joined
    (both_decided (value v x ≡ true) (All (λ l. value v l ≡ true) xs) (is_true (value v x)) (literals_decided v xs))
  where
    joined : Decided ((value v x ≡ true) × All (λ l. value v l ≡ true) xs) → Decided (All (λ l. value v l ≡ true) (x ∷ xs))
    joined (inl h) = inl (All-cons (λ l. value v l ≡ true) x xs h.0 h.1)
    joined (inr not_both) = inr
        (λ all. not_both (All-head (λ l. value v l ≡ true) x xs all, All-tail (λ l. value v l ≡ true) x xs all))

constraint_decided : (c : Circuit) (steps : List (List Bool)) (k : ℕ) → k < length steps → Decided (BreaksConstraint c steps k)
constraint_decided c steps k lt = turned (literals_decided (step_at steps k) c.constraints)
  where
    turned : Decided (MeetsConstraints c (step_at steps k)) → Decided (BreaksConstraint c steps k)
    turned (inl met) = inr (λ b. b.1 met)
    turned (inr not_met) = inl (lt, not_met)

constrained : (c : Circuit) (steps : List (List Bool)) → ((k : ℕ) → k < length steps → BreaksConstraint c steps k → ⊥)
    → All (MeetsConstraints c) steps
constrained c steps none k d lt = subst (MeetsConstraints c) (get_or_default steps k [] d lt)
    (met (literals_decided (step_at steps k) c.constraints))
  where
    met : Decided (MeetsConstraints c (step_at steps k)) → MeetsConstraints c (step_at steps k)
    met (inl m) = m
    met (inr not_met) = absurd (none k lt (lt, not_met))

-- ---- assumed properties

set_within : (set : List Bool) (r : ℕ) → bit set r ≡ true → r < length set
set_within set r h = by_place (cases_lt r (length set))
  where
    by_place : (r < length set) ⊎ (length set ≤ r) → r < length set
    by_place (inl lt) = lt
    by_place (inr past) = absurd (false≢true (sym (get_or_past set r false past) ∙ h))

break_decided : (t : Problem) (steps : List (List Bool)) (j r : ℕ) → j < length steps → Decided (BreaksAt t steps j r)
break_decided t steps j r lt = placed
    (both_decided (bit t.assumed r ≡ true) (IsBad t.circuit r (step_at steps j)) (is_true (bit t.assumed r))
    (is_true (value (step_at steps j) (bad_literal t.circuit r))))
  where
    placed : Decided ((bit t.assumed r ≡ true) × IsBad t.circuit r (step_at steps j)) → Decided (BreaksAt t steps j r)
    placed (inl b) = inl (lt, b.0, b.1)
    placed (inr no_break) = inr (λ b. no_break (b.1, b.2))

-- the least property that is broken at a step, or none is
least_property : (t : Problem) (steps : List (List Bool)) (j : ℕ) → j < length steps
    → LeastBelow (BreaksAt t steps j) (length t.assumed)
least_property t steps j lt = least_or_none (BreaksAt t steps j) (length t.assumed) (λ r within. break_decided t steps j r lt)

some_broken : (t : Problem) (steps : List (List Bool)) (j : ℕ) → LeastBelow (BreaksAt t steps j) (length t.assumed)
    → Decided ((r : ℕ) × BreaksAt t steps j r)
some_broken t steps j (inl found) = inl (found.0, found.2.0)
some_broken t steps j (inr none) = inr (λ x. none x.0 (set_within t.assumed x.0 x.1.1) x.1)

held : (t : Problem) (steps : List (List Bool)) → ((j : ℕ) → j < length steps → (r : ℕ) × BreaksAt t steps j r → ⊥)
    → All (AssumptionsHold t.circuit t.assumed) steps
held t steps none k d lt = subst (AssumptionsHold t.circuit t.assumed) (get_or_default steps k [] d lt)
    (λ r assumed. good r assumed (value (step_at steps k) (bad_literal t.circuit r)) refl)
  where
    good : (r : ℕ) → bit t.assumed r ≡ true → (b : Bool) → value (step_at steps k) (bad_literal t.circuit r) ≡ b
        → value (step_at steps k) (bad_literal t.circuit r) ≡ false
    good r assumed true e = absurd (none k lt (r, (lt, assumed, e)))
    good r assumed false e = e

-- ---- the verdict

abbrev pub SomeVerdict : Problem → ℕ → Trace → Type 0
SomeVerdict t p m = (verdict : Confirm) × IsVerdict t p m verdict

module _ (t : Problem) (p : ℕ) (m : Trace) (earlier : List (List Bool)) (last : List Bool)
    (legal : IsLegal t.circuit m (earlier ++ last ∷ [])) where
  broken_at : IsBad t.circuit p last → (k : ℕ) → k < length earlier → IsLeast (λ j. (r : ℕ) × BreaksAt t earlier j r) k
      → LeastBelow (BreaksAt t earlier k) (length t.assumed) → SomeVerdict t p m
  broken_at bad k lt least (inl q) = (
    Assumed k q.0,
    record {
      earlier = earlier;
      last = last;
      legal = legal;
      bad = bad;
      least_step = least;
      least_property = q.2;
    },
  )
  broken_at bad k lt least (inr none) = absurd (none least.0.0 (set_within t.assumed least.0.0 least.0.1.1) least.0.1)

  bad_verdict : IsBad t.circuit p last → LeastBelow (λ j. (r : ℕ) × BreaksAt t earlier j r) (length earlier) → SomeVerdict t p m
  bad_verdict bad (inl found) = broken_at bad found.0 found.1 found.2 (least_property t earlier found.0 found.1)
  bad_verdict bad (inr none) = (
    Local,
    record {
      earlier = earlier;
      last = last;
      reached = record { legal = legal; held = held t earlier none };
      bad = bad;
    },
  )

  legal_verdict : (b : Bool) → value last (bad_literal t.circuit p) ≡ b → SomeVerdict t p m
  legal_verdict false good = (NotBad, record { earlier = earlier; last = last; legal = legal; good = good })
  legal_verdict true bad =
      bad_verdict bad (least_or_none (λ j. (r : ℕ) × BreaksAt t earlier j r) (length earlier)
      (λ j lt. some_broken t earlier j (least_property t earlier j lt)))

-- a list that has an element has a last one
ends_with : {X : Type 0} (x : X) (xs : List X) → (earlier : List X) × (last : X) × (x ∷ xs ≡ earlier ++ last ∷ [])
ends_with x [] = ([], x, refl)
ends_with {X} x (y ∷ ys) = let r = ends_with y ys in (x ∷ r.0, r.1, ap (λ (zs : List X). x ∷ zs) r.2)

constrained_verdict : (t : Problem) (p : ℕ) (m : Trace) (steps : List (List Bool)) → IsLegal t.circuit m steps → SomeVerdict t p m
constrained_verdict t p m [] legal = absurd (omega (arith, legal.replay.has_step))
constrained_verdict t p m (v ∷ vs) legal =
    let parts = ends_with v vs in
    legal_verdict t p m parts.0 parts.1 (subst (IsLegal t.circuit m) parts.2 legal) (value parts.1 (bad_literal t.circuit p)) refl

replay_verdict : (t : Problem) (p : ℕ) (m : Trace) (steps : List (List Bool)) → IsReplay t.circuit m steps
    → LeastBelow (BreaksConstraint t.circuit steps) (length steps) → SomeVerdict t p m
replay_verdict t p m steps replay (inl found) =
    (Constraint found.0, record { steps = steps; replay = replay; least_step = found.2 })
replay_verdict t p m steps replay (inr none) = constrained_verdict t p m steps
    (record { replay = replay; constrained = constrained t.circuit steps none })

start_verdict : (t : VerificationTask) (p : ℕ) (m : Trace) → IsSound t.design → Suits t.design p m
    → LeastBelow (BreaksReset (circuit t.design) m.first) (length t.design.latches) → SomeVerdict (problem t) p m
start_verdict t p m sound suits (inl found) = (NotInitial found.0, record { least_latch = found.2 })
start_verdict t p m sound suits (inr none) =
    let run = run_exists t.design sound m.first suits.first m.inputs suits.rows in
    let steps = run.0 in
    let long : length steps ≡ length m.inputs = length-run (circuit t.design) m.first m.inputs steps run.1 in
    replay_verdict (problem t) p m steps
    (record {
      starts = initial_from_none t.design m.first suits.first none;
      runs = run.1;
      has_step = omega
          (arith, suits.some);
    })
    (least_or_none (BreaksConstraint (circuit t.design) steps) (length steps) (constraint_decided (circuit t.design) steps))

pub verdict_exists : (t : VerificationTask) (p : ℕ) (m : Trace) → IsSound t.design → Suits t.design p m
    → SomeVerdict (problem t) p m
verdict_exists t p m sound suits =
    start_verdict t p m sound suits
    (least_or_none (BreaksReset (circuit t.design) m.first) (length t.design.latches)
    (λ k lt. reset_decided (circuit t.design) m.first k (slice_get (circuit t.design).latches k) refl))
