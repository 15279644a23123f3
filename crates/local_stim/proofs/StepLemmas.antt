-- One more step of a replay, and the verdict that follows from its last.
use Rattle.std.proofs.Common.{◌≡◌, ◌≢◌, ℕ, ◌+◌, ◌-◌, ◌<◌, ◌≤◌, Bool, Option, Some, None, List, [], ◌∷◌, ◌++◌, length, take, drop, slice_get, MatchOption, sym, ap, ◌∙◌, subst, refl, arith, All, length-append, take-append-drop, le_of_lt}
use Rattle.std.proofs.lemmas.Bool.{both_ways}
use Rattle.std.proofs.lemmas.List.{get_or_append_left, get_or_at, take_more, take_all, length-take-le}
use Rattle.std.proofs.lemmas.List.Elements.{All-push, All-drop}
use Rattle.std.proofs.lemmas.Option.{get_or_from_slice_get, slice_get_within}
use Rattle.ja_base.specs.Literals.{value}
use Rattle.ja_base.specs.Circuit as plain
use Rattle.ja_base.specs.Valuation.{MeetsConstraints, AssumptionsHold, IsBad}
use Rattle.ja_base.specs.Runs.{Trace, IsInitial, IsRun, IsLegal, IsLocalFailure}
use Rattle.ja_base.specs.Replay.{IsLeast, step_at, BreaksConstraint, BreaksAt, LeavesConstraints, BreaksEarlier}
use Rattle.aig_model.specs.Netlist.{Netlist, IsSound, circuit}
use Rattle.aig_eval.specs.Run.{Standing, RunsTo}
use Rattle.local_stim.specs.declared.earlier.Broken.{Broken}
use Rattle.local_stim.specs.Steps.{BreaksAssumption, IsFirstBreak, Replays, GoesOn, earlier_rows}
use Rattle.local_stim.proofs.RunLemmas.{length-run, IsRun-append, run_exists}

-- the problem of a design and an assumed set
abbrev pub problem_of : Netlist → List Bool → plain.Problem
problem_of n set = record { circuit = circuit n; assumed = set }

step_at-push : (steps more : List (List Bool)) (v : List Bool) → step_at (steps ++ v ∷ more) (length steps) ≡ v
step_at-push steps more v = get_or_at steps v more [] (length steps) refl

step_at-front : (steps more : List (List Bool)) (k : ℕ) → k < length steps → step_at (steps ++ more) k ≡ step_at steps k
step_at-front steps more k h = get_or_append_left steps more [] k h

pub least_broken_constraint : (c : plain.Circuit) (steps more : List (List Bool)) (v : List Bool) → All (MeetsConstraints c) steps
    → (MeetsConstraints c v → ⊥) → IsLeast (BreaksConstraint c ((steps ++ v ∷ []) ++ more)) (length steps)
least_broken_constraint c steps more v met not_met = (
  (within, λ m. not_met (subst (MeetsConstraints c) here m)),
  λ j h b. b.1 (subst (MeetsConstraints c) (sym (before j h)) (met j [] h)),
)
  where
    within : length steps < length ((steps ++ v ∷ []) ++ more)
    within = omega (arith, length-append (steps ++ v ∷ []) more, length-append steps (v ∷ []))

    here : step_at ((steps ++ v ∷ []) ++ more) (length steps) ≡ v
    here = step_at-front (steps ++ v ∷ []) more (length steps) (omega (arith, length-append steps (v ∷ [])))
        ∙ step_at-push steps [] v

    before : (j : ℕ) → j < length steps → step_at ((steps ++ v ∷ []) ++ more) j ≡ step_at steps j
    before j h = step_at-front (steps ++ v ∷ []) more j (omega (arith, length-append steps (v ∷ [])))
        ∙ step_at-front steps (v ∷ []) j h

-- the rows up to a place and that row are the rows up to the next place
pub rows_more : (rows : List (List Bool)) (k : ℕ) (row : List Bool) → slice_get rows k ≡ Some row
    → take k rows ++ row ∷ [] ≡ take (k + 1) rows
rows_more rows k row is =
    sym (take_more rows k row (slice_get_within rows k row is)
    ∙ ap (λ x. take k rows ++ x ∷ []) (get_or_from_slice_get rows k row row is))

-- as many steps were taken as there are rows up to this place
pub steps_taken : (t : plain.Problem) (m : Trace) (k : ℕ) (state : List Bool) (broken : Option Broken)
    (r : Replays t m.first (take k m.inputs) state broken) → k ≤ length m.inputs → length r.steps ≡ k
steps_taken t m k state broken r within = length-run t.circuit m.first (take k m.inputs) r.steps r.runs.run
    ∙ length-take-le k m.inputs within

-- A step leaves the constraints, and none before did. The rows behind it have a run too.
pub leaves_at : (n : Netlist) (set : List Bool) → IsSound n → (m : Trace) → IsInitial (circuit n) m.first
    → All (λ row. length row ≡ length n.inputs) m.inputs → (k : ℕ) (state next v : List Bool) (broken : Option Broken)
    (r : Replays (problem_of n set) m.first (take k m.inputs) state broken) → k < length m.inputs
    → RunsTo (circuit n) m.first (take (k + 1) m.inputs) (r.steps ++ v ∷ []) next → length next ≡ length n.latches
    → (MeetsConstraints (circuit n) v → ⊥) → LeavesConstraints (problem_of n set) m k
leaves_at n set sound m initial widths k state next v broken r within runs width not_met =
    let behind = drop (k + 1) m.inputs in
    let rest = run_exists n sound next width behind (All-drop (λ row. length row ≡ length n.inputs) (k + 1) m.inputs widths) in
    let steps = (r.steps ++ v ∷ []) ++ rest.0 in
    record {
      steps = steps;
      replay = record {
        starts = initial;
        runs = subst (λ rows. IsRun (circuit n) m.first rows steps) (take-append-drop (k + 1) m.inputs)
            (IsRun-append (circuit n) m.first next (take (k + 1) m.inputs)
            (r.steps ++ v ∷ []) behind rest.0 runs.run runs.next rest.1);
        has_step = omega (arith, length-append (r.steps ++ v ∷ []) rest.0, length-append r.steps (v ∷ []));
      };
      least_step = subst (IsLeast (BreaksConstraint (circuit n) steps))
          (steps_taken (problem_of n set) m k state broken r (le_of_lt within))
          (least_broken_constraint (circuit n) r.steps rest.0 v r.constrained not_met);
    }

module _ (t : plain.Problem) (steps : List (List Bool)) (v : List Bool) where
  -- at a step that is there already, one more step changes nothing
  break_kept : (j r : ℕ) → BreaksAt t steps j r → BreaksAt t (steps ++ v ∷ []) j r
  break_kept j r b = (
    omega (arith, b.0, length-append steps (v ∷ [])),
    b.1,
    subst (IsBad t.circuit r) (sym (step_at-front steps (v ∷ []) j b.0)) b.2,
  )

  break_before : (j r : ℕ) → j < length steps → BreaksAt t (steps ++ v ∷ []) j r → BreaksAt t steps j r
  break_before j r h b = (h, b.1, subst (IsBad t.circuit r) (step_at-front steps (v ∷ []) j h) b.2)

  break_here : (r : ℕ) → BreaksAssumption t v r → BreaksAt t (steps ++ v ∷ []) (length steps) r
  break_here r b = (
    omega (arith, length-append steps (v ∷ [])),
    b.0,
    subst (IsBad t.circuit r) (sym (step_at-push steps [] v)) b.1,
  )

  break_of_last : (r : ℕ) → BreaksAt t (steps ++ v ∷ []) (length steps) r → BreaksAssumption t v r
  break_of_last r b = (b.1, subst (IsBad t.circuit r) (step_at-push steps [] v) b.2)

  not_held : (j r : ℕ) → All (AssumptionsHold t.circuit t.assumed) steps → BreaksAt t steps j r → ⊥
  not_held j r held b = both_ways (value (step_at steps j) (plain.bad_literal t.circuit r)) (held j [] b.0 r b.1) b.2

  pub kept_first_break : (b : Broken) → IsFirstBreak t steps (Some b) → IsFirstBreak t (steps ++ v ∷ []) (Some b)
  kept_first_break b f =
      let within = f.1.0.0 in
      let step = f.0.0 in (
        ((step.0, break_kept b.step step.0 step.1), λ j h x. f.0.1 j h (x.0, break_before j x.0 (omega (arith, within, h)) x.1)),
        (break_kept b.step b.prop f.1.0, λ r h x. f.1.1 r h (break_before b.step r within x)),
      )

  pub new_first_break : (b : Broken) → All (AssumptionsHold t.circuit t.assumed) steps → b.step ≡ length steps
      → IsLeast (BreaksAssumption t v) b.prop → IsFirstBreak t (steps ++ v ∷ []) (Some b)
  new_first_break b held is least =
      let at = subst (λ k. IsLeast (λ j. (r : ℕ) × BreaksAt t (steps ++ v ∷ []) j r) k
      × IsLeast (BreaksAt t (steps ++ v ∷ []) k) b.prop) (sym is) in
      at (
        (((b.prop, break_here b.prop least.0)), λ j h x. not_held j x.0 held (break_before j x.0 h x.1)),
        (break_here b.prop least.0, λ r h x. least.1 r h (break_of_last r x)),
      )

  pub next_first_break : (before after : Option Broken) → IsFirstBreak t steps before → (before ≢ None → after ≡ before)
      → (before ≡ None → MatchOption after (AssumptionsHold t.circuit t.assumed v)
      (λ b. (b.step ≡ length steps) × IsLeast (BreaksAssumption t v) b.prop))
      → IsFirstBreak t (steps ++ v ∷ []) after
  next_first_break (Some b) after f found here = subst (IsFirstBreak t (steps ++ v ∷ [])) (sym (found (λ e. absurd (cc))))
      (kept_first_break b f)
  next_first_break None None f found here = All-push (AssumptionsHold t.circuit t.assumed) steps v f (here refl)
  next_first_break None (Some b) f found here = let h = here refl in new_first_break b f h.0 h.1

-- one more step that meets the constraints
pub next_replays : (t : plain.Problem) (m : Trace) (k : ℕ) (state next v : List Bool) (before after : Option Broken)
    (r : Replays t m.first (take k m.inputs) state before) → k < length m.inputs
    → RunsTo t.circuit m.first (take (k + 1) m.inputs) (r.steps ++ v ∷ []) next → MeetsConstraints t.circuit v
    → (before ≢ None → after ≡ before)
    → (before ≡ None → MatchOption after (AssumptionsHold t.circuit t.assumed v)
    (λ b. (b.step ≡ k) × IsLeast (BreaksAssumption t v) b.prop))
    → Replays t m.first (take (k + 1) m.inputs) next after
next_replays t m k state next v before after r within runs met found here =
    record {
      steps = r.steps ++ v ∷ [];
      runs = runs;
      constrained = All-push (MeetsConstraints t.circuit) r.steps v r.constrained met;
      first_break = next_first_break t r.steps v before after r.first_break found
          (subst (λ n. before ≡ None
          → MatchOption after (AssumptionsHold t.circuit t.assumed v)
          (λ b. (b.step ≡ n) × IsLeast (BreaksAssumption t v) b.prop))
          (sym (steps_taken t m k state before r (le_of_lt within))) here);
    }

-- The last step meets the constraints too: the stimulus is legal.
pub legal_to_last : (t : plain.Problem) (m : Trace) (len : ℕ) (old after : Standing) (broken : Option Broken)
    → IsInitial t.circuit m.first
    → len ≡ length m.inputs → 0 < len → (r : Replays t m.first (earlier_rows m) old.state broken)
    → GoesOn t.circuit m (len - 1) old after
    → MeetsConstraints t.circuit after.values → IsLegal t.circuit m (r.steps ++ after.values ∷ [])
legal_to_last t m len old after broken initial is some r goes met =
    let steps = r.steps ++ after.values ∷ [] in
    let taken = goes r.steps (subst (λ n. RunsTo t.circuit m.first (take (n - 1) m.inputs) r.steps old.state) (sym is) r.runs) in
    record {
      replay = record {
        starts = initial;
        runs = subst (λ rows. IsRun t.circuit m.first rows steps) (take_all (len - 1 + 1) m.inputs (omega arith)) taken.run;
        has_step = omega (arith, length-append r.steps (after.values ∷ []));
      };
      constrained = All-push (MeetsConstraints t.circuit) r.steps after.values r.constrained met;
    }

-- the verdicts on a legal stimulus whose last step breaks the property
module _ (t : plain.Problem) (p : ℕ) (m : Trace) (state v : List Bool) (broken : Option Broken)
    (r : Replays t m.first (earlier_rows m) state broken) (legal : IsLegal t.circuit m (r.steps ++ v ∷ []))
    (bad : IsBad t.circuit p v) where
  pub broken_verdict : (b : Broken) → broken ≡ Some b → BreaksEarlier t p m b.step b.prop
  broken_verdict b is =
      let first = subst (IsFirstBreak t r.steps) is r.first_break in
      record { earlier = r.steps; last = v; legal = legal; bad = bad; least_step = first.0; least_property = first.1 }

  pub local_verdict : broken ≡ None → IsLocalFailure t p m
  local_verdict is =
      record {
        earlier = r.steps;
        last = v;
        reached = record {
          legal = legal;
          held = subst
              (IsFirstBreak t r.steps) is r.first_break;
        };
        bad = bad;
      }
