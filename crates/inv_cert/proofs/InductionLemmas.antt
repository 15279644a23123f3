-- What inductive lists say of runs, and how one is made from others.
use Rattle.std.proofs.Common.{ℕ, Bool, List, [], ◌∷◌, ◌++◌, get_or, sym, subst}
use Rattle.std.specs.Prelude.{All, Contains}
use Rattle.std.proofs.lemmas.Bool.{both_ways, false≢true}
use Rattle.std.proofs.lemmas.List.Elements.{All-head, All-tail, All-append, All-contains}
use Rattle.ja_base.specs.Literals.{value, SatisfiedBy}
use Rattle.ja_base.specs.Circuit.{Circuit, Problem, bad_literal}
use Rattle.ja_base.specs.Valuation.{IsValuation, latch_row, next_state, MeetsConstraints, AssumptionsHold}
use Rattle.ja_base.specs.Runs.{Trace, IsRun, IsReachable, FailsLocally, BreaksAssumed}
use Rattle.ja_base.specs.Invariants.{latch_value, MeetsClauses, IsInductive, Covers, CoversAll}
use Rattle.ja_base.proofs.JoinLemmas.{first_is_part, second_is_part}

-- what holds of each clause of a list holds of each clause of its parts
pub All-part : {X : Type 0} (P : X → Type 0) (many few : List X) → All P many → All (Contains many) few → All P few
All-part P many few all part k d h = All-contains P many (get_or few k d) all (part k d h)

-- a list with the same clauses
pub IsInductive-same : (c : Circuit) (set : List Bool) (a b : List (List ℕ)) → All (Contains a) b → All (Contains b) a
    → IsInductive c set a → IsInductive c set b
IsInductive-same c set a b part whole h = record {
  starts = λ state initial. All-part (SatisfiedBy (latch_value c.latches state)) a b (h.starts state initial) part;
  steps = λ state input values now meets constrained held.
      let old : MeetsClauses c state a = All-part (SatisfiedBy (latch_value c.latches state)) b a meets whole in
      All-part (SatisfiedBy (latch_value c.latches (next_state c values))) a b
      (h.steps state input values now old constrained held) part;
}

pub IsInductive-append : (c : Circuit) (set : List Bool) (a b : List (List ℕ)) → IsInductive c set a → IsInductive c set b
    → IsInductive c set (a ++ b)
IsInductive-append c set a b g h = record {
  starts = λ state initial.
      All-append (SatisfiedBy (latch_value c.latches state)) a b (g.starts state initial) (h.starts state initial);
  steps = λ state input values now meets constrained held.
      let of_a : MeetsClauses c state a = All-part (SatisfiedBy (latch_value c.latches state)) (a ++ b) a meets
      (first_is_part a b) in
      let of_b : MeetsClauses c state b = All-part (SatisfiedBy (latch_value c.latches state)) (a ++ b) b meets
      (second_is_part a b) in
      All-append (SatisfiedBy (latch_value c.latches (next_state c values))) a b
      (g.steps state input values now of_a constrained held) (h.steps state input values now of_b constrained held);
}

-- what is covered needs no assumption
pub assumptions_discharge : (c : Circuit) (set : List Bool) (clauses : List (List ℕ)) → IsInductive c set clauses
    → CoversAll c set clauses → IsInductive c [] clauses
assumptions_discharge c set clauses h covers = record {
  starts = h.starts;
  steps = λ state input values now meets constrained _.
      h.steps state input values now meets constrained (λ p assumed. covers p assumed state input values now meets constrained);
}

-- a legal step from a row that meets the clauses
pub record IsMetStep (c : Circuit) (clauses : List (List ℕ)) (values : List Bool) : Type 0 where
  pub state : List Bool
  pub input : List Bool
  pub now : IsValuation c state input values
  pub meets : MeetsClauses c state clauses
  pub constrained : MeetsConstraints c values

-- the step at which no assumption was broken before
pub step_meets : (c : Circuit) (set : List Bool) (clauses : List (List ℕ)) → IsInductive c set clauses
    → (before : List (List Bool)) (at : List Bool) (after : List (List Bool)) (state : List Bool) (inputs : List (List Bool))
    → IsRun c state inputs (before ++ at ∷ after) → MeetsClauses c state clauses
    → All (MeetsConstraints c) (before ++ at ∷ after) → All (AssumptionsHold c set) before → IsMetStep c clauses at
step_meets c set clauses h [] at after state [] run meets constrained held = absurd run
step_meets c set clauses h [] at after state (x ∷ xs) run meets constrained held = record {
  state = state;
  input = x;
  now = run.0;
  meets = meets;
  constrained = All-head (MeetsConstraints c) at after constrained;
}
step_meets c set clauses h (v ∷ vs) at after state [] run meets constrained held = absurd run
step_meets c set clauses h (v ∷ vs) at after state (x ∷ xs) run meets constrained held =
    let next : MeetsClauses c (next_state c v) clauses =
    h.steps state x v run.0 meets (All-head (MeetsConstraints c) v (vs ++ at ∷ after) constrained)
    (All-head (AssumptionsHold c set) v vs held) in
    step_meets c set clauses h vs at after (next_state c v) xs run.1 next
    (All-tail (MeetsConstraints c) v (vs ++ at ∷ after) constrained) (All-tail (AssumptionsHold c set) v vs held)

pub reachable_meets : (t : Problem) (clauses : List (List ℕ)) (state : List Bool) → IsInductive t.circuit t.assumed clauses
    → IsReachable t state → MeetsClauses t.circuit state clauses
reachable_meets t clauses state h r =
    let legal = r.reached.legal in
    let step = step_meets t.circuit t.assumed clauses h r.earlier r.last [] r.stimulus.first r.stimulus.inputs legal.replay.runs
    (h.starts r.stimulus.first legal.replay.starts) legal.constrained r.reached.held in
    let at_last : MeetsClauses t.circuit (latch_row t.circuit r.last) clauses =
    subst (λ s. MeetsClauses t.circuit s clauses) (sym step.now.latches) step.meets in
    subst (λ s. MeetsClauses t.circuit s clauses) r.state_is at_last

pub covered_never_fails : (t : Problem) (clauses : List (List ℕ)) (p : ℕ) → IsInductive t.circuit t.assumed clauses
    → Covers t.circuit clauses p → FailsLocally t p → ⊥
covered_never_fails t clauses p h covers failure =
    let m = failure.0 in
    let f = failure.1 in
    let legal = f.reached.legal in
    let step = step_meets t.circuit t.assumed clauses h f.earlier f.last [] m.first m.inputs legal.replay.runs
    (h.starts m.first legal.replay.starts) legal.constrained f.reached.held in
    both_ways (value f.last (bad_literal t.circuit p))
    (covers step.state step.input f.last step.now step.meets step.constrained) f.bad

nothing_assumed : (c : Circuit) (steps : List (List Bool)) → All (AssumptionsHold c []) steps
nothing_assumed c steps k d _ p assumed = absurd (false≢true assumed)

pub covered_never_breaks : (c : Circuit) (set : List Bool) (clauses : List (List ℕ)) → IsInductive c set clauses
    → CoversAll c set clauses → (m : Trace) → BreaksAssumed c set m → ⊥
covered_never_breaks c set clauses h covers m b =
    let free = assumptions_discharge c set clauses h covers in
    let step = step_meets c [] clauses free b.before b.at b.after m.first m.inputs b.legal.replay.runs
    (free.starts m.first b.legal.replay.starts) b.legal.constrained (nothing_assumed c b.before) in
    both_ways (value b.at (bad_literal c b.property))
    (covers b.property b.assumed step.state step.input b.at step.now step.meets step.constrained) b.bad
