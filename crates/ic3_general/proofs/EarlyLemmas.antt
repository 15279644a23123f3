-- A way that respects some of what is assumed: its replay is refused only for an assumed property that it breaks before its end,
-- and up to that step it is a failure of that one.
use Rattle.std.proofs.Common.{◌≡◌, ℕ, zero, suc, ◌+◌, ◌<◌, inr, Bool, true, false, List, [], ◌∷◌, ◌++◌, length, take, refl, sym, ap, ◌∙◌, subst, arith, add-one}
use Rattle.std.specs.Prelude.{All, ⊤}
use Rattle.std.proofs.lemmas.Bool.{both_ways, false_from_ne_true}
use Rattle.std.proofs.lemmas.List.{take-append-le, length-append, length-take-le, get_or-take, same_from_push}
use Rattle.std.proofs.lemmas.List.Elements.{All-take, All-from_get_or}
use Rattle.std.proofs.Math.Seq.{take-suc}
use Rattle.ja_base.specs.Literals.{bit, value}
use Rattle.ja_base.specs.Circuit.{Circuit, Problem, bad_literal}
use Rattle.ja_base.specs.Laws.{cut}
use Rattle.ja_base.specs.Replay.{BreaksEarlier, step_at}
use Rattle.ja_base.specs.Runs.{Trace, IsRun, IsLocalFailure}
use Rattle.ja_base.specs.Valuation.{AssumptionsHold, IsBad, MeetsConstraints, next_state}
use Rattle.aig_model.specs.Netlist.{IsSound, circuit}
use Rattle.aig_model.specs.Task.{VerificationTask, problem}
use Rattle.aig_model.proofs.GateHeights.{acyclic_from_sound}
use Rattle.local_stim.specs.declared.verdict.Confirm.{Confirm}
use Rattle.local_stim.specs.declared.verdict.Confirm.TheVariants.{Local, NotInitial, Constraint, NotBad, Assumed}
use Rattle.local_stim.specs.Verdict.{IsVerdict}
use Rattle.local_stim.specs.Found.{FoundFailure}
use Rattle.local_stim.proofs.RunLemmas.{runs_agree}
use Rattle.local_stim.proofs.VerdictLemmas.{verdicts_agree}
use Rattle.ic3_general.specs.declared.aim.Aim.{Aim}
use Rattle.ic3_general.specs.Aims.{IsFailureOn, IsPassedOver, respecting}

-- ---- a run that is cut

pub run_length : (c : Circuit) (s : List Bool) (rows steps : List (List Bool)) → IsRun c s rows steps → length rows ≡ length steps
run_length c s [] [] r = refl
run_length c s (x ∷ rows) (v ∷ steps) r = ap suc (run_length c (next_state c v) rows steps r.1)
run_length c s [] (v ∷ steps) r = absurd r
run_length c s (x ∷ rows) [] r = absurd r

run_front : (c : Circuit) (s : List Bool) (rows steps : List (List Bool)) (n : ℕ) → IsRun c s rows steps
    → IsRun c s (take n rows) (take n steps)
run_front c s rows steps zero r = tt
run_front c s [] [] (suc n) r = tt
run_front c s (x ∷ rows) (v ∷ steps) (suc n) r = (r.0, run_front c (next_state c v) rows steps n r.1)
run_front c s [] (v ∷ steps) (suc n) r = absurd r
run_front c s (x ∷ rows) [] (suc n) r = absurd r

-- ---- up to the break

module _ (t : Problem) (p : ℕ) (m : Trace) (k q : ℕ) (b : BreaksEarlier t p m k q) where
  pub break_is_within : k < length m.inputs
  break_is_within =
      let long = run_length t.circuit m.first m.inputs (b.earlier ++ b.last ∷ []) b.legal.replay.runs in
      let more = length-append b.earlier (b.last ∷ []) in
      let within = b.least_property.0.0 in omega (arith, long, more, within)

  front_is : take (k + 1) (b.earlier ++ b.last ∷ []) ≡ take k b.earlier ++ step_at b.earlier k ∷ []
  front_is =
      let within = b.least_property.0.0 in
      take-append-le (k + 1) b.earlier (b.last ∷ []) (omega (arith, within))
      ∙ ap (λ n. take n b.earlier) (add-one k) ∙ take-suc b.earlier k [] within

  none_before : (j : ℕ) → j < k → AssumptionsHold t.circuit t.assumed (step_at b.earlier j)
  none_before j low r assumed =
      false_from_ne_true (value (step_at b.earlier j) (bad_literal t.circuit r))
      (λ bad. b.least_step.1 j low (r, (let h = b.least_property.0.0 in omega (arith, low, h), assumed, bad)))

  held_before : All (AssumptionsHold t.circuit t.assumed) (take k b.earlier)
  held_before =
      let kept = length-take-le k b.earlier (let h = b.least_property.0.0 in omega (arith, h)) in
      All-from_get_or (AssumptionsHold t.circuit t.assumed) (take k b.earlier) [] (λ j within.
      let low : j < k = omega (arith, within, kept) in
      subst (AssumptionsHold t.circuit t.assumed) (sym (get_or-take k b.earlier j [] low)) (none_before j low))

  pub early_fails : IsLocalFailure t q (cut m (k + 1))
  early_fails = record {
    earlier = take k b.earlier;
    last = step_at b.earlier k;
    reached = record {
      legal = record {
        replay = record {
          starts = b.legal.replay.starts;
          runs = subst (IsRun t.circuit m.first (take (k + 1) m.inputs)) front_is
              (run_front t.circuit m.first m.inputs (b.earlier ++ b.last ∷ []) (k + 1) b.legal.replay.runs);
          has_step = let h = length-append (take k b.earlier) (step_at b.earlier k ∷ []) in omega (arith, h);
        };
        constrained = subst (All (MeetsConstraints t.circuit)) front_is
            (All-take (MeetsConstraints t.circuit) (k + 1) (b.earlier ++ b.last ∷ []) b.legal.constrained);
      };
      held = held_before;
    };
    bad = b.least_property.0.2;
  }

-- ---- what a replay is refused for

-- the verdict is that of a failure, or of one that comes too late
abbrev pub IsEarly : Confirm → Type 0
IsEarly Local = ⊤
IsEarly (NotInitial k) = ⊥
IsEarly (Constraint k) = ⊥
IsEarly NotBad = ⊥
IsEarly (Assumed k q) = ⊤

abbrev is_local : Confirm → Bool
is_local Local = true
is_local (NotInitial k) = false
is_local (Constraint k) = false
is_local NotBad = false
is_local (Assumed k q) = false

other_is_not_local : (why : Confirm) → is_local why ≡ false → ◌≡◌ {A = Confirm} Local why → ⊥
other_is_not_local why other same = let h : true ≡ false = ap is_local same ∙ other in absurd cc

module _ (t : VerificationTask) (sound : IsSound t.design) (respect : List Bool) (p : ℕ) (m : Trace) where
  no_other : (why : Confirm) → is_local why ≡ false → IsLocalFailure (problem (respecting t respect)) p m
      → IsVerdict (problem (respecting t respect)) p m why → ⊥
  no_other why other fails verdict =
      other_is_not_local why other
      (verdicts_agree (problem (respecting t respect)) m (acyclic_from_sound t.design sound) p Local why fails verdict)

  pub refused_early : (why : Confirm) → IsLocalFailure (problem (respecting t respect)) p m → IsVerdict (problem t) p m why
      → IsEarly why
  refused_early Local fails verdict = tt
  refused_early (NotInitial k) fails verdict = no_other (NotInitial k) refl fails (record { least_latch = verdict.least_latch })
  refused_early (Constraint k) fails verdict = no_other (Constraint k) refl fails (record {
    steps = verdict.steps;
    replay = verdict.replay;
    least_step = verdict.least_step;
  })
  refused_early NotBad fails verdict = no_other NotBad refl fails (record {
    earlier = verdict.earlier;
    last = verdict.last;
    legal = verdict.legal;
    good = verdict.good;
  })
  refused_early (Assumed k q) fails verdict = tt

-- no other refusal is left
pub none_is_left : (why : Confirm) → IsEarly why → (why ≡ Local → ⊥) → ((k q : ℕ) → why ≡ Assumed k q → ⊥) → ⊥
none_is_left Local early local late = local refl
none_is_left (NotInitial k) early local late = early
none_is_left (Constraint k) early local late = early
none_is_left NotBad early local late = early
none_is_left (Assumed k q) early local late = late k q refl

-- ---- what the search ends with then

pub early_failure_is_on : (t : VerificationTask) (a : Aim) (m : Trace) (k q : ℕ) (failure : FoundFailure) → IsSound t.design
    → IsLocalFailure (problem (respecting t a.respect)) a.prop m → BreaksEarlier (problem t) a.prop m k q
    → failure.task ≡ t → failure.prop ≡ q → IsFailureOn t a failure
early_failure_is_on t a m k q failure sound fails b task_is prop_is = record {
  task = task_is;
  prop = inr (subst (IsPassedOver t a) (sym prop_is) (record { assumed = b.least_property.0.1; free = false_from_ne_true (bit a.respect q) respected }));
}
  where
    respected : bit a.respect q ≡ true → ⊥
    respected h =
        let same = same_from_push b.earlier fails.earlier b.last fails.last
        (runs_agree (circuit t.design) (acyclic_from_sound t.design sound) m.first m.inputs (b.earlier ++ b.last ∷ [])
        (fails.earlier ++ fails.last ∷ []) b.legal.replay.runs fails.reached.legal.replay.runs) in
        let within : k < length fails.earlier = subst (λ (xs : List (List Bool)). k < length xs) same.0 b.least_property.0.0 in
        let good = fails.reached.held k [] within q h in
        let broken = subst (λ (xs : List (List Bool)). IsBad (circuit t.design) q (step_at xs k)) same.0 b.least_property.0.2 in
        both_ways (value (step_at fails.earlier k) (bad_literal (circuit t.design) q)) good broken
