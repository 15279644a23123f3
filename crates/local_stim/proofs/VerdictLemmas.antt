-- Two verdicts on one stimulus are the same, where its run is.
use Rattle.std.proofs.Common.{◌≡◌, ℕ, Bool, true, false, not, List, [], ◌∷◌, ◌++◌, sym, ap, ◌∙◌, subst, refl, ⊎_elim}
use Rattle.std.proofs.lemmas.Bool.{both_ways, cases_order}
use Rattle.std.proofs.lemmas.List.{same_from_push}
use Rattle.ja_base.specs.Literals.{value}
use Rattle.ja_base.specs.Circuit.{Circuit, Problem, IsAcyclic, bad_literal}
use Rattle.ja_base.specs.Valuation.{IsBad, IsGood}
use Rattle.ja_base.specs.Runs.{Trace, IsInitial, IsReplay, IsLegal, IsLocalFailure}
use Rattle.ja_base.specs.Replay.{IsLeast, step_at, BreaksReset, BreaksConstraint, BreaksAt, LeavesConstraints, EndsGood, BreaksEarlier}
use Rattle.local_stim.specs.declared.verdict.Confirm.{Confirm}
use Rattle.local_stim.specs.declared.verdict.Confirm.TheVariants.{Local, NotInitial, Constraint, NotBad, Assumed}
use Rattle.local_stim.specs.Verdict.{IsVerdict}
use Rattle.local_stim.proofs.RunLemmas.{runs_agree}

least_is_unique : (P : ℕ → Type 0) (j k : ℕ) → IsLeast P j → IsLeast P k → j ≡ k
least_is_unique P j k a b =
    ⊎_elim (λ same. same) (λ apart. ⊎_elim (λ h. absurd (b.1 j h a.0)) (λ h. absurd (a.1 k h b.0)) apart) (cases_order j k)

pub not_self : (b : Bool) → b ≡ not b → ⊥
not_self true e = cc
not_self false e = cc

initial_breaks_nothing : (c : Circuit) (first : List Bool) (k : ℕ) → BreaksReset c first k → IsInitial c first → ⊥
initial_breaks_nothing c first k b initial = not_self b.reset
    (sym (initial.agrees k b.latch b.reset b.latch_is b.given) ∙ b.other)

module _ (t : Problem) (m : Trace) (acyclic : IsAcyclic t.circuit) where
  replays_agree : (vs ws : List (List Bool)) → IsReplay t.circuit m vs → IsReplay t.circuit m ws → vs ≡ ws
  replays_agree vs ws a b = runs_agree t.circuit acyclic m.first m.inputs vs ws a.runs b.runs

  leaving_is_not_legal : (k : ℕ) (vs : List (List Bool)) → LeavesConstraints t m k → IsLegal t.circuit m vs → ⊥
  leaving_is_not_legal k vs leaves legal =
      let broken = subst (λ ws. BreaksConstraint t.circuit ws k)
      (replays_agree leaves.steps vs leaves.replay legal.replay) leaves.least_step.0 in
      broken.1 (legal.constrained k [] broken.0)

  steps_agree : (xs ys : List (List Bool)) (x y : List Bool) → IsLegal t.circuit m (xs ++ x ∷ [])
      → IsLegal t.circuit m (ys ++ y ∷ [])
      → (xs ≡ ys) × (x ≡ y)
  steps_agree xs ys x y a b = same_from_push xs ys x y (replays_agree (xs ++ x ∷ []) (ys ++ y ∷ []) a.replay b.replay)

  good_is_not_bad : (p : ℕ) → EndsGood t p m → (ys : List (List Bool)) (y : List Bool) → IsLegal t.circuit m (ys ++ y ∷ [])
      → IsBad t.circuit p y → ⊥
  good_is_not_bad p ends ys y legal bad =
      both_ways (value y (bad_literal t.circuit p))
      (subst (IsGood t.circuit p) (steps_agree ends.earlier ys ends.last y ends.legal legal).1 ends.good) bad

  break_is_not_local : (p k q : ℕ) → BreaksEarlier t p m k q → IsLocalFailure t p m → ⊥
  break_is_not_local p k q breaks fails =
      let same = (steps_agree breaks.earlier fails.earlier breaks.last fails.last breaks.legal fails.reached.legal).0 in
      let broken = subst (λ vs. BreaksAt t vs k q) same breaks.least_property.0 in
      both_ways (value (step_at fails.earlier k) (bad_literal t.circuit q)) (fails.reached.held k [] broken.0 q broken.1) broken.2

  leaves_once : (j k : ℕ) → LeavesConstraints t m j → LeavesConstraints t m k → j ≡ k
  leaves_once j k a b =
      least_is_unique (BreaksConstraint t.circuit b.steps) j k
      (subst (λ vs. IsLeast (BreaksConstraint t.circuit vs) j)
      (replays_agree a.steps b.steps a.replay b.replay) a.least_step) b.least_step

  breaks_once : (p j q k r : ℕ) → BreaksEarlier t p m j q → BreaksEarlier t p m k r
      → ◌≡◌ {A = Confirm} (Assumed j q) (Assumed k r)
  breaks_once p j q k r a b =
      let same = (steps_agree a.earlier b.earlier a.last b.last a.legal b.legal).0 in
      let step = least_is_unique (λ i. (s : ℕ) × BreaksAt t b.earlier i s) j k
      (subst (λ vs. IsLeast (λ i. (s : ℕ) × BreaksAt t vs i s) j) same a.least_step) b.least_step in
      let prop = least_is_unique (BreaksAt t b.earlier k) q r
      (subst (λ i. IsLeast (BreaksAt t b.earlier i) q) step
      (subst (λ vs. IsLeast (BreaksAt t vs j) q) same a.least_property)) b.least_property in
      ap (λ i. Assumed i q) step ∙ ap (Assumed k) prop

  pub verdicts_agree : (p : ℕ) (a b : Confirm) → IsVerdict t p m a → IsVerdict t p m b → a ≡ b
  verdicts_agree p Local Local x y = refl
  verdicts_agree p Local (NotInitial k) x y = absurd
      (initial_breaks_nothing t.circuit m.first k y.least_latch.0 x.reached.legal.replay.starts)
  verdicts_agree p Local (Constraint k) x y = absurd (leaving_is_not_legal k (x.earlier ++ x.last ∷ []) y x.reached.legal)
  verdicts_agree p Local NotBad x y = absurd (good_is_not_bad p y x.earlier x.last x.reached.legal x.bad)
  verdicts_agree p Local (Assumed k q) x y = absurd (break_is_not_local p k q y x)
  verdicts_agree p (NotInitial j) Local x y = absurd
      (initial_breaks_nothing t.circuit m.first j x.least_latch.0 y.reached.legal.replay.starts)
  verdicts_agree p (NotInitial j) (NotInitial k) x y = ap NotInitial
      (least_is_unique (BreaksReset t.circuit m.first) j k x.least_latch y.least_latch)
  verdicts_agree p (NotInitial j) (Constraint k) x y = absurd
      (initial_breaks_nothing t.circuit m.first j x.least_latch.0 y.replay.starts)
  verdicts_agree p (NotInitial j) NotBad x y = absurd
      (initial_breaks_nothing t.circuit m.first j x.least_latch.0 y.legal.replay.starts)
  verdicts_agree p (NotInitial j) (Assumed k q) x y = absurd
      (initial_breaks_nothing t.circuit m.first j x.least_latch.0 y.legal.replay.starts)
  verdicts_agree p (Constraint j) Local x y = absurd (leaving_is_not_legal j (y.earlier ++ y.last ∷ []) x y.reached.legal)
  verdicts_agree p (Constraint j) (NotInitial k) x y = absurd
      (initial_breaks_nothing t.circuit m.first k y.least_latch.0 x.replay.starts)
  verdicts_agree p (Constraint j) (Constraint k) x y = ap Constraint (leaves_once j k x y)
  verdicts_agree p (Constraint j) NotBad x y = absurd (leaving_is_not_legal j (y.earlier ++ y.last ∷ []) x y.legal)
  verdicts_agree p (Constraint j) (Assumed k q) x y = absurd (leaving_is_not_legal j (y.earlier ++ y.last ∷ []) x y.legal)
  verdicts_agree p NotBad Local x y = absurd (good_is_not_bad p x y.earlier y.last y.reached.legal y.bad)
  verdicts_agree p NotBad (NotInitial k) x y = absurd
      (initial_breaks_nothing t.circuit m.first k y.least_latch.0 x.legal.replay.starts)
  verdicts_agree p NotBad (Constraint k) x y = absurd (leaving_is_not_legal k (x.earlier ++ x.last ∷ []) y x.legal)
  verdicts_agree p NotBad NotBad x y = refl
  verdicts_agree p NotBad (Assumed k q) x y = absurd (good_is_not_bad p x y.earlier y.last y.legal y.bad)
  verdicts_agree p (Assumed j q) Local x y = absurd (break_is_not_local p j q x y)
  verdicts_agree p (Assumed j q) (NotInitial k) x y = absurd
      (initial_breaks_nothing t.circuit m.first k y.least_latch.0 x.legal.replay.starts)
  verdicts_agree p (Assumed j q) (Constraint k) x y = absurd (leaving_is_not_legal k (x.earlier ++ x.last ∷ []) y x.legal)
  verdicts_agree p (Assumed j q) NotBad x y = absurd (good_is_not_bad p y x.earlier x.last x.legal x.bad)
  verdicts_agree p (Assumed j q) (Assumed k r) x y = breaks_once p j q k r x y
