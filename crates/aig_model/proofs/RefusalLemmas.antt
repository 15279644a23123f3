-- At most one refusal of lists is right, and none where they make a design.
use Rattle.std.proofs.Common.{◌≡◌, ℕ, ⊎_elim, ap}
use Rattle.std.proofs.lemmas.Bool.{cases_order}
use Rattle.ja_base.specs.Replay.{IsLeast}
use Rattle.aig_model.specs.declared.netlist.Parts.{Parts}
use Rattle.aig_model.specs.declared.build.BuildRefusal.{BuildRefusal}
use Rattle.aig_model.specs.declared.build.BuildRefusal.TheVariants.{Twice, Undefined, Cycle}
use Rattle.aig_model.specs.Refusals.{IsDefinedTwice, IsUndefined, ReachesCycle, MakesDesign, IsRefusal}

one_least : (P : ℕ → Type 0) (v w : ℕ) → IsLeast P v → IsLeast P w → v ≡ w
one_least P v w a b = ⊎_elim (λ e. e) (⊎_elim (λ lt. absurd (b.1 v lt a.0)) (λ gt. absurd (a.1 w gt b.0))) (cases_order v w)

pub refusals_agree_lem : (p : Parts) (r q : BuildRefusal) → IsRefusal p r → IsRefusal p q → r ≡ q
refusals_agree_lem p (Twice v) (Twice w) a b = ap Twice (one_least (IsDefinedTwice p) v w a b)
refusals_agree_lem p (Twice v) (Undefined w) a b = absurd (b.0 v a.0)
refusals_agree_lem p (Twice v) (Cycle w) a b = absurd (b.0 v a.0)
refusals_agree_lem p (Undefined v) (Twice w) a b = absurd (a.0 w b.0)
refusals_agree_lem p (Undefined v) (Undefined w) a b = ap Undefined (one_least (IsUndefined p) v w a.1 b.1)
refusals_agree_lem p (Undefined v) (Cycle w) a b = absurd (b.1 v a.1.0)
refusals_agree_lem p (Cycle v) (Twice w) a b = absurd (a.0 w b.0)
refusals_agree_lem p (Cycle v) (Undefined w) a b = absurd (a.1 w b.1.0)
refusals_agree_lem p (Cycle v) (Cycle w) a b = ap Cycle (one_least (ReachesCycle p.gates) v w a.2 b.2)

pub designs_are_not_refused_lem : (p : Parts) (r : BuildRefusal) → MakesDesign p → IsRefusal p r → ⊥
designs_are_not_refused_lem p (Twice v) makes refusal = makes.once v refusal.0
designs_are_not_refused_lem p (Undefined v) makes refusal = makes.defined v refusal.1.0
designs_are_not_refused_lem p (Cycle v) makes refusal = makes.acyclic v refusal.2.0
