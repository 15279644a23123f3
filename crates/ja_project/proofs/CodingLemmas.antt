-- What is kept of a task says what it is to say.
use Rattle.std.proofs.Common.{◌≡◌, ℕ, ◌+◌, List, get_or, Some, sym, ap, subst, ◌∙◌}
use Rattle.std.specs.Prelude.{All}
use Rattle.std.proofs.lemmas.Option.{slice_get-get_or}
use Rattle.ja_base.specs.Literals.{variable}
use Rattle.ja_base.specs.Clauses.{IsBelow}
use Rattle.aig_model.specs.Task.{VerificationTask}
use Rattle.ja_project.proofs.OverLemmas.{HasLatch}
use Rattle.ja_project.specs.Coding.{IsCoding}
use Rattle.ja_project.specs.Meaning.{CodesSteps, CodesAssumptions}
use Rattle.ja_project.proofs.StepLemmas.{clauses_mean_steps}
use Rattle.ja_project.proofs.BelowLemmas.{clauses_are_below}
use Rattle.ja_project.proofs.HeldLemmas.{held_means_assumptions, held_is_below}
use Rattle.ja_project.proofs.NextLemmas.{Says, is_over_within}

-- a task that is seen as another one
pub seen_as : (t u : VerificationTask) (clauses : List (List ℕ)) (held nexts : List ℕ) → IsCoding t clauses held nexts → t ≡ u
    → IsCoding u clauses held nexts
seen_as t u clauses held nexts c e = subst (λ (x : VerificationTask). IsCoding x clauses held nexts) e c

module _ (t : VerificationTask) (clauses : List (List ℕ)) (held nexts : List ℕ) (c : IsCoding t clauses held nexts) where
  pub clauses_mean : CodesSteps t.design clauses
  clauses_mean = subst (CodesSteps t.design) (sym c.clauses_are) (clauses_mean_steps t.design c.sound)

  pub clauses_below : All (IsBelow (t.design.vars + 1)) clauses
  clauses_below = subst (λ (list : List (List ℕ)). All (IsBelow (t.design.vars + 1)) list) (sym c.clauses_are)
      (clauses_are_below t.design c.sound)

  pub held_mean : CodesAssumptions t held
  held_mean = subst (CodesAssumptions t) (sym c.held_are) (held_means_assumptions t c.expected)

  pub held_below : IsBelow (t.design.vars + 1) held
  held_below = subst (IsBelow (t.design.vars + 1)) (sym c.held_are) (held_is_below t c.sound)

  -- what was read at the variable of the literal
  pub says_next : (l at next : ℕ) → HasLatch t.design l → at ≡ variable l → next ≡ get_or nexts at next → Says nexts l next
  says_next l at next over is read =
      slice_get-get_or nexts (variable l) next (is_over_within t.design nexts l c.nexts_are over)
      ∙ ap (λ (x : ℕ). Some x) (ap (λ (k : ℕ). get_or nexts k next) (sym is) ∙ sym read)
