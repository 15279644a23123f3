use Rattle.std.proofs.Common.{◌≡◌, ℕ, List, sym, subst, ◌∙◌, ap}
use Rattle.std.specs.List.{All}
use Rattle.refute_check.specs.Checked.{clauses_at}
use Rattle.sat_plain.specs.Solvers.{Solver}
use Rattle.sat_cdcl.specs.Files.{Filed, list_of}
use Rattle.sat_cdcl.specs.Questions.{IsKeepable}
use Rattle.sat_cdcl.proofs.keep_sat.KeepSat.reduced.Goals as goal

pub keep-requires : goal.keep-requires
keep-requires c =
    let s : Filed = c.self.inside.db in
    let chosen : List (List ℕ) = clauses_at (list_of s) c.self.inside.added.items in
    let kept : List (List ℕ) = c.in_ok-kept.kept.items in
    let solver : Solver = c.in_ok-solver.solver in
    let vars : solver.vars ≡ s.watched.trail.vars = c.in_ok-solver.ensures.vars in
    let added : solver.added ≡ chosen = c.in_ok-solver.ensures.added ∙ ap (clauses_at (list_of s)) c.as_slice-2.ensures.value in
    let V : ℕ → Type 0 = λ n. All (IsKeepable n solver.added) kept in
    let A : List (List ℕ) → Type 0 = λ v. All (IsKeepable s.watched.trail.vars v) kept in
    subst V (sym vars) (subst A (sym added) (c.in_ok-kept.ensures chosen c.self.invariant.sound))

pub returns : goal.returns
returns c =
    let s : Filed = c.self.inside.db in
    let chosen : List (List ℕ) = clauses_at (list_of s) c.self.inside.added.items in
    let solver : Solver = c.in_ok-solver.solver in
    let vars : solver.vars ≡ s.watched.trail.vars = c.in_ok-solver.ensures.vars in
    let added : solver.added ≡ chosen = c.in_ok-solver.ensures.added ∙ ap (clauses_at (list_of s)) c.as_slice-2.ensures.value in
    let V : ℕ → Solver = λ n. record { vars = n; added = solver.added } in
    let A : List (List ℕ) → Solver = λ v. record { vars = s.watched.trail.vars; added = v } in
    c.keep.ensures ∙ ap V vars ∙ ap A added ∙ c.self.view_is
