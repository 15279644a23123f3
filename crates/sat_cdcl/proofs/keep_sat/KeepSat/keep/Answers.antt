use Rattle.std.proofs.Common.{◌≡◌, ℕ, List, refl, sym, subst, ◌∙◌, ap, arith}
use Rattle.std.specs.List.{All}
use Rattle.std.proofs.lemmas.List.Elements.{All-weaker}
use Rattle.ja_base.specs.Clauses.{IsBelow}
use Rattle.refute_check.specs.Checked.{FollowsOne, clauses_at}
use Rattle.sat_plain.specs.declared.place.Place.{Place}
use Rattle.sat_plain.specs.Solvers.{Solver}
use Rattle.sat_plain.specs.Trails.{Assigned}
use Rattle.sat_cdcl.specs.Files.{Filed, AreForcedAll, list_of}
use Rattle.sat_cdcl.specs.Questions.{IsKeepable}
use Rattle.sat_cdcl.proofs.KeeperLemmas.{chosen_kept, keeper_after}
use Rattle.sat_cdcl.proofs.keep_sat.KeepSat.keep.Goals as goal

pub recall-requires : goal.recall-requires
recall-requires c =
    let s : Filed = c.self.inside.db in
    let chosen : List (List ℕ) = clauses_at (list_of s) c.self.inside.added.items in
    let P : Solver → Type 0 = λ z. All (IsKeepable z.vars z.added) c.args.clauses.items in
    All-weaker (IsKeepable s.watched.trail.vars chosen) (IsBelow s.watched.trail.vars) (λ k both. both.0) c.args.clauses.items
    (subst P (sym c.self.view_is) c.requires)

pub invariant_of-self : goal.invariant_of-self
invariant_of-self c =
    let s : Filed = c.self.inside.db in
    let r : Filed = c.recall.new.db in
    let added : List ℕ = c.self.inside.added.items in
    let chosen : List (List ℕ) = clauses_at (list_of s) added in
    let P : Solver → Type 0 = λ z. All (IsKeepable z.vars z.added) c.args.clauses.items in
    let follow : All (FollowsOne chosen) c.args.clauses.items =
    All-weaker (IsKeepable s.watched.trail.vars chosen) (FollowsOne chosen) (λ k both. both.1) c.args.clauses.items
    (subst P (sym c.self.view_is) c.requires) in
    let T : List Place → Type 0 = AreForcedAll in
    keeper_after c.self.inside.order c.self.inside.order s r (list_of s) c.recall.ensures.kept.more added c.self.invariant
    (omega (arith, ap (λ (t : Assigned). t.vars) c.recall.ensures.trail, c.self.invariant.ordered))
    (subst T (sym (ap (λ (t : Assigned). t.places) c.recall.ensures.trail)) c.self.invariant.forced) refl
    c.recall.ensures.kept.list (c.recall.ensures.follows chosen follow c.self.invariant.sound)

pub returns : goal.returns
returns c =
    let s : Filed = c.self.inside.db in
    let r : Filed = c.recall.new.db in
    let added : List ℕ = c.self.inside.added.items in
    let list : clauses_at (list_of r) added ≡ clauses_at (list_of s) added =
    chosen_kept s r (list_of s) c.recall.ensures.kept.more c.self.inside.order added c.self.invariant refl
    c.recall.ensures.kept.list in
    let V : ℕ → Solver = λ n. record { vars = n; added = clauses_at (list_of r) added } in
    let A : List (List ℕ) → Solver = λ v. record { vars = s.watched.trail.vars; added = v } in
    ap V (ap (λ (t : Assigned). t.vars) c.recall.ensures.trail) ∙ ap A list ∙ c.self.view_is
