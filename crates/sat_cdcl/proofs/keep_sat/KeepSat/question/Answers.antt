use Rattle.std.proofs.Common.{◌≡◌, ℕ, List, None, Option, length, option_copied, take, sym, subst, ◌∙◌, ap, arith}
use Rattle.std.specs.List.{All}
use Rattle.std.proofs.lemmas.List.Elements.{All-weaker}
use Rattle.ja_base.specs.Clauses.{IsBelow}
use Rattle.refute_check.specs.Checked.{Follows, FollowsOne, clauses_at}
use Rattle.sat_plain.specs.declared.place.Place.{Place}
use Rattle.sat_plain.specs.Answer.{clauses_of}
use Rattle.sat_plain.specs.Probed.{IsProbed}
use Rattle.sat_plain.specs.Solvers.{Solver}
use Rattle.sat_plain.specs.Trails.{Assigned}
use Rattle.sat_cdcl.specs.Files.{Filed, AreForcedAll, list_of, places_of}
use Rattle.sat_cdcl.specs.Questions.{IsKeepable, IsLearning}
use Rattle.sat_cdcl.proofs.LoopLemmas.{forced_all}
use Rattle.sat_cdcl.proofs.QueryLemmas.{root_kept, root_within, rooted_kept}
use Rattle.sat_cdcl.proofs.KeeperLemmas.{keeper_learns, cut_back, chosen_kept, keeper_after}
use Rattle.sat_cdcl.proofs.keep_sat.KeepSat.question.Goals as goal

pub undo-requires : goal.undo-requires
undo-requires g c =
    let a : Filed = c.propagate-root.new.self in
    let forced : AreForcedAll (places_of a) =
    forced_all (places_of c.self.inside.db) (places_of a) c.self.invariant.forced c.propagate-root.ensures.places in
    let root : c.len-root.result ≡ length (places_of a) =
    c.len-root.ensures.value ∙ ap (λ (t : Assigned). length t.places) c.trail.ensures.value in
    omega (arith, root, root_within a c.ask-answer.new.db forced c.ask-answer.ensures.kept)

pub cut-requires-clause-rooted : goal.cut-requires-clause-rooted
cut-requires-clause-rooted g c =
    let a : Filed = c.propagate-root.new.self in
    let forced : AreForcedAll (places_of a) =
    forced_all (places_of c.self.inside.db) (places_of a) c.self.invariant.forced c.propagate-root.ensures.places in
    let root : c.len-root.result ≡ length (places_of a) =
    c.len-root.ensures.value ∙ ap (λ (t : Assigned). length t.places) c.trail.ensures.value in
    rooted_kept a c.ask-answer.new.db c.undo.new.self c.len-first.result c.len-root.result forced c.ask-answer.ensures.kept
    c.trail.ensures.held c.trail.ensures.numbered c.len-first.ensures.slots root c.undo.ensures.places c.undo.ensures.slots

pub recall-requires : goal.recall-requires
recall-requires g c =
    let a : Filed = c.propagate-root.new.self in
    let n : ℕ = a.watched.trail.vars in
    let chosen : List (List ℕ) = clauses_at (list_of c.self.inside.db) c.self.inside.added.items in
    let vars : c.cut.new.self.watched.trail.vars ≡ n =
    ap (λ (t : Assigned). t.vars) c.cut.ensures.trail ∙ c.undo.ensures.vars ∙ c.ask-answer.ensures.kept.vars in
    let h : IsLearning n chosen None (list_of a) c.new-question.result =
    keeper_learns c.self.inside.order c.self.inside.db a c.self.inside.added.items c.new-question.result c.self.invariant
    c.propagate-root.ensures.list (c.new-question.ensures.first ∙ c.len-first.ensures.list) c.new-question.ensures.taints
    c.new-question.ensures.kept in
    let kept : List (List ℕ) = c.ask-answer.new.question.kept.items in
    let B : ℕ → Type 0 = λ k. All (IsBelow k) kept in
    subst B (sym vars)
    (All-weaker (IsKeepable n chosen) (IsBelow n) (λ k both. both.0) kept (c.ask-answer.ensures.keeps chosen h))

pub invariant_of-self : goal.invariant_of-self
invariant_of-self g c =
    let s : Filed = c.self.inside.db in
    let a : Filed = c.propagate-root.new.self in
    let b : Filed = c.ask-answer.new.db in
    let t : Filed = c.cut.new.self in
    let r : Filed = c.recall.new.db in
    let added : List ℕ = c.self.inside.added.items in
    let chosen : List (List ℕ) = clauses_at (list_of s) added in
    let n : ℕ = a.watched.trail.vars in
    let forced : AreForcedAll (places_of a) =
    forced_all (places_of s) (places_of a) c.self.invariant.forced c.propagate-root.ensures.places in
    let root : c.len-root.result ≡ length (places_of a) =
    c.len-root.ensures.value ∙ ap (λ (k : Assigned). length k.places) c.trail.ensures.value in
    let vars : r.watched.trail.vars ≡ s.watched.trail.vars =
    ap (λ (k : Assigned). k.vars) c.recall.ensures.trail ∙ ap (λ (k : Assigned). k.vars) c.cut.ensures.trail
    ∙ c.undo.ensures.vars ∙ c.ask-answer.ensures.kept.vars ∙ c.propagate-root.ensures.vars in
    let places : places_of r ≡ places_of a =
    ap (λ (k : Assigned). k.places) c.recall.ensures.trail ∙ ap (λ (k : Assigned). k.places) c.cut.ensures.trail
    ∙ c.undo.ensures.places ∙ ap (λ k. take k (places_of b)) root ∙ root_kept a b forced c.ask-answer.ensures.kept in
    let same : list_of t ≡ list_of s =
    cut_back s a b c.len-first.result (list_of t) c.propagate-root.ensures.list c.ask-answer.ensures.kept
    c.len-first.ensures.list (c.cut.ensures.list ∙ ap (take c.len-first.result) c.undo.ensures.list) in
    let h : IsLearning n chosen None (list_of a) c.new-question.result =
    keeper_learns c.self.inside.order s a added c.new-question.result c.self.invariant c.propagate-root.ensures.list
    (c.new-question.ensures.first ∙ c.len-first.ensures.list) c.new-question.ensures.taints c.new-question.ensures.kept in
    let kept : List (List ℕ) = c.ask-answer.new.question.kept.items in
    let follow : All (FollowsOne chosen) kept =
    All-weaker (IsKeepable n chosen) (FollowsOne chosen) (λ k both. both.1) kept (c.ask-answer.ensures.keeps chosen h) in
    let P : List Place → Type 0 = AreForcedAll in
    let F : List (List ℕ) → Type 0 = Follows chosen in
    keeper_after c.self.inside.order c.release_all.new.self s r (list_of t) c.recall.ensures.kept.more added c.self.invariant
    (omega (arith, vars, c.release_all.ensures.same, c.ask-answer.ensures.order, c.self.invariant.ordered))
    (subst P (sym places) forced) same c.recall.ensures.kept.list
    (c.recall.ensures.follows chosen follow (subst F (sym same) c.self.invariant.sound))

pub returns-clause-same : goal.returns-clause-same
returns-clause-same g c =
    let s : Filed = c.self.inside.db in
    let a : Filed = c.propagate-root.new.self in
    let b : Filed = c.ask-answer.new.db in
    let t : Filed = c.cut.new.self in
    let r : Filed = c.recall.new.db in
    let added : List ℕ = c.self.inside.added.items in
    let vars : r.watched.trail.vars ≡ s.watched.trail.vars =
    ap (λ (k : Assigned). k.vars) c.recall.ensures.trail ∙ ap (λ (k : Assigned). k.vars) c.cut.ensures.trail
    ∙ c.undo.ensures.vars ∙ c.ask-answer.ensures.kept.vars ∙ c.propagate-root.ensures.vars in
    let same : list_of t ≡ list_of s =
    cut_back s a b c.len-first.result (list_of t) c.propagate-root.ensures.list c.ask-answer.ensures.kept
    c.len-first.ensures.list (c.cut.ensures.list ∙ ap (take c.len-first.result) c.undo.ensures.list) in
    let list : clauses_at (list_of r) added ≡ clauses_at (list_of s) added =
    chosen_kept s r (list_of t) c.recall.ensures.kept.more c.self.inside.order added c.self.invariant same
    c.recall.ensures.kept.list in
    let V : ℕ → Solver = λ n. record { vars = n; added = clauses_at (list_of r) added } in
    let A : List (List ℕ) → Solver = λ v. record { vars = s.watched.trail.vars; added = v } in
    ap V vars ∙ ap A list ∙ c.self.view_is

pub returns-clause-answer : goal.returns-clause-answer
returns-clause-answer g c =
    let s : Filed = c.self.inside.db in
    let a : Filed = c.propagate-root.new.self in
    let added : List ℕ = c.self.inside.added.items in
    let chosen : List (List ℕ) = clauses_at (list_of s) added in
    let extra : Option (List ℕ) = option_copied c.args.extra in
    let among : Option (List ℕ) = option_copied c.args.among in
    let row = c.ask-answer.new.row in
    let n : ℕ = a.watched.trail.vars in
    let h : IsLearning n chosen None (list_of a) c.new-question.result =
    keeper_learns c.self.inside.order s a added c.new-question.result c.self.invariant c.propagate-root.ensures.list
    (c.new-question.ensures.first ∙ c.len-first.ensures.list) c.new-question.ensures.taints c.new-question.ensures.kept in
    let N : ℕ → Type 0 = λ k. IsProbed k (clauses_of chosen extra) c.args.under.now among row c.ask-answer.result in
    let P : Solver → Type 0 = λ z. IsProbed z.vars (clauses_of z.added extra) c.args.under.now among row c.ask-answer.result in
    subst P c.self.view_is (subst N c.propagate-root.ensures.vars (c.ask-answer.ensures.answer chosen h))
