use Rattle.std.proofs.Common.{◌≡◌, ℕ, length, drop, None, sym, subst, ◌∙◌, ap}
use Rattle.std.proofs.lemmas.List.{take_at}
use Rattle.refute_check.specs.Checked.{Checked, Numbering, FollowsOne}
use Rattle.refute_check.specs.Lines.{refusal}
use Rattle.refute_check.proofs.Sound.{accepted_follows}
use Rattle.refute_check.proofs.ListLemmas.{IsKept, kept_by_line}
use Rattle.refute_check.proofs.checker.Checker.line.Goals as goal

pub invariant_of-self-in-None-1 : goal.invariant_of-self-in-None-1
invariant_of-self-in-None-1 c =
    let vars : ℕ = c.self.inside.vars in
    let list : Numbering = c.self.inside.clauses in
    let before : IsKept vars list = record { below = c.self.invariant.1; follow = c.self.invariant.2 } in
    let accepted : refusal vars list.list c.args.line.clause c.args.line.hints ≡ None =
    sym c.judge.ensures.value ∙ c.in-None.is in
    let after = kept_by_line vars list c.put.new.self c.args.line.clause c.args.line.hints c.put.ensures accepted before in
    let whole = take_at c.judge.new.values (drop (length c.judge.new.values) c.self.inside.values.items)
    c.self.inside.values.len (ap length c.judge.ensures.same ∙ c.deref_mut.ensures.len) in
    (whole ∙ c.judge.ensures.same ∙ c.deref_mut.ensures.value ∙ c.self.invariant.0, after.below, after.follow)

pub returns-in-None-clause-follows : goal.returns-in-None-clause-follows
returns-in-None-clause-follows c =
    let vars : ℕ = c.self.inside.vars in
    let list : Numbering = c.self.inside.clauses in
    let accepted : refusal vars list.list c.args.line.clause c.args.line.hints ≡ None =
    sym c.judge.ensures.value ∙ c.in-None.is in
    let P : Checked → Type 0 = λ k. FollowsOne k.added c.args.line.clause in
    subst P c.self.view_is
    (λ v all. accepted_follows vars list.list c.args.line.clause c.args.line.hints accepted v (c.self.invariant.2 v all))
