use Rattle.std.proofs.Common.{ℕ, sym, subst, ◌∙◌, ap}
use Rattle.std.specs.Bool.{OnTrue}
use Rattle.std.proofs.lemmas.Bool.{OnTrue_from}
use Rattle.refute_check.specs.Checked.{Checked, Numbering}
use Rattle.refute_check.specs.Refuted.{IsRefuted, is_covered}
use Rattle.refute_check.proofs.Covered.{covered_is_refuted}
use Rattle.refute_check.proofs.checker.Checker.covers.Goals as goal

pub returns-clause-refuted : goal.returns-clause-refuted
returns-clause-refuted c =
    let P : Checked → Type 0 = λ k. OnTrue c.covers.result (IsRefuted k.vars k.added c.args.under.now) in
    let vars : ℕ = c.self.inside.vars in
    let list : Numbering = c.self.inside.clauses in
    subst P c.self.view_is (OnTrue_from c.covers.result (IsRefuted vars list.added c.args.under.now)
    (λ e. covered_is_refuted vars list.added list.list c.args.under.now c.self.invariant.2
    (ap (λ v. is_covered v c.args.under.now) (sym c.as_slice.ensures) ∙ sym c.covers.ensures ∙ e)))
