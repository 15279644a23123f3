use Rattle.std.proofs.Common.{ℕ, ◌≡◌, true, false, set, sym, ap, ◌∙◌, subst}
use Rattle.ja_base.specs.Literals.{negated}
use Rattle.aig_model.specs.Netlist.{circuit}
use Rattle.aig_eval.proofs.OrderLemmas.{sound_is_acyclic}
use Rattle.ic3_general.specs.Lifting.{HasLeaves}
use Rattle.ic3_general.specs.Dropping.{IsKept}
use Rattle.ic3_general.proofs.DropLemmas.{is_dropped, is_kept}
use Rattle.ic3_general.proofs.dropping.drops.Goals as goal

pub returns-then-enough-clause-dropped : goal.returns-then-enough-clause-dropped
returns-then-enough-clause-dropped c =
    let n = c.args.design.now in
    let cleared : c.set.new.self ≡ set c.args.sure.now (negated c.args.lit) false =
    c.set.ensures ∙ ap (λ (k : ℕ). set c.args.sure.now k false) (c.number-at.ensures ∙ c.not.ensures) in
    is_dropped (circuit n) (sound_is_acyclic n c.settle.ensures.sound) c.args.target.now c.args.lit c.requires.lit c.args.sure.now
    c.settle.new.sure
    (λ values clause leaves. c.settle.ensures.sure values clause
    (subst (HasLeaves (circuit n) values clause) (sym cleared) leaves))
    (sym c.are_sure-enough.ensures ∙ c.if-enough.true)

pub returns-clause-kept : goal.returns-clause-kept
returns-clause-kept c =
    let n = c.args.design.now in
    let cleared : c.set.new.self ≡ set c.args.sure.now (negated c.args.lit) false =
    c.set.ensures ∙ ap (λ (k : ℕ). set c.args.sure.now k false) (c.number-at.ensures ∙ c.not.ensures) in
    let restored : c.set-2.new.self ≡ set c.settle.new.sure (negated c.args.lit) true =
    c.set-2.ensures ∙ ap (λ (k : ℕ). set c.settle.new.sure k true) (c.number-at.ensures ∙ c.not.ensures) in
    subst (IsKept (circuit n) c.args.target.now c.args.lit c.args.sure.now) (sym restored)
    (is_kept (circuit n) (sound_is_acyclic n c.settle.ensures.sound) c.args.target.now c.args.lit c.requires.lit c.args.sure.now
    c.settle.new.sure
    (λ values clause leaves. c.settle.ensures.sure values clause
    (subst (HasLeaves (circuit n) values clause) (sym cleared) leaves))
    (sym c.are_sure-enough.ensures ∙ c.if-enough.false))
