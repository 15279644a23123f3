use Rattle.std.proofs.Common.{◌≡◌, cond, Some, ap, sym, ◌∙◌, refl}
use Rattle.std.proofs.lemmas.Bool.{cond-true, cond-false}
use Rattle.ja_base.specs.Literals.{bit}
use Rattle.aig_model.specs.declared.definitions.Defined.{Defined}
use Rattle.aig_model.specs.Definitions.{least_with}
use Rattle.aig_model.proofs.Marking.{adds_one}
use Rattle.aig_model.proofs.definitions.Defined.add.Goals as goal
use Rattle.aig_model.proofs.definitions.Defined.add.Goals.{then-get, else-get}

pub returns : goal.returns
returns c =
    let old : Defined = c.args.self.now in
    let was : c.get.result ≡ bit old.row c.args.var = rw c.number.ensures at c.get.ensures in
    let row : c.if-get.self.row ≡ old.row = elim c.if-get.branch
    [ then-get w ↦ ap (λ (d : Defined). d.row) w.self-is | else-get w ↦ ap (λ (d : Defined). d.row) w.self-is ] in
    let twice : c.if-get.self.twice ≡ cond (bit old.row c.args.var) (Some (least_with old.twice c.args.var)) old.twice =
    elim c.if-get.branch [
      | then-get w ↦ ap (λ (d : Defined). d.twice) w.self-is ∙ ap Some w.lesser.ensures
          ∙ sym (cond-true _ _ _ (sym was ∙ w.if-get.true))
      | else-get w ↦ ap (λ (d : Defined). d.twice) w.self-is ∙ sym (cond-false _ _ _ (sym was ∙ w.if-get.false))
    ] in
    adds_one old _ c.args.var c.requires (c.set.ensures ∙ rw (row, c.number-2.ensures) refl) twice
