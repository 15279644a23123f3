use Rattle.std.proofs.Common.{◌≡◌, ◌<◌, ◌⊎◌, inl, inr, true, false, sym, ◌∙◌, arith}
use Rattle.std.proofs.lemmas.Bool.{false≢true, eq-eqb}
use Rattle.ja_base.specs.Literals.{bit, variable}
use Rattle.aig_model.proofs.Marking.{checks_same, checks_new}
use Rattle.aig_model.proofs.definitions.Defined.check.Goals as goal
use Rattle.aig_model.proofs.definitions.Defined.check.Goals.{then-number-eq0, else-number-eq0}

pub returns-then-get : goal.returns-then-get
returns-then-get c =
    let row = c.args.self.now.row in
    let known : (variable c.args.lit ≡ 0) ⊎ (bit row (variable c.args.lit) ≡ true) =
    elim c.if-number-eq0.branch [
      | then-number-eq0 w ↦ inl (sym c.var-var.ensures ∙ sym c.number.ensures ∙ w.if-number-eq0.true)
      | else-number-eq0 w ↦
          let read : w.get.result ≡ bit row (variable c.args.lit) =
          rw (w.number-else-number-eq0.ensures, c.var-var.ensures) at w.get.ensures in
          inr (sym read ∙ sym w.value-is ∙ c.if-get.true)
    ] in
    checks_same row c.args.least c.args.lit known

pub returns-else-get : goal.returns-else-get
returns-else-get c =
    let row = c.args.self.now.row in
    let missing : (0 < variable c.args.lit) × (bit row (variable c.args.lit) ≡ false) =
    elim c.if-number-eq0.branch [
      | then-number-eq0 w ↦ absurd (false≢true (sym c.if-get.false ∙ w.value-is ∙ eq-eqb c.number.result 0 w.if-number-eq0.true))
      | else-number-eq0 w ↦
          let read : w.get.result ≡ bit row (variable c.args.lit) =
          rw (w.number-else-number-eq0.ensures, c.var-var.ensures) at w.get.ensures in
          (omega (arith, c.number.ensures, c.var-var.ensures, w.if-number-eq0.false), sym read ∙ sym w.value-is ∙ c.if-get.false)
    ] in
    rw (c.lesser.ensures, c.var-var.ensures) (checks_new row c.args.least c.args.lit missing.0 missing.1)
