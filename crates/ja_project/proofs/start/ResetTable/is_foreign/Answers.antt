use Rattle.std.proofs.Common.{◌≡◌, ◌+◌, ◌-◌, ◌<◌, ◌||◌, ℕ, Bool, false, not, List, drop, take, length, refl, sym, subst, ◌∙◌, ap, arith}
use Rattle.std.proofs.Math.Seq.{take-length}
use Rattle.std.proofs.lemmas.List.{length-drop}
use Rattle.ja_base.specs.Literals.{negated}
use Rattle.ja_base.specs.Clauses.{IsBelow}
use Rattle.ja_base.proofs.ClauseLemmas.{Ascends, Ascends-from_increasing}
use Rattle.aig_model.specs.Netlist.{circuit}
use Rattle.refute_check.specs.Lines.{first_is}
use Rattle.ja_project.specs.Latches.{is_foreign, is_over_latch}
use Rattle.ja_project.proofs.ForeignLemmas.{foreign_at}
use Rattle.ja_project.proofs.start.ResetTable.is_foreign.Goals as goal

pub loop-at-init : goal.loop-at-init
loop-at-init c =
    let P : List ℕ → Type 0 = Ascends in
    (subst P (sym c.lits-lits.ensures.value) (Ascends-from_increasing c.args.clause.now c.lits-lits.ensures.ascends), refl)

pub loop-at-preserved : goal.loop-at-preserved
loop-at-preserved c =
    let lits : List ℕ = c.lits-lits.result.now in
    let next : ℕ = c.loop-at.at + 1 in
    let lit : ℕ = c.index-lits-at.result in
    let P : List ℕ → Type 0 = IsBelow (c.args.self.now.vars + 1) in
    let below : IsBelow (c.args.self.now.vars + 1) lits = subst P (sym c.lits-lits.ensures.value) c.requires in
    let within : c.loop-at.at < length lits = omega arith in
    let step = foreign_at (circuit c.args.self.now) (c.args.self.now.vars + 1) c.loop-at.at lit lits within c.index-lits-at.is
    below c.loop-at.invariant.0 in
    let later : take (length lits - next) (drop next lits) ≡ drop next lits =
    ap (λ (n : ℕ). take n (drop next lits)) (sym (length-drop next lits)) ∙ take-length (drop next lits) in
    let own : not (is_over_latch (circuit c.args.self.now) lit) ≡ false = ap not (sym c.is_over_latch.ensures
    ∙ c.if-not-is_over_latch.false) in
    let single : first_is (negated lit) (drop next lits) ≡ false =
    ap (first_is (negated lit)) (sym later)
    ∙ ap (λ (l : ℕ). first_is l (take (length lits - next) (drop next lits))) (sym c.not.ensures)
    ∙ sym c.is_first.ensures ∙ c.if-is_first.false in (
      step.0,
      c.loop-at.invariant.1 ∙ step.1
          ∙ ap (λ (b : Bool). (b || first_is (negated lit) (drop next lits)) || is_foreign (circuit c.args.self.now)
          (drop next lits)) own
          ∙ ap (λ (b : Bool). b || is_foreign (circuit c.args.self.now) (drop next lits)) single,
    )
