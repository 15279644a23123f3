use Rattle.std.proofs.Common.{◌≡◌, ◌+◌, ◌-◌, ◌<◌, ◌&&◌, ℕ, List, drop, take, length, not, nat_lt, true, refl, sym, ◌∙◌, ap, arith}
use Rattle.std.proofs.Math.Seq.{take-length}
use Rattle.std.proofs.lemmas.List.{length-drop}
use Rattle.ja_base.specs.Literals.{variable, negated}
use Rattle.ja_base.proofs.ClauseLemmas.{Ascends-from_increasing}
use Rattle.refute_check.specs.Lines.{first_is, is_fit}
use Rattle.refute_check.proofs.FitLemmas.{fit_at}
use Rattle.refute_check.proofs.fit.fits.Goals as goal

pub loop-at-init : goal.loop-at-init
loop-at-init c = (Ascends-from_increasing c.args.lits.now c.requires, refl)

pub loop-at-preserved : goal.loop-at-preserved
loop-at-preserved c =
    let lits : List ℕ = c.args.lits.now in
    let within : c.loop-at.at < length lits = omega arith in
    let lit : ℕ = c.index-lits-at.result in
    let vars : ℕ = c.args.vars in
    let step = fit_at vars c.loop-at.at lit lits within c.index-lits-at.is c.loop-at.invariant.0 in
    let fits : (nat_lt (variable lit) vars && not (first_is (negated lit) (drop (c.loop-at.at + 1) lits))) ≡ true =
    let later : take (length lits - (c.loop-at.at + 1)) (drop (c.loop-at.at + 1) lits) ≡ drop (c.loop-at.at + 1) lits =
    ap (λ n. take n (drop (c.loop-at.at + 1) lits)) (sym (length-drop (c.loop-at.at + 1) lits))
    ∙ take-length (drop (c.loop-at.at + 1) lits) in
    ap (λ v. nat_lt (variable lit) vars && not (first_is (negated lit) v)) (sym later)
    ∙ sym c.fits_before.ensures ∙ c.if-not-fits_before.false in
    let same : is_fit vars (drop c.loop-at.at lits) ≡ is_fit vars (drop (c.loop-at.at + 1) lits) =
    step.1 ∙ ap (λ b. b && is_fit vars (drop (c.loop-at.at + 1) lits)) fits in
    (step.0, c.loop-at.invariant.1 ∙ same)
