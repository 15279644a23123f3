use Rattle.std.proofs.Common.{List, [], ◌∷◌, ◌++◌, sym, subst, ◌∙◌}
use Rattle.sat_plain.specs.declared.place.Place.{Place}
use Rattle.sat_plain.specs.Starts.{AreAssumed}
use Rattle.sat_plain.proofs.StartLemmas.{assumed_again, assumed_push}
use Rattle.sat_plain.proofs.start.assume_one.Goals as goal

pub returns-then-is_true-clause-assumed : goal.returns-then-is_true-clause-assumed
returns-then-is_true-clause-assumed c = λ under h.
    let is = c.is_true.ensures.is in
    assumed_again under c.args.trail.now.places c.args.lit
    (is.only c.args.lit (sym c.is_true.ensures.value ∙ c.if-is_true.true)) h

pub returns-clause-assumed : goal.returns-clause-assumed
returns-clause-assumed c = λ under h.
    let P : List Place → Type 0 = AreAssumed (under ++ c.args.lit ∷ []) in
    subst P (sym c.push.ensures.places) (assumed_push under c.args.trail.now.places c.args.lit h)
