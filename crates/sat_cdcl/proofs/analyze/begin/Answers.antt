use Rattle.std.proofs.Common.{◌≡◌, ℕ, List, length, sym, subst, ◌∙◌}
use Rattle.std.proofs.lemmas.Option.{same_Some}
use Rattle.ja_base.specs.Trails.{AreFalse}
use Rattle.sat_plain.specs.Trails.{lits_of}
use Rattle.sat_plain.specs.Derive.{IsDerived}
use Rattle.sat_plain.proofs.PlaceLemmas.{lits_length}
use Rattle.sat_cdcl.specs.Files.{list_of, places_of}
use Rattle.sat_cdcl.proofs.analyze.begin.Goals as goal

pub returns-clause-derived : goal.returns-clause-derived
returns-clause-derived c =
    let list : List (List ℕ) = list_of c.args.db.now in
    let lits : List ℕ = lits_of (places_of c.args.db.now) in
    let clause : List ℕ = c.clause-clause.result.now in
    let old = c.requires in
    let same : old.clause ≡ clause = same_Some old.clause clause (sym old.there.is ∙ c.clause-clause.ensures.there.is) in
    let P : List ℕ → Type 0 = AreFalse lits in
    let Q : ℕ → Type 0 = λ v. IsDerived v list lits (length lits) c.in_ok-derivation.derivation in
    let R : ℕ → Type 0 = λ n. IsDerived c.args.db.now.watched.trail.vars list lits n c.in_ok-derivation.derivation in
    subst R (lits_length (places_of c.args.db.now))
    (subst Q c.vars.ensures (c.in_ok-derivation.ensures.begins list lits (c.number-number.ensures clause c.clause-clause.ensures.there)
    (subst P same old.wrong)))
