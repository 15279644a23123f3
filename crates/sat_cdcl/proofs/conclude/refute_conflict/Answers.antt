use Rattle.std.proofs.Common.{◌≡◌, ℕ, List, length, refl, sym, subst, ◌∙◌, ap}
use Rattle.sat_plain.specs.Trails.{Assigned, lits_of}
use Rattle.sat_plain.specs.Derive.{IsDerived, IsWalked}
use Rattle.sat_plain.proofs.WalkLemmas.{walked_of}
use Rattle.sat_cdcl.specs.Files.{list_of, places_of}
use Rattle.sat_cdcl.proofs.conclude.refute_conflict.Goals as goal

pub returns-clause-accepted : goal.returns-clause-accepted
returns-clause-accepted c =
    let vars : ℕ = c.args.db.now.watched.trail.vars in
    let lits : List ℕ = lits_of (places_of c.args.db.now) in
    let T : Assigned → Type 0 = λ t. IsWalked t.vars (lits_of t.places) in
    let walked : IsWalked vars lits =
    subst T c.trail.ensures.value
    (walked_of c.trail.result.now.vars c.trail.result.now.values (lits_of c.trail.result.now.places) c.len.ensures.is) in
    let from : c.len.result ≡ length (places_of c.args.db.now) =
    c.len.ensures.value ∙ ap (λ (t : Assigned). length t.places) c.trail.ensures.value in
    let P : ℕ → Type 0 = λ n. IsDerived vars (list_of c.args.db.now) lits n c.in_ok-derivation.derivation in
    c.in_ok-line.ensures.accepted lits refl walked (subst P (sym from) c.in_ok-derivation.ensures.derived)
