use Rattle.std.proofs.Common.{◌≡◌, ℕ, List, subst, arith}
use Rattle.sat_plain.specs.declared.place.Place.{Place}
use Rattle.sat_plain.specs.Trails.{lits_of}
use Rattle.sat_plain.specs.Derive.{IsWalked}
use Rattle.sat_plain.specs.Walks.{IsWalking}
use Rattle.sat_plain.proofs.WalkLemmas.{last_set, walked_of}
use Rattle.sat_plain.proofs.analyze.derive.Goals as goal

pub returns-clause-accepted : goal.returns-clause-accepted
returns-clause-accepted c =
    let vars : ℕ = c.args.trail.now.vars in
    let list : List (List ℕ) = c.args.clauses.now.list in
    let places : List Place = c.args.trail.now.places in
    let zero : c.loop-at.at ≡ 0 = omega arith in
    let P : ℕ → Type 0 = λ k. IsWalking vars list places k c.loop-at.walk.derivation c.loop-at.walk.last in
    let end : IsWalking vars list places 0 c.loop-at.walk.derivation c.loop-at.walk.last = subst P zero c.loop-at.invariant in
    let walked : IsWalked vars (lits_of places) = walked_of vars c.args.trail.now.values (lits_of places) c.len-at.ensures.is in
    c.in_ok-line.ensures.accepted vars list (lits_of places) walked end.derived

pub returns-clause-last : goal.returns-clause-last
returns-clause-last c =
    let vars : ℕ = c.args.trail.now.vars in
    let list : List (List ℕ) = c.args.clauses.now.list in
    let places : List Place = c.args.trail.now.places in
    let zero : c.loop-at.at ≡ 0 = omega arith in
    let P : ℕ → Type 0 = λ k. IsWalking vars list places k c.loop-at.walk.derivation c.loop-at.walk.last in
    let end : IsWalking vars list places 0 c.loop-at.walk.derivation c.loop-at.walk.last = subst P zero c.loop-at.invariant in
    last_set places 0 c.loop-at.walk.derivation.lits c.in_ok-line.line.clause c.loop-at.walk.last c.in_ok-line.ensures.clause
    end.highest
