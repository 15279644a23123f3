use Rattle.std.proofs.Common.{◌≡◌, ℕ, ◌+◌, ◌-◌, ◌≤◌, List, subst, ◌∙◌, arith}
use Rattle.sat_plain.specs.Trails.{lits_of}
use Rattle.sat_plain.specs.Derive.{IsDerived}
use Rattle.sat_cdcl.specs.Files.{list_of, places_of}
use Rattle.sat_cdcl.specs.Assumptions.{DecidesUnder}
use Rattle.sat_cdcl.proofs.PointLemmas.{taken_same_less}
use Rattle.sat_cdcl.proofs.conclude.conclude.Goals as goal

pub loop-at-preserved : goal.loop-at-preserved
loop-at-preserved c =
    let vars : ℕ = c.args.db.now.watched.trail.vars in
    let list : List (List ℕ) = list_of c.args.db.now in
    let lits : List ℕ = lits_of (places_of c.args.db.now) in
    let at : ℕ = c.loop-at.at in
    let some = c.loop-at-test.true in
    let next : at ≡ at - 1 + 1 = omega (arith, some) in
    let low : at - 1 + 1 ≤ c.args.from = omega (arith, c.loop-at.auto.at, some) in
    record {
      derived = λ trail same walked h.
          let P : ℕ → Type 0 = λ n. IsDerived vars list trail n c.loop-at.derivation in
          c.in_ok-step.ensures.goes trail (taken_same_less trail lits (at - 1 + 1) c.args.from low same) walked
          (subst P next (c.loop-at.invariant.derived trail same walked h));
      kept = λ under decides old.
          let fewer : DecidesUnder under (places_of c.args.db.now) (at - 1 + 1) =
          λ p place less. decides p place (omega (arith, low)) in
          c.in_ok-step.ensures.kept under fewer (c.loop-at.invariant.kept under decides old);
      width = c.in_ok-step.ensures.width ∙ c.loop-at.invariant.width;
    }

pub returns-clause-accepted : goal.returns-clause-accepted
returns-clause-accepted c = λ trail same walked h.
    let vars : ℕ = c.args.db.now.watched.trail.vars in
    let list : List (List ℕ) = list_of c.args.db.now in
    let zero : c.loop-at.at ≡ 0 = omega arith in
    let P : ℕ → Type 0 = λ k. IsDerived vars list trail k c.loop-at.derivation in
    c.in_ok-line.ensures.accepted vars list trail walked (subst P zero (c.loop-at.invariant.derived trail same walked h))

pub returns-clause-kept : goal.returns-clause-kept
returns-clause-kept c = λ under decides old m has.
    c.loop-at.invariant.kept under decides old m ((c.in_ok-line.ensures.clause.members m).0 has)
