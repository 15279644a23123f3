use Rattle.std.proofs.Common.{ℕ, ◌≤◌, List, Option, None, Ok, sym, subst, arith}
use Rattle.std.specs.List.{All}
use Rattle.ja_base.specs.Clauses.{IsBelow}
use Rattle.sat_plain.specs.Trails.{lits_of, kinds_of}
use Rattle.sat_plain.specs.Rank.{rank}
use Rattle.sat_plain.specs.Turns.{IsFurther, IsModel, IsLearnt}
use Rattle.sat_plain.proofs.PlaceLemmas.{lits_length}
use Rattle.sat_plain.proofs.RankLemmas.{rank_grown, further_by_places}
use Rattle.sat_plain.proofs.ModelLemmas.{model_of}
use Rattle.sat_plain.proofs.turn.turn.Goals as goal

pub returns-in-Moved-clause-turned : goal.returns-in-Moved-clause-turned
returns-in-Moved-clause-turned g c =
    let is = c.advance.ensures.is in
    let short = is.short in
    further_by_places c.args.query.now.trail.vars c.args.query.now.trail.places c.advance.new.trail.places
    c.advance.ensures.grown c.in-Moved.ensures.step
    (omega (arith, lits_length c.advance.new.trail.places, c.advance.ensures.vars))

pub returns-in-Ok-clause-turned : goal.returns-in-Ok-clause-turned
returns-in-Ok-clause-turned g c =
    let P : ℕ → Type 0 = λ n. IsModel n c.args.clauses.now.list (lits_of c.advance.new.trail.places) c.in-Ok.row in
    let Q : ℕ → Type 0 = λ n. All (IsBelow n) c.args.clauses.now.list in
    let same = c.advance.ensures.vars in
    subst P same (model_of c.advance.new.trail.vars c.advance.new.trail.values c.in-Ok.row (lits_of c.advance.new.trail.places)
    c.args.clauses.now.list c.advance.ensures.is c.in-Quiet.ensures.step.1 c.in-Quiet.ensures.step.0
    (subst Q (sym same) c.requires.search.below) c.in-Ok.ensures.width c.in-Ok.ensures.bits)

pub returns-in-Ok-None-clause-turned : goal.returns-in-Ok-None-clause-turned
returns-in-Ok-None-clause-turned g c =
    let is = c.advance.ensures.is in
    let short = is.short in
    let vars : ℕ = c.args.query.now.trail.vars in
    let first : rank vars (kinds_of c.args.query.now.trail.places) ≤ rank vars (kinds_of c.advance.new.trail.places) =
    rank_grown vars c.args.query.now.trail.places c.advance.new.trail.places c.advance.ensures.grown
    (omega (arith, lits_length c.advance.new.trail.places, c.advance.ensures.vars)) in
    let P : ℕ → Type 0 = λ n. IsFurther n c.advance.new.trail.places c.learn.new.query.trail.places in
    let R : Option (List ℕ) → Type 0 = λ o.
    IsLearnt c.advance.new.trail.vars c.args.query.now.assumed c.advance.new.trail.places c.args.query.now.lines
    c.learn.new.query.trail.places c.learn.new.query.lines c.learn.new.clauses.list (Ok o) in
    let learnt : R None = subst R c.in-Ok-None.field-0-is c.in-Ok-None.ensures.answer in
    let second : IsFurther vars c.advance.new.trail.places c.learn.new.query.trail.places =
    subst P c.advance.ensures.vars learnt.1 in
    omega arith
