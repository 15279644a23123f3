use Rattle.std.proofs.Common.{◌≡◌, ℕ, ◌*◌, ◌<◌, List, Bool, length, refl, sym, subst, ◌∙◌, ap}
use Rattle.std.specs.List.{All}
use Rattle.ja_base.specs.Literals.{bit}
use Rattle.ja_base.specs.Clauses.{IsBelow}
use Rattle.sat_plain.specs.Trails.{Assigned, IsAssigned}
use Rattle.sat_plain.specs.Turns.{IsModel}
use Rattle.sat_watch.specs.declared.step.Step.{Step}
use Rattle.sat_watch.specs.Steps.{IsStep}
use Rattle.sat_cdcl.specs.declared.backtrack.Reaction.{Reaction}
use Rattle.sat_cdcl.specs.Files.{Filed, IsNumbered, list_of}
use Rattle.sat_cdcl.specs.Turns.{IsReacted}
use Rattle.sat_cdcl.proofs.FileLemmas.{kept_same}
use Rattle.sat_cdcl.proofs.RowLemmas.{row_of}
use Rattle.sat_cdcl.proofs.turn.turn.Goals as goal

pub returns-in-Ok-clause-turned : goal.returns-in-Ok-clause-turned
returns-in-Ok-clause-turned g c =
    let db : Filed = c.args.db.now in
    let row : List Bool = c.in-Ok.row in
    let e : c.advance.new.db ≡ db = c.in-Full.ensures.advanced.0 in
    let t : c.trail.result.now ≡ db.watched.trail = c.trail.ensures.value ∙ ap (λ (f : Filed). f.watched.trail) e in
    let N : Filed → Type 0 = λ f. IsNumbered f.watched.store f.slots in
    let B : Filed → Type 0 = λ f. All (IsBelow f.watched.trail.vars) (list_of f) in
    let W : Assigned → Type 0 = λ a. length row ≡ a.vars in
    let R : Assigned → Type 0 = λ a. (v : ℕ) → v < a.vars → bit row v ≡ bit a.values (2 * v) in
    let S : Step → Type 0 = IsStep db.watched in
    let P : List (List ℕ) → Type 0 = λ v. IsModel db.watched.trail.vars v c.args.under.now row in
    let full = c.in-Full.ensures.advanced.1 in
    let all = c.in-Full.ensures.advanced.2 in
    subst P (sym (ap list_of e))
    (row_of db row c.args.under.now (subst IsAssigned t c.in-Ok.ensures.is) full (subst N e c.trail.ensures.numbered)
    (subst S c.in-Quiet.is c.requires.step) (subst B e c.trail.ensures.below) (subst W t c.in-Ok.ensures.width)
    (subst R t c.in-Ok.ensures.bits) all)

pub returns-in-Spent-clause-kept : goal.returns-in-Spent-clause-kept
returns-in-Spent-clause-kept g c = kept_same c.args.db.now c.args.db.now refl

pub returns-in-Stopped-clause-kept : goal.returns-in-Stopped-clause-kept
returns-in-Stopped-clause-kept g c = kept_same c.args.db.now c.args.db.now refl

pub returns-in-Ok-Backjump-clause-turned : goal.returns-in-Ok-Backjump-clause-turned
returns-in-Ok-Backjump-clause-turned g c =
    let R : Reaction → Type 0 = IsReacted c.args.under.now c.args.db.now c.args.query.now c.react.new.db c.react.new.query in
    subst R c.in-Ok-Backjump.field-0-is (c.in-Ok-Backjump.ensures.reacted c.args.under.now c.requires.under_way)

pub returns-in-Ok-Refutes-clause-turned : goal.returns-in-Ok-Refutes-clause-turned
returns-in-Ok-Refutes-clause-turned g c =
    let R : Reaction → Type 0 = IsReacted c.args.under.now c.args.db.now c.args.query.now c.react.new.db c.react.new.query in
    subst R c.in-Ok-Refutes.field-0-is (c.in-Ok-Refutes.ensures.reacted c.args.under.now c.requires.under_way)
