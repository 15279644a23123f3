use Rattle.std.proofs.Common.{◌≡◌, ℕ, List, [], Option, refl, sym, subst, ◌∙◌}
use Rattle.std.specs.List.{Contains}
use Rattle.refute_check.specs.declared.lines.Line.{Line}
use Rattle.sat_plain.specs.Trails.{Assigned}
use Rattle.sat_plain.specs.Turns.{IsFurther}
use Rattle.sat_plain.proofs.Members.{Contains-none}
use Rattle.sat_cdcl.specs.declared.analyze.Point.{Point}
use Rattle.sat_cdcl.specs.declared.query.Query.{Query}
use Rattle.sat_cdcl.specs.Files.{Filed, places_of}
use Rattle.sat_cdcl.specs.Walks.{IsLearntAt}
use Rattle.sat_cdcl.specs.Assumptions.{IsAssuming}
use Rattle.sat_cdcl.proofs.FileLemmas.{kept_same, kept_chain}
use Rattle.sat_cdcl.proofs.SearchLemmas.{logged_one, refuting_of}
use Rattle.sat_cdcl.proofs.backtrack.learn.Goals as goal

pub returns-in_err-line-clause-kept : goal.returns-in_err-line-clause-kept
returns-in_err-line-clause-kept c = kept_same c.args.db.now c.args.db.now refl

pub returns-in_ok-slot-in-Some-clause-kept : goal.returns-in_ok-slot-in-Some-clause-kept
returns-in_ok-slot-in-Some-clause-kept c =
    kept_chain c.args.db.now c.log.new.db c.backjump-step.new.db c.log.ensures.kept c.backjump-step.ensures.kept

pub returns-in_ok-slot-in-Some-clause-reacted : goal.returns-in_ok-slot-in-Some-clause-reacted
returns-in_ok-slot-in-Some-clause-reacted c = λ under old.
    let a : Filed = c.args.db.now in
    let b : Filed = c.log.new.db in
    let d : Filed = c.backjump-step.new.db in
    let line : Line = c.in_ok-line.field-0.line in
    let F : Assigned → Type 0 = λ t. IsFurther t.vars t.places (places_of d) in
    let U : Assigned → Type 0 = λ t. IsAssuming under t.places c.args.query.now.free c.args.query.now.cursor in
    record {
      further = subst F c.in_ok-slot-in-Some.ensures.trail c.backjump-step.ensures.further;
      step_is = c.backjump-step.ensures.step;
      under_way = c.backjump-step.ensures.under_way under (subst U (sym c.in_ok-slot-in-Some.ensures.trail) old);
      logged = logged_one a d c.args.query.now.lines c.backjump-step.new.query.lines line c.in_ok-line.ensures.accepted
          (c.backjump-step.ensures.lines ∙ c.in_ok-slot-in-Some.ensures.lines)
          (c.backjump-step.ensures.list ∙ c.in_ok-slot-in-Some.ensures.list);
    }

pub returns-in_ok-core-in-None-clause-reacted : goal.returns-in_ok-core-in-None-clause-reacted
returns-in_ok-core-in-None-clause-reacted c = λ under old.
    let line : Line = c.in_ok-line.field-0.line in
    let next : Query = record { lines = c.close.new.lines; free = c.args.query.now.free; cursor = c.args.query.now.cursor } in
    let P : Option Point → Type 0 = IsLearntAt (places_of c.args.db.now) line.clause in
    let empty : line.clause ≡ [] = subst P c.in-None.is c.in_ok-line.ensures.learnt in
    refuting_of under c.args.db.now c.close.new.db c.args.query.now next line c.in_ok-core-in-None.core
    c.in_ok-line.ensures.accepted c.in_ok-core-in-None.ensures.core c.in_ok-core-in-None.ensures.list
    c.in_ok-core-in-None.ensures.lines (λ m has.
    let Q : List ℕ → Type 0 = λ v. Contains v m in absurd (Contains-none m (subst Q empty has)))
