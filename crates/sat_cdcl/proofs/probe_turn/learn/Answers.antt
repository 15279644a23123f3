use Rattle.std.proofs.Common.{◌≡◌, ℕ, List, [], Option, refl, sym, subst}
use Rattle.std.specs.List.{Contains}
use Rattle.refute_check.specs.declared.lines.Line.{Line}
use Rattle.sat_plain.specs.Trails.{Assigned}
use Rattle.sat_plain.specs.Turns.{IsFurther}
use Rattle.sat_plain.proofs.Members.{Contains-none}
use Rattle.sat_cdcl.specs.declared.analyze.Point.{Point}
use Rattle.sat_cdcl.specs.declared.query.Query.{Query}
use Rattle.sat_cdcl.specs.declared.question.Question.{Question}
use Rattle.sat_cdcl.specs.Files.{Filed, places_of, list_of}
use Rattle.sat_cdcl.specs.Walks.{IsLearntAt}
use Rattle.sat_cdcl.specs.Assumptions.{IsAssuming}
use Rattle.sat_cdcl.proofs.FileLemmas.{kept_same, kept_chain}
use Rattle.sat_cdcl.proofs.QuestionLemmas.{closes_of, learns_same, learns_chain}
use Rattle.sat_cdcl.proofs.probe_turn.learn.Goals as goal

pub returns-in_err-line-clause-kept : goal.returns-in_err-line-clause-kept
returns-in_err-line-clause-kept c = kept_same c.args.db.now c.args.db.now refl

pub returns-in_err-core-in-None-clause-kept : goal.returns-in_err-core-in-None-clause-kept
returns-in_err-core-in-None-clause-kept c = kept_same c.args.db.now c.args.db.now refl

pub returns-in_ok-core-in-None-clause-kept : goal.returns-in_ok-core-in-None-clause-kept
returns-in_ok-core-in-None-clause-kept c = kept_same c.args.db.now c.args.db.now refl

pub returns-in_ok-slot-in-Some-clause-kept : goal.returns-in_ok-slot-in-Some-clause-kept
returns-in_ok-slot-in-Some-clause-kept c =
    kept_chain c.args.db.now c.learn.new.db c.backjump-step.new.db c.learn.ensures.kept c.backjump-step.ensures.kept

pub returns-in_ok-slot-in-Some-clause-learns : goal.returns-in_ok-slot-in-Some-clause-learns
returns-in_ok-slot-in-Some-clause-learns c =
    let q : Question = c.learn.new.self in
    let q' : Question = record { query = c.backjump-step.new.query; first = q.first; taints = q.taints; kept = q.kept } in
    learns_chain c.args.db.now c.learn.new.db c.backjump-step.new.db c.args.question.now q q' c.learn.ensures.learns
    (learns_same c.learn.new.db c.backjump-step.new.db q q' c.backjump-step.ensures.kept.vars c.backjump-step.ensures.list refl
    refl refl)

pub returns-in_ok-slot-in-Some-clause-answered : goal.returns-in_ok-slot-in-Some-clause-answered
returns-in_ok-slot-in-Some-clause-answered c = λ under old.
    let d : Filed = c.backjump-step.new.db in
    let old_query : Query = c.args.question.now.query in
    let F : Assigned → Type 0 = λ t. IsFurther t.vars t.places (places_of d) in
    let U : Assigned → Type 0 = λ t. IsAssuming under t.places old_query.free old_query.cursor in
    let Q : Query → Type 0 = λ q. IsAssuming under (places_of c.learn.new.db) q.free q.cursor in
    record {
      further = subst F c.in_ok-slot-in-Some.ensures.trail c.backjump-step.ensures.further;
      step_is = c.backjump-step.ensures.step;
      under_way = c.backjump-step.ensures.under_way under
          (subst Q (sym c.learn.ensures.query) (subst U (sym c.in_ok-slot-in-Some.ensures.trail) old));
    }

pub returns-in_ok-core-in-None-clause-answered : goal.returns-in_ok-core-in-None-clause-answered
returns-in_ok-core-in-None-clause-answered c = λ under old.
    let line : Line = c.in_ok-line.field-0.line in
    let vars : ℕ = c.args.db.now.watched.trail.vars in
    let P : Option Point → Type 0 = IsLearntAt (places_of c.args.db.now) line.clause in
    let empty : line.clause ≡ [] = subst P c.in-None.is c.in_ok-line.ensures.learnt in
    closes_of vars vars (list_of c.args.db.now) under line.clause line.hints c.in_ok-core-in-None.core
    c.in_ok-line.ensures.accepted c.in_ok-core-in-None.ensures (λ m has.
    let Q : List ℕ → Type 0 = λ v. Contains v m in absurd (Contains-none m (subst Q empty has)))
