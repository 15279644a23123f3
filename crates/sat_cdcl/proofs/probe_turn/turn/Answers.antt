use Rattle.std.proofs.Common.{◌≡◌, ℕ, List, Option, option_copied, refl, sym, subst}
use Rattle.sat_watch.specs.declared.step.Step.{Step}
use Rattle.sat_watch.specs.Steps.{IsStep}
use Rattle.sat_cdcl.specs.declared.backtrack.Reaction.{Reaction}
use Rattle.sat_cdcl.specs.declared.question.Question.{Question}
use Rattle.sat_cdcl.specs.Files.{Filed, places_of}
use Rattle.sat_cdcl.specs.Turns.{IsFalsified}
use Rattle.sat_cdcl.specs.Questions.{IsAnswered, IsSettled, IsTurned}
use Rattle.sat_cdcl.proofs.FileLemmas.{kept_same}
use Rattle.sat_cdcl.proofs.QuestionLemmas.{learns_same}
use Rattle.sat_cdcl.proofs.probe_turn.turn.Goals as goal

pub returns-in-Decided-clause-learns : goal.returns-in-Decided-clause-learns
returns-in-Decided-clause-learns g c =
    let q : Question = c.args.question.now in
    let q' : Question = record { query = c.advance.new.query; first = q.first; taints = q.taints; kept = q.kept } in
    learns_same c.args.db.now c.advance.new.db q q' c.advance.ensures.kept.vars c.advance.ensures.list refl refl refl

pub returns-in-Full-clause-learns : goal.returns-in-Full-clause-learns
returns-in-Full-clause-learns g c =
    let q : Question = c.args.question.now in
    let q' : Question = record { query = c.advance.new.query; first = q.first; taints = q.taints; kept = q.kept } in
    learns_same c.args.db.now c.advance.new.db q q' c.advance.ensures.kept.vars c.advance.ensures.list refl refl refl

pub returns-in-Full-clause-turned : goal.returns-in-Full-clause-turned
returns-in-Full-clause-turned g c =
    let db : Filed = c.args.db.now in
    let S : Step → Type 0 = IsStep db.watched in
    let P : Filed → Type 0 = IsSettled c.args.under.now (option_copied c.args.among) in
    subst P (sym c.in-Full.ensures.advanced.0) (record {
      quiet = subst S c.in-Quiet.is c.requires.step;
      full = c.in-Full.ensures.advanced.1;
      holds = c.in-Full.ensures.advanced.2;
    })

pub returns-in-Falsified-clause-learns : goal.returns-in-Falsified-clause-learns
returns-in-Falsified-clause-learns g c =
    let q : Question = c.args.question.now in
    let q' : Question = record { query = c.advance.new.query; first = q.first; taints = q.taints; kept = q.kept } in
    learns_same c.args.db.now c.advance.new.db q q' c.advance.ensures.kept.vars c.advance.ensures.list refl refl refl

pub returns-in-Falsified-clause-turned : goal.returns-in-Falsified-clause-turned
returns-in-Falsified-clause-turned g c =
    let db : Filed = c.advance.new.db in
    let among : Option (List ℕ) = option_copied c.args.among in
    let e : db ≡ c.args.db.now = c.in-Falsified.ensures.advanced.0 in
    let F : Filed → Type 0 = λ f. IsFalsified c.args.under.now (places_of f) c.in-Falsified.at in
    let P : Filed → Type 0 = λ f. IsTurned c.args.under.now among f db c.advance.new.query c.falsified.result in
    subst P e
    (c.falsified.ensures.turned c.args.under.now among c.advance.new.query (subst F (sym e) c.in-Falsified.ensures.advanced.1))

pub returns-in-Spent-clause-kept : goal.returns-in-Spent-clause-kept
returns-in-Spent-clause-kept g c = kept_same c.args.db.now c.args.db.now refl

pub returns-in-Stopped-clause-kept : goal.returns-in-Stopped-clause-kept
returns-in-Stopped-clause-kept g c = kept_same c.args.db.now c.args.db.now refl

pub returns-in-Ok-Backjump-clause-turned : goal.returns-in-Ok-Backjump-clause-turned
returns-in-Ok-Backjump-clause-turned g c =
    let R : Reaction → Type 0 = IsAnswered c.args.under.now c.args.db.now c.react.new.db c.react.new.question.query in
    subst R c.in-Ok-Backjump.field-0-is (c.in-Ok-Backjump.ensures.answered c.args.under.now c.requires.under_way)

pub returns-in-Ok-Refutes-clause-turned : goal.returns-in-Ok-Refutes-clause-turned
returns-in-Ok-Refutes-clause-turned g c =
    let R : Reaction → Type 0 = IsAnswered c.args.under.now c.args.db.now c.react.new.db c.react.new.question.query in
    subst R c.in-Ok-Refutes.field-0-is (c.in-Ok-Refutes.ensures.answered c.args.under.now c.requires.under_way)
