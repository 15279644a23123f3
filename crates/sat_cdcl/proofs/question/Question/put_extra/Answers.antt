use Rattle.std.proofs.Common.{◌≡◌, ℕ, List, [], ◌∷◌, ◌++◌, Option, Some, true, refl, sym, subst, ◌∙◌, ap, option_copied}
use Rattle.sat_plain.specs.Trails.{Assigned}
use Rattle.sat_cdcl.specs.declared.question.Question.{Question}
use Rattle.sat_cdcl.specs.Files.{list_of}
use Rattle.sat_cdcl.specs.Questions.{IsLearning}
use Rattle.sat_cdcl.proofs.FileLemmas.{kept_same}
use Rattle.sat_cdcl.proofs.QuestionLemmas.{learning_extra}
use Rattle.sat_cdcl.proofs.question.Question.put_extra.Goals as goal

pub returns-in_err-clause-in-Some-clause-kept : goal.returns-in_err-clause-in-Some-clause-kept
returns-in_err-clause-in-Some-clause-kept c = kept_same c.args.db.now c.args.db.now refl

pub returns-in_err-put-in-Some-clause-kept : goal.returns-in_err-put-in-Some-clause-kept
returns-in_err-put-in-Some-clause-kept c = kept_same c.args.db.now c.put.new.self c.in_err-put-in-Some.ensures.err

pub returns-in_err-reserve-in-Some-clause-kept : goal.returns-in_err-reserve-in-Some-clause-kept
returns-in_err-reserve-in-Some-clause-kept c = kept_same c.args.db.now c.args.db.now refl

pub returns-in-None-clause-kept : goal.returns-in-None-clause-kept
returns-in-None-clause-kept c = kept_same c.args.db.now c.args.db.now refl

pub returns-in_ok-put-in-Some-clause-learns : goal.returns-in_ok-put-in-Some-clause-learns
returns-in_ok-put-in-Some-clause-learns c = λ added h.
    let q : Question = c.args.self.now in
    let q' : Question = record { query = q.query; first = q.first; taints = c.push_reserved.new.self; kept = q.kept } in
    let clause : List ℕ = c.in-Some.clause.now in
    let list : c.put.new.self.watched.trail ≡ c.args.db.now.watched.trail = c.in_ok-put-in-Some.ensures.trail in
    let P : Option (List ℕ) → Type 0 = λ o. IsLearning c.put.new.self.watched.trail.vars added o (list_of c.put.new.self) q' in
    let V : Assigned → Type 0 = λ t. IsLearning t.vars added (Some clause) (list_of c.put.new.self) q' in
    let L : List (List ℕ) → Type 0 = λ v. IsLearning c.args.db.now.watched.trail.vars added (Some clause) v q' in
    subst P (sym (ap option_copied c.in-Some.is))
    (subst V (sym c.in_ok-put-in-Some.ensures.trail)
    (subst L (sym (c.in_ok-put-in-Some.ensures.list ∙ ap (λ k. list_of c.args.db.now ++ k ∷ []) c.in_ok-clause-in-Some.ensures))
    (learning_extra c.args.db.now.watched.trail.vars added (list_of c.args.db.now) clause q q' h refl
    (c.push_reserved.ensures.items ∙ ap (λ v. v ++ true ∷ []) c.reserve.ensures.items) refl)))
