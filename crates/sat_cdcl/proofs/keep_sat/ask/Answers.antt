use Rattle.std.proofs.Common.{◌≡◌, ℕ, List, Bool, Option, option_copied, refl, sym, subst, ◌∙◌}
use Rattle.std.specs.List.{All}
use Rattle.sat_plain.specs.Answer.{clauses_of}
use Rattle.sat_plain.specs.Probed.{IsProbed}
use Rattle.sat_cdcl.specs.declared.question.Question.{Question}
use Rattle.sat_cdcl.specs.Files.{Filed, list_of}
use Rattle.sat_cdcl.specs.Questions.{IsKeepable}
use Rattle.sat_cdcl.proofs.QuestionLemmas.{learns_same}
use Rattle.sat_cdcl.proofs.ProbeLemmas.{probed_by}
use Rattle.sat_cdcl.proofs.keep_sat.ask.Goals as goal

pub returns-in-Err-clause-keeps : goal.returns-in-Err-clause-keeps
returns-in-Err-clause-keeps g c = λ added h.
    let K : List (List ℕ) → Type 0 = All (IsKeepable c.args.db.now.watched.trail.vars added) in
    subst K (sym {A = List (List ℕ)} c.put_extra.ensures.keeps) h.keeps

pub returns-in-Ok-clause-keeps : goal.returns-in-Ok-clause-keeps
returns-in-Ok-clause-keeps g c = λ added h.
    let extra : Option (List ℕ) = option_copied c.args.extra in
    let b : Filed = c.put_extra.new.db in
    let q : Question = c.put_extra.new.self in
    let same : c.search.new.db.watched.trail.vars ≡ c.args.db.now.watched.trail.vars =
    c.search.ensures.kept.vars ∙ c.propagate-step.ensures.vars ∙ c.put_extra.ensures.kept.vars in
    let K : ℕ → Type 0 = λ n. All (IsKeepable n added) c.search.new.question.kept.items in
    let l = c.search.ensures.learns added extra
    (learns_same b c.propagate-step.new.self q q c.propagate-step.ensures.vars c.propagate-step.ensures.list refl refl refl added
    extra (c.in-Ok.ensures.learns added h)) in
    subst K same l.keeps

pub returns-in-Ok-clause-answer : goal.returns-in-Ok-clause-answer
returns-in-Ok-clause-answer g c = λ added h.
    let extra : Option (List ℕ) = option_copied c.args.extra in
    let among : Option (List ℕ) = option_copied c.args.among in
    let b : Filed = c.put_extra.new.db in
    let q : Question = c.put_extra.new.self in
    let e : Filed = c.search.new.db in
    let row : List Bool = c.search.new.row in
    let same : e.watched.trail.vars ≡ c.args.db.now.watched.trail.vars =
    c.search.ensures.kept.vars ∙ c.propagate-step.ensures.vars ∙ c.put_extra.ensures.kept.vars in
    let P : ℕ → Type 0 = λ n. IsProbed n (clauses_of added extra) c.args.under.now among row c.search.result in
    let l = c.search.ensures.learns added extra
    (learns_same b c.propagate-step.new.self q q c.propagate-step.ensures.vars c.propagate-step.ensures.list refl refl refl added
    extra (c.in-Ok.ensures.learns added h)) in
    subst P same
    (probed_by e.watched.trail.vars (clauses_of added extra) (list_of e) c.args.under.now among row c.search.result l.sound
    l.whole c.search.ensures.answer)
