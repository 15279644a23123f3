use Rattle.std.proofs.Common.{ℕ, List, [], ◌∷◌, ◌++◌, sym, subst, ◌∙◌, ap}
use Rattle.std.specs.List.{All}
use Rattle.std.proofs.lemmas.List.Elements.{All-push}
use Rattle.sat_cdcl.specs.Questions.{IsKeepable}
use Rattle.sat_cdcl.proofs.question.Question.note.Goals as goal

pub returns-in_err-push-clause-keeps : goal.returns-in_err-push-clause-keeps
returns-in_err-push-clause-keeps c = λ vars added old new.
    let P : List (List ℕ) → Type 0 = All (IsKeepable vars added) in
    subst P (sym c.in_err-push.ensures.items) old

pub returns-clause-keeps : goal.returns-clause-keeps
returns-clause-keeps c = λ vars added old new.
    let P : List (List ℕ) → Type 0 = All (IsKeepable vars added) in
    let kept : List (List ℕ) = c.args.self.now.kept.items in
    subst P (sym (c.in_ok-push.ensures.items ∙ ap (λ k. kept ++ k ∷ []) c.in_ok-copy.ensures))
    (All-push (IsKeepable vars added) kept c.args.clause.now old (new c.if-tainted.false))
