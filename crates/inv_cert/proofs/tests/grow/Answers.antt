use Rattle.std.proofs.Common.{◌≡◌, ◌+◌, ℕ, List, ◌++◌, sym, ap, subst, ◌∙◌}
use Rattle.std.specs.List.{All}
use Rattle.ja_base.specs.Clauses.{IsBelow}
use Rattle.ja_base.specs.ClauseSets.{fresh}
use Rattle.ja_base.proofs.JoinLemmas.{fresh_again}
use Rattle.inv_cert.specs.Closed.{ClosedList}
use Rattle.inv_cert.specs.Loaded.{StepList}
use Rattle.inv_cert.proofs.JoinLemmas.{All-fresh, joined_with_fresh}
use Rattle.inv_cert.proofs.tests.grow.Goals as goal

pub add_each-requires : goal.add_each-requires
add_each-requires g c =
    let P : List (List ℕ) → Type 0 = All (IsBelow (c.args.checker.now.task.design.vars + 1)) in
    let Q : StepList → Type 0 = λ k. All (IsBelow (k.task.design.vars + 1)) c.in_ok-added.added in
    let R : List (List ℕ) → Type 0 = All (IsBelow (c.args.coded.now.design.vars + 1)) in
    subst P (sym c.as_slice.ensures.value) (subst Q (sym c.requires.checker) (subst R (sym c.in_ok-added.ensures)
    (All-fresh (IsBelow (c.args.coded.now.design.vars + 1)) c.args.list.now.clauses c.in_ok-candidates.candidates
    c.in_ok-candidates.ensures)))

pub grow-requires-clause-below : goal.grow-requires-clause-below
grow-requires-clause-below g c =
    let R : List (List ℕ) → Type 0 = All (IsBelow (c.args.coded.now.design.vars + 1)) in
    subst R (sym (c.added.view_is ∙ c.in_ok-added.ensures))
    (All-fresh (IsBelow (c.args.coded.now.design.vars + 1)) c.args.list.now.clauses c.in_ok-candidates.candidates
    c.in_ok-candidates.ensures)

pub grow-requires-clause-fresh : goal.grow-requires-clause-fresh
grow-requires-clause-fresh g c =
    let is = c.added.view_is ∙ c.in_ok-added.ensures in
    ap (fresh c.args.list.now.clauses) is ∙ fresh_again c.args.list.now.clauses c.in_ok-candidates.candidates ∙ sym is

pub returns-in-Ok-clause-checker : goal.returns-in-Ok-clause-checker
returns-in-Ok-clause-checker g c =
    let list : List (List ℕ) = c.args.list.now.clauses in
    let more : List (List ℕ) = c.added.inside.items.items in
    let is = c.added.view_is ∙ c.in_ok-added.ensures in
    let new = ap (fresh list) is ∙ fresh_again list c.in_ok-candidates.candidates ∙ sym is in
    let grown : c.grow.new.self.clauses ≡ list ++ more =
    ap (λ (l : ClosedList). l.clauses) c.in-Ok.ensures.closed ∙ joined_with_fresh list more new in
    let held : StepList → StepList = λ k. record { task = k.task; list = k.list ++ c.as_slice.result.now } in
    let listed : List (List ℕ) → StepList = λ l. record { task = c.args.coded.now; list = list ++ l } in
    let whole : List (List ℕ) → StepList = λ l. record { task = c.args.coded.now; list = l } in
    c.in-Ok.ensures.checker ∙ c.in_ok-add_each.ensures ∙ ap held c.requires.checker
    ∙ ap listed (c.as_slice.ensures.value ∙ sym c.added.view_is) ∙ ap whole (sym grown)
