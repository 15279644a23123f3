use Rattle.std.proofs.Common.{◌≡◌, List, ℕ, ◌++◌, sym, ap, ◌∙◌, subst}
use Rattle.ja_base.specs.Circuit.{Problem}
use Rattle.ja_base.specs.ClauseSets.{joined}
use Rattle.ja_base.proofs.JoinLemmas.{joined_is_fresh}
use Rattle.aig_model.specs.Task.{problem}
use Rattle.inv_cert.specs.Closed.{ClosedList, IsClosed}
use Rattle.inv_cert.proofs.JoinLemmas.{IsClosed-both}
use Rattle.inv_cert.proofs.closed_set.ClosedClosedSet.extend.Goals as goal

pub invariant_of-self-2 : goal.invariant_of-self-2
invariant_of-self-2 c =
    let few : List (List ℕ) = c.self.inside.clauses in
    let more : List (List ℕ) = c.other.inside.clauses in
    let task_of : ClosedList → Problem = λ l. problem l.task in
    let t : Problem = problem c.self.inside.task in
    let one_task : t ≡ problem c.other.inside.task = ap task_of c.self.view_is ∙ c.requires ∙ sym (ap task_of c.other.view_is) in
    let others : IsClosed t more = subst (λ u. IsClosed u more) (sym one_task) c.other.invariant in
    let is : c.append.new.self ≡ joined few more =
    c.in_ok-append.ensures.ok ∙ ap (λ list. few ++ list) (c.in_ok-copy.ensures ∙ c.in_ok-added.ensures)
    ∙ sym (joined_is_fresh few more) in
    subst (IsClosed t) (sym is) (IsClosed-both t few more c.self.invariant others)

pub returns-clause-clauses : goal.returns-clause-clauses
returns-clause-clauses c =
    let few : List (List ℕ) = c.self.inside.clauses in
    let more : List (List ℕ) = c.other.inside.clauses in
    let clauses_of : ClosedList → List (List ℕ) = λ l. l.clauses in
    c.in_ok-append.ensures.ok ∙ ap (λ list. few ++ list) (c.in_ok-copy.ensures ∙ c.in_ok-added.ensures)
    ∙ sym (joined_is_fresh few more)
    ∙ ap (λ list. joined list more) (ap clauses_of c.self.view_is)
    ∙ ap (joined c.args.self.now.clauses) (ap clauses_of c.other.view_is)
