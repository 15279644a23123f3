use Rattle.std.proofs.Common.{◌≡◌, sym, ap, ◌∙◌, subst}
use Rattle.ja_base.specs.Circuit.{Problem}
use Rattle.ja_base.specs.ClauseSets.{joined}
use Rattle.aig_model.specs.Task.{problem}
use Rattle.inv_cert.specs.Closed.{ClosedList, IsClosed}
use Rattle.inv_cert.proofs.JoinLemmas.{IsClosed-both}
use Rattle.inv_cert.proofs.closed_set.ClosedClosedSet.join.Goals as goal

pub invariant_of-result : goal.invariant_of-result
invariant_of-result c =
    let task_of : ClosedList → Problem = λ l. problem l.task in
    let t : Problem = problem c.self.inside.task in
    let one_task : t ≡ problem c.other.inside.task = ap task_of c.self.view_is ∙ c.requires ∙ sym (ap task_of c.other.view_is) in
    let others : IsClosed t c.other.inside.clauses = subst (λ u. IsClosed u c.other.inside.clauses)
    (sym one_task) c.other.invariant in
    let both : IsClosed t (joined c.self.inside.clauses c.other.inside.clauses) =
    IsClosed-both t c.self.inside.clauses c.other.inside.clauses c.self.invariant others in
    let here : IsClosed t c.in_ok-joined.field-0 = subst (IsClosed t) (sym c.in_ok-joined.ensures) both in
    subst (λ u. IsClosed u c.in_ok-joined.field-0) (sym (ap problem c.in_ok-share.ensures)) here
