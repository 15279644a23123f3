use Rattle.std.proofs.Common.{◌∙◌, ◌<◌, ◌+◌, ◌^◌, length, sym, ap, subst, arith}
use Rattle.store_core.specs.Steps.{job_of}
use Rattle.store_core.specs.Boards.{BoardValue}
use Rattle.store_core.proofs.Events.{draws_job, draws_none}
use Rattle.store_core.proofs.board.Board.draw.Goals as goal

pub overflow_add-self : goal.overflow_add-self
overflow_add-self g c =
    let P : BoardValue _ _ → Type 0 = λ v. v.state.place + 1 < 2 ^ 32 in
    let left : c.self.inside.place + 1 < 2 ^ 32 = subst P (sym c.self.view_is) c.in-Some.ensures.left in
    omega (arith, left)

pub invariant_of-self-in-Some : goal.invariant_of-self-in-Some
invariant_of-self-in-Some g c =
    draws_job _ _ g.met.C.ClosedSet.grows _ _ _ _ _ _ c.args.seat c.self.invariant c.in-Some.prop c.len-upto.result
    (ap (λ (v : BoardValue _ _). job_of v.opening v.state) c.self.view_is ∙ sym c.in-Some.ensures.job)
    (c.len-upto.ensures.value ∙ ap length c.in_ok-view.ensures.clauses) c.in_ok-push-in-Some.ensures.ok

pub invariant_of-self-in-None : goal.invariant_of-self-in-None
invariant_of-self-in-None g c =
    draws_none _ _ g.met.C.ClosedSet.grows _ _ _ _ _ _ c.args.seat c.self.invariant c.len-upto.result
    (ap (λ (v : BoardValue _ _). job_of v.opening v.state) c.self.view_is ∙ sym c.in-None.ensures.job)
    (c.len-upto.ensures.value ∙ ap length c.in_ok-view.ensures.clauses) c.in_ok-push-in-None.ensures.ok
