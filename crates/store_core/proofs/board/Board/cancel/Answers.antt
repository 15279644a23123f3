use Rattle.std.proofs.Common.{◌∙◌, ◌<◌, length, sym, ap, subst}
use Rattle.store_core.specs.Steps.{can_cancel}
use Rattle.store_core.specs.Boards.{BoardValue}
use Rattle.store_core.proofs.Events.{cancels, cancels_not}
use Rattle.store_core.proofs.board.Board.cancel.Goals as goal

pub invariant_of-self-then-can_cancel : goal.invariant_of-self-then-can_cancel
invariant_of-self-then-can_cancel g c =
    let W : BoardValue _ _ → Type 0 = λ v. c.args.prop < length v.opening.assumed in
    cancels _ _ g.met.C.ClosedSet.grows _ _ _ _ _ _ c.args.seat c.self.invariant c.args.prop (subst W (sym c.self.view_is) c.requires)
    (ap (λ (v : BoardValue _ _). can_cancel v.opening v.state c.args.prop) c.self.view_is ∙ sym c.can_cancel.ensures
    ∙ c.if-can_cancel.true)
    c.in_ok-push.ensures.ok

pub invariant_of-self-2 : goal.invariant_of-self-2
invariant_of-self-2 g c =
    let W : BoardValue _ _ → Type 0 = λ v. c.args.prop < length v.opening.assumed in
    cancels_not _ _ g.met.C.ClosedSet.grows _ _ _ _ _ _ c.args.seat c.self.invariant c.args.prop (subst W (sym c.self.view_is) c.requires)
    (ap (λ (v : BoardValue _ _). can_cancel v.opening v.state c.args.prop) c.self.view_is ∙ sym c.can_cancel.ensures
    ∙ c.if-can_cancel.false)
    c.in_ok-push-2.ensures.ok
