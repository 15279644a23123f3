use Rattle.std.proofs.Common.{◌≡◌, ◌∙◌, ◌<◌, ◌&&◌, true, false, length, subst, sym}
use Rattle.std.specs.Prelude.{is_none, is_some}
use Rattle.store_core.specs.Steps.{mark_of, give_up_reply}
use Rattle.store_core.specs.Boards.{BoardValue}
use Rattle.store_core.proofs.Events.{gives_up, goes_on}
use Rattle.store_core.proofs.board.Board.give_up.Goals as goal

pub invariant_of-self-then-gives_up : goal.invariant_of-self-then-gives_up
invariant_of-self-then-gives_up g c =
    let W : BoardValue _ _ → Type 0 = λ v. c.args.prop < length v.opening.assumed in
    let R : BoardValue _ _
    → Type 0 = λ v. c.give_up_reply-reply.result ≡ give_up_reply (mark_of v.state.marks c.args.prop) v.state.cancel in
    let G : BoardValue _ _ → Type 0 = λ v. (is_none (mark_of v.state.marks c.args.prop) && is_some v.state.cancel) ≡ true in
    gives_up _ _ g.met.C.ClosedSet.grows _ _ _ _ _ _ c.args.seat c.self.invariant c.args.prop c.give_up_reply-reply.result
    (subst W (sym c.self.view_is) c.requires) (subst R (sym c.self.view_is) c.give_up_reply-reply.ensures)
    (subst G (sym c.self.view_is) (sym c.gives_up-gives_up.ensures ∙ c.if-gives_up.true)) c.in_ok-push.ensures.ok

pub invariant_of-self-else-gives_up : goal.invariant_of-self-else-gives_up
invariant_of-self-else-gives_up g c =
    let W : BoardValue _ _ → Type 0 = λ v. c.args.prop < length v.opening.assumed in
    let R : BoardValue _ _
    → Type 0 = λ v. c.give_up_reply-reply.result ≡ give_up_reply (mark_of v.state.marks c.args.prop) v.state.cancel in
    let G : BoardValue _ _ → Type 0 = λ v. (is_none (mark_of v.state.marks c.args.prop) && is_some v.state.cancel) ≡ false in
    goes_on _ _ g.met.C.ClosedSet.grows _ _ _ _ _ _ c.args.seat c.self.invariant c.args.prop c.give_up_reply-reply.result
    (subst W (sym c.self.view_is) c.requires)
    (subst R (sym c.self.view_is) c.give_up_reply-reply.ensures)
    (subst G (sym c.self.view_is) (sym c.gives_up-gives_up.ensures ∙ c.if-gives_up.false)) c.in_ok-push.ensures.ok
