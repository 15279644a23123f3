use Rattle.std.proofs.Common.{◌∙◌, ◌<◌, ◌∷◌, ◌++◌, [], ℕ, Some, length, ap, subst, sym}
use Rattle.store_core.specs.declared.journal.Event.TheVariants.{Settle}
use Rattle.store_core.specs.declared.journal.Reply.TheVariants as reply
use Rattle.store_core.specs.declared.mark.Mark.TheVariants as mark
use Rattle.store_core.specs.Steps.{mark_of}
use Rattle.store_core.specs.Boards.{BoardValue}
use Rattle.store_core.proofs.Events.{spends}
use Rattle.store_core.proofs.board.Board.settle_spent.Goals as goal

pub invariant_of-self-2 : goal.invariant_of-self-2
invariant_of-self-2 g c =
    let p : ℕ = c.args.prop in
    let n : ℕ = c.units.result in
    let W : BoardValue _ _ → Type 0 = λ v. p < length v.opening.assumed in
    spends _ _ g.met.C.ClosedSet.grows _ _ _ _ _ _ c.args.seat c.self.invariant p n c.len-upto.result
    (subst W (sym c.self.view_is) c.requires.within)
    (ap (λ (v : BoardValue _ _). mark_of v.state.marks p) c.self.view_is ∙ c.requires.free)
    (ap (λ (v : BoardValue _ _). v.opening.limit) c.self.view_is ∙ c.requires.limit ∙ ap Some (sym c.units.ensures))
    c.len-upto.ensures.value
    (c.in_ok-push.ensures.ok ∙ ap (λ added. c.self.inside.journal
    ++ record { seat = c.args.seat; event = Settle p (mark.Budget n) added; reply = reply.Settled c.len-upto.result } ∷ [])
    c.new-added.ensures)
