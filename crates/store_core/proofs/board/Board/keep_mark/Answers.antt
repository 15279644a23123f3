use Rattle.std.proofs.Common.{◌∙◌, ◌<◌, ◌++◌, ◌∷◌, [], length, ap, subst, sym}
use Rattle.store_core.specs.declared.journal.Event.TheVariants.{Settle}
use Rattle.store_core.specs.declared.journal.Reply.TheVariants as reply
use Rattle.store_core.specs.Steps.{mark_of}
use Rattle.store_core.specs.Boards.{BoardValue}
use Rattle.store_core.proofs.Events.{keeps_mark}
use Rattle.store_core.proofs.board.Board.keep_mark.Goals as goal

pub invariant_of-self-2 : goal.invariant_of-self-2
invariant_of-self-2 g c =
    let W : BoardValue _ _ → Type 0 = λ v. c.args.prop < length v.opening.assumed in
    keeps_mark _ _ g.met.C.ClosedSet.grows _ _ _ _ _ _ c.args.seat c.self.invariant c.args.prop c.args.had c.args.mark
    (subst W (sym c.self.view_is) c.requires.within)
    (ap (λ (v : BoardValue _ _). mark_of v.state.marks c.args.prop) c.self.view_is ∙ c.requires.had) (c.in_ok-push.ensures.ok
    ∙ ap (λ added. c.self.inside.journal ++ record {
      seat = c.args.seat;
      event = Settle c.args.prop c.args.mark added;
      reply = reply.Had c.args.had;
    } ∷ []) c.new-added.ensures)
