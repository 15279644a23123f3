use Rattle.std.proofs.Common.{◌∙◌, length, ap}
use Rattle.store_core.proofs.Events.{imports}
use Rattle.store_core.proofs.board.Board.import.Goals as goal

pub invariant_of-self-2 : goal.invariant_of-self-2
invariant_of-self-2 g c =
    imports _ _ g.met.C.ClosedSet.grows _ _ _ _ _ _ c.args.seat c.self.invariant c.len-upto.result
    (c.len-upto.ensures.value ∙ ap length c.in_ok-view.ensures.clauses) c.in_ok-push.ensures.ok
