use Rattle.std.proofs.Common.{sym, ◌∙◌}
use Rattle.aig_model.proofs.WalkSteps.{walk_begins}
use Rattle.aig_model.proofs.order.Walk.visit.Goals as goal

pub loop-at-init : goal.loop-at-init
loop-at-init c =
    let s = walk_begins c.args.gates.now c.args.self.now c.enter.new.self c.args.var c.in-Waiting.at c.requires.walk
    c.requires.empty c.enter.ensures (sym c.standing.ensures ∙ c.in-Waiting.is) in
    record { walk = s.0.walk; met = s.0.met; visited = s.1; table = s.0.table }
