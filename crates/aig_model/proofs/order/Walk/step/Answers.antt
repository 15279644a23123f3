use Rattle.aig_model.proofs.WalkSteps.{walk_leaves, walk_goes_on}
use Rattle.aig_model.proofs.order.Walk.step.Goals as goal

pub returns-in-None : goal.returns-in-None
returns-in-None c =
    walk_leaves c.args.gates.now c.args.self.now c.leave.new.self c.last_gate-gate.result c.requires.walk c.leave.ensures
    c.last_gate-gate.ensures.has
    c.in-None.ensures.none.ready0 c.in-None.ensures.none.ready1

pub returns-in-Some : goal.returns-in-Some
returns-in-Some c =
    walk_goes_on c.args.gates.now c.args.self.now c.go_on.new.self c.last_gate-gate.result c.in-Some.right c.requires.walk
    c.requires.some c.last_gate-gate.ensures
    c.in-Some.ensures.some c.go_on.ensures.waiting c.go_on.ensures.other
