use Rattle.ic3_query.proofs.KnownViews.{join_view}
use Rattle.ic3_query.proofs.known.Known.join.Goals as goal

pub invariant_of-self-2 : goal.invariant_of-self-2
invariant_of-self-2 c =
    join_view c.args.self.now c.self.inside.list.task c.self.inside.list.clauses c.self.inside.own c.self.view_is c.self.invariant
    c.push.new.self c.args.clause c.requires.own c.requires.good c.in_ok-push.ensures.ok
