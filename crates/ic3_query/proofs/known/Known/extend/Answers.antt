use Rattle.ic3_query.proofs.KnownViews.{extend_view}
use Rattle.ic3_query.proofs.known.Known.extend.Goals as goal

pub invariant_of-self-2 : goal.invariant_of-self-2
invariant_of-self-2 c =
    extend_view c.args.self.now c.self.inside.list.task c.self.inside.list.clauses c.self.inside.own c.self.view_is
    c.self.invariant
    c.append.new.self c.args.more c.requires.own c.requires.inductive c.in_ok-append.ensures.ok
