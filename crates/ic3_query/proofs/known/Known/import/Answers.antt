use Rattle.ic3_query.proofs.KnownViews.{import_view}
use Rattle.ic3_query.proofs.known.Known.import.Goals as goal

pub invariant_of-self-2 : goal.invariant_of-self-2
invariant_of-self-2 c =
    import_view c.args.self.now c.self.inside.list.task c.self.inside.list.clauses c.self.inside.own c.self.view_is
    c.self.invariant
    c.extend.new.self.task c.args.more.now.task c.extend.new.self.clauses c.args.more.now.clauses c.requires
    c.is_closed.ensures.closed c.in_ok-added.ensures.task c.in_ok-added.ensures.clauses
