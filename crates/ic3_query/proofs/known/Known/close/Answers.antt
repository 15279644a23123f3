use Rattle.ic3_query.proofs.KnownViews.{candidates_view, close_view}
use Rattle.ic3_query.proofs.known.Known.close.Goals as goal

pub certify-requires-clause-candidates : goal.certify-requires-clause-candidates
certify-requires-clause-candidates g c =
    candidates_view c.args.self.now c.self.inside.list.task c.self.inside.list.clauses c.self.inside.own c.self.view_is
    c.self.invariant
    c.args.coded.now c.requires.task

pub invariant_of-self-2 : goal.invariant_of-self-2
invariant_of-self-2 g c =
    close_view c.args.self.now c.self.inside.list.task c.self.inside.list.clauses c.self.inside.own c.self.view_is
    c.self.invariant c.args.coded.now c.certify.new.list c.new.result c.requires.task c.in_ok-certify.ensures.closed
    c.new.ensures
