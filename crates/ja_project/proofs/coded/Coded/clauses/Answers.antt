use Rattle.ja_project.proofs.CodingLemmas.{seen_as, clauses_mean, clauses_below}
use Rattle.ja_project.proofs.coded.Coded.clauses.Goals as goal

pub returns-clause-meaning : goal.returns-clause-meaning
returns-clause-meaning c =
    let inside = c.self.inside in
    clauses_mean c.args.self.now inside.clauses inside.held inside.nexts.items
    (seen_as inside.task c.args.self.now inside.clauses inside.held inside.nexts.items c.self.invariant c.self.view_is)

pub returns-clause-below : goal.returns-clause-below
returns-clause-below c =
    let inside = c.self.inside in
    clauses_below c.args.self.now inside.clauses inside.held inside.nexts.items
    (seen_as inside.task c.args.self.now inside.clauses inside.held inside.nexts.items c.self.invariant c.self.view_is)
