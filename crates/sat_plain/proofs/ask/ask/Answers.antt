use Rattle.std.proofs.Common.{option_copied}
use Rattle.sat_plain.specs.Answer.{clauses_of}
use Rattle.sat_plain.proofs.StartLemmas.{search_of, answer_of}
use Rattle.sat_plain.proofs.ask.ask.Goals as goal

pub search-requires-clause-search : goal.search-requires-clause-search
search-requires-clause-search g c =
    search_of c.args.vars c.args.under.now c.in-Ready.query c.args.clauses.now.list c.start.new.clauses.list
    (option_copied c.args.extra) c.in-Ready.ensures.opened c.requires.below c.requires.extra c.in-Ready.ensures.list

pub returns-in-Ready-clause-answer : goal.returns-in-Ready-clause-answer
returns-in-Ready-clause-answer g c =
    answer_of c.args.vars c.args.under.now c.in-Ready.query c.start.new.clauses.list
    (clauses_of c.args.clauses.now.list (option_copied c.args.extra)) c.search.result c.in-Ready.ensures.opened
    c.in-Ready.ensures.list c.search.ensures.answer
