use Rattle.std.proofs.Common.{◌∙◌, subst}
use Rattle.ja_base.specs.Circuit.{Problem}
use Rattle.ic3_query.specs.Known.{IsKnown, all_of}
use Rattle.ic3_engine.proofs.LearnLemmas.{learned_is_engine}
use Rattle.ic3_engine.proofs.learning.take_up.Goals as goal

pub returns-clause-engine : goal.returns-clause-engine
returns-clause-engine g c =
    let task = c.import.ensures.task ∙ c.requires.engine.task in
    let is = subst (λ (q : Problem). IsKnown q (all_of c.import.new.known)) task c.put_known.ensures.known in
    learned_is_engine c.args.coded.now c.args.z.now.known c.import.new.known c.args.more.now.clauses c.args.z.now.frames
    c.put_known.new.frames c.args.z.now.queue _ _ _ _ c.in_ok-import.ensures.list c.import.ensures.own is task
    c.in_ok-import.ensures.serves c.put_known.ensures.top c.in_ok-put_known.ensures.kept c.requires.engine
