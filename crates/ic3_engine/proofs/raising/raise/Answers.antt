use Rattle.std.proofs.Common.{subst}
use Rattle.ja_base.specs.Circuit.{Problem}
use Rattle.ic3_query.specs.Known.{IsKnown, all_of}
use Rattle.ic3_engine.proofs.RaiseLemmas.{put_core, raised_by}
use Rattle.ic3_engine.proofs.raising.raise.Goals as goal

pub push_all-requires-clause-core : goal.push_all-requires-clause-core
push_all-requires-clause-core g c =
    let is = subst (λ (q : Problem). IsKnown q (all_of c.args.z.now.known)) c.requires.task c.put_known.ensures.known in
    put_core c.args.coded.now (all_of c.args.z.now.known) c.args.z.now.frames c.grow.new.frames c.put_known.new.frames _ _ _ _ is
    c.requires.search.core c.in_ok-grow.ensures.frames c.in_ok-grow.ensures.serves c.put_known.ensures.top c.in_ok-put_known.ensures.kept

pub returns-clause-raised : goal.returns-clause-raised
returns-clause-raised g c =
    let is = subst (λ (q : Problem). IsKnown q (all_of c.args.z.now.known)) c.requires.task c.put_known.ensures.known in
    rw c.push_all.ensures.known (rw c.push_all.ensures.queue
    (raised_by c.args.coded.now c.args.z.now.known c.args.z.now.frames c.grow.new.frames c.put_known.new.frames c.push_all.new.z.frames
    c.args.z.now.queue _ _ _ _ is c.requires.search.core c.in_ok-grow.ensures.frames c.put_known.ensures.top
    c.in_ok-put_known.ensures.kept c.in_ok-push_all.ensures.pushes))
