use Rattle.sat_cdcl.specs.Files.{list_of}
use Rattle.sat_cdcl.proofs.KeeperLemmas.{follows_at}
use Rattle.sat_cdcl.proofs.keep_sat.short_of.Goals as goal

pub loop-number-preserved : goal.loop-number-preserved
loop-number-preserved c = λ added follows.
    c.note.ensures.keeps c.args.db.now.watched.trail.vars added (c.loop-number.invariant added follows)
    (λ _. (
      c.numbered-clause.ensures.below,
      follows_at added (list_of c.args.db.now) c.loop-number.number c.numbered-clause.result.now follows c.numbered-clause.ensures.is,
    ))
