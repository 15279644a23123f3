use Rattle.std.proofs.Common.{length}
use Rattle.ic3_query.proofs.SeenLemmas.{below_entry}
use Rattle.ic3_query.proofs.seen.holds_at.Goals as goal

pub holds_in-requires : goal.holds_in-requires
holds_in-requires c =
    below_entry c.args.frames.now.kept c.args.at (length c.args.vals.now) c.clause.result.now c.requires.within c.requires.below
    c.clause.ensures
