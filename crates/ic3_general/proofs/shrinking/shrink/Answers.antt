use Rattle.std.proofs.Common.{subst}
use Rattle.ja_base.specs.Circuit.{Problem}
use Rattle.aig_model.specs.Task.{problem}
use Rattle.ic3_query.specs.Known.{IsKnown, all_of}
use Rattle.ic3_general.proofs.CutLemmas.{shrunk_by_cut}
use Rattle.ic3_general.proofs.ShrinkLemmas.{kept_alone}
use Rattle.ic3_general.proofs.shrinking.shrink.Goals as goal

pub try_all-requires-clause-first : goal.try_all-requires-clause-first
try_all-requires-clause-first g c =
    shrunk_by_cut c.args.coded.now (all_of c.args.known.now) c.args.frames.now c.args.level c.args.clause.now c.args.core.now
    c.in_ok-first.first c.requires.blocked c.in_ok-first.ensures

pub returns-clause-alone : goal.returns-clause-alone
returns-clause-alone g c blocked low =
    let known : IsKnown (problem c.args.coded.now) (all_of c.args.known.now) =
    subst (λ (t : Problem). IsKnown t (all_of c.args.known.now)) c.requires.task c.own-known.ensures.known in
    kept_alone c.args.coded.now (all_of c.args.known.now) c.args.frames.now c.args.level c.in_ok-part.part known
    c.in_ok-part.ensures.shrunk.kept blocked low
