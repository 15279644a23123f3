use Rattle.std.proofs.Common.{ap, ◌∙◌, ◌+◌, subst}
use Rattle.ja_base.specs.Circuit.{Problem}
use Rattle.ic3_frames.specs.Levels.{Levels}
use Rattle.ic3_query.specs.Known.{IsKnown, all_of}
use Rattle.ic3_engine.proofs.StartingLemmas.{first_is_engine}
use Rattle.ic3_engine.proofs.starting.first_levels.Goals as goal

pub returns : goal.returns
returns g c =
    let is = subst (λ (q : Problem). IsKnown q (all_of c.args.known.now)) c.requires.task c.put_known.ensures.known in
    let grown = c.in_ok-grow.ensures.frames
    ∙ ap (λ (f : Levels). record { top = f.top + 1; kept = f.kept }) c.new-frames.ensures in
    record {
      engine = first_is_engine c.args.coded.now c.args.known.now c.grow.new.frames c.put_known.new.frames _ _ _ _ is c.requires.task
          c.in_ok-open.ensures grown c.in_ok-grow.ensures.serves c.put_known.ensures.top c.in_ok-put_known.ensures.kept;
    }
