use Rattle.sat_watch.proofs.StepLemmas.{forced_chain}
use Rattle.sat_watch.proofs.propagate.look_through.Goals as goal

pub returns-in-Done-clause-grown : goal.returns-in-Done-clause-grown
returns-in-Done-clause-grown c =
    forced_chain c.args.trail.now.places c.look.new.trail.places c.look_to_the_end.new.trail.places c.look.ensures.grown
    c.look_to_the_end.ensures.grown
