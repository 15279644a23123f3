use Rattle.ic3_engine.proofs.raising.push_one.Goals as goal

pub move_up-requires-clause-kept : goal.move_up-requires-clause-kept
move_up-requires-clause-kept g c = c.in_ok-is_kept.ensures.kept c.if-not-branch.false
