use Rattle.ic3_query.specs.Known.{all_of}
use Rattle.ic3_engine.proofs.RaiseLemmas.{is_movable, moved_is_pushed}
use Rattle.ic3_engine.proofs.raising.move_up.Goals as goal

pub push-requires-clause-movable : goal.push-requires-clause-movable
push-requires-clause-movable g c =
    is_movable c.args.coded.now (all_of c.args.known.now) c.args.frames.now _ _ c.args.at c.args.level c.requires.core c.requires.within
    c.requires.stands

pub returns-clause-pushes : goal.returns-clause-pushes
returns-clause-pushes g c =
    moved_is_pushed c.args.coded.now (all_of c.args.known.now) c.args.frames.now c.push.new.frames _ _ _ _ c.args.at c.args.level
    c.requires.core c.requires.within c.requires.level c.requires.stands c.requires.kept c.in_ok-push.ensures.kept c.push.ensures.top
    c.in_ok-push.ensures.serves
