use Rattle.std.proofs.Common.{true, false}
use Rattle.sat_watch.specs.declared.front.Front.{Front}
use Rattle.sat_watch.proofs.FrontLemmas.{front_back}
use Rattle.sat_watch.proofs.front.Front.retreat.Goals as goal

pub returns-in-Some : goal.returns-in-Some
returns-in-Some c = λ vars store w lits h end.
    let u : Front = c.unmark.new.self in
    let new : Front = record { marks = u.marks; log = u.log; head = c.in-Some.head; seen = c.in-Some.seen; dirty = false } in
    front_back vars store w lits c.args.self.now new c.args.to c.args.len end c.requires.to c.unmark.ensures.width
    c.unmark.ensures.fewer c.unmark.ensures.gone c.unmark.ensures.log (λ _. c.in-Some.ensures.1) h

pub returns-in-None : goal.returns-in-None
returns-in-None c = λ vars store w lits h end.
    let u : Front = c.unmark.new.self in
    let new : Front = record { marks = u.marks; log = u.log; head = u.head; seen = u.seen; dirty = true } in
    front_back vars store w lits c.args.self.now new c.args.to c.args.len end c.requires.to c.unmark.ensures.width
    c.unmark.ensures.fewer c.unmark.ensures.gone c.unmark.ensures.log (λ f. cc) h
