use Rattle.std.proofs.Common.{refl}
use Rattle.sat_watch.specs.declared.front.Front.{Front}
use Rattle.sat_watch.proofs.FrontLemmas.{front_wider}
use Rattle.sat_watch.proofs.front.Front.fresh.Goals as goal

pub returns-clause-ok : goal.returns-clause-ok
returns-clause-ok c = λ vars wider store w lits most h.
    let old : Front = c.args.self.now in
    let new : Front =
    record { marks = c.push.new.self; log = old.log; head = old.head; seen = old.seen; dirty = old.dirty } in
    front_wider vars wider store w lits old new most c.in_ok-push.ensures.items refl refl refl refl h
