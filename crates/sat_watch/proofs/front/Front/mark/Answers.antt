use Rattle.std.proofs.Common.{◌≡◌, Some, length, refl, set, ap, arith}
use Rattle.std.specs.Vec.{with_item}
use Rattle.sat_watch.specs.declared.front.Front.{Front}
use Rattle.sat_watch.proofs.FrontLemmas.{front_marked}
use Rattle.sat_watch.proofs.front.Front.mark.Goals as goal

pub returns : goal.returns
returns c = λ vars store w lits h end safe.
    let old : Front = c.args.self.now in
    let new : Front =
    record { marks = with_item old.marks c.args.len (Some c.len.result); log = old.log; head = old.head; seen = old.seen; dirty = old.dirty } in
    let len : c.len.result ≡ length old.log.items = omega (arith, c.len.ensures) in
    front_marked vars store w lits old new c.args.len end (ap (λ n. set old.marks.items c.args.len (Some n)) len)
    refl refl refl refl safe h
