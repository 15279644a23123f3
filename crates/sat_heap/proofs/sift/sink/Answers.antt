use Rattle.std.proofs.Common.{ℕ, List, length, ◌∙◌, arith}
use Rattle.sat_heap.specs.Orders.{IsMoreBelow, key}
use Rattle.sat_heap.proofs.HeapLemmas.{IsTurned, turned_inverse, turned_inside, turned_sinks}
use Rattle.sat_heap.proofs.sift.sink.Goals as goal

pub loop-lower-preserved : goal.loop-lower-preserved
loop-lower-preserved c =
    let activity : List ℕ = c.args.activity.now in
    let vars : List ℕ = c.loop-lower.order.vars.items in
    let places : List ℕ = c.loop-lower.order.places.items in
    let vars' : List ℕ = c.exchange.new.order.vars.items in
    let places' : List ℕ = c.exchange.new.order.places.items in
    let i : ℕ = c.loop-lower.place in
    let p : ℕ = c.in-Some.lower in
    let h = c.loop-lower.invariant in
    let more : IsMoreBelow c.args.len (key activity vars) i p = c.in-Some.ensures.some in
    let low = more.lower in
    let within = more.within in
    let fits = c.requires.len in
    let turned : IsTurned (length activity) c.args.len vars places vars' places' i p =
    record {
      inverse = h.inverse;
      within_i = omega arith;
      within_j = omega arith;
      exchanged = c.exchange.ensures.vars;
      moved = c.exchange.ensures.places;
      again = c.exchange.ensures.inverse;
    } in
    record {
      inverse = turned_inverse (length activity) c.args.len vars places vars' places' i p turned;
      within = omega arith;
      sinking = turned_sinks (length activity) c.args.len activity vars places vars' places' i p turned h.sinking more;
      inside =
          turned_inside (length activity) c.args.len vars places vars' places' i p turned (omega arith) (omega arith) ∙ h.inside;
    }
