use Rattle.std.proofs.Common.{ℕ, ◌<◌, List, length, ◌∙◌, arith}
use Rattle.sat_heap.specs.Orders.{IsLessAbove, key}
use Rattle.sat_heap.proofs.KeyLemmas.{above_less}
use Rattle.sat_heap.proofs.HeapLemmas.{IsTurned, turned_inverse, turned_inside, turned_rises}
use Rattle.sat_heap.proofs.sift.rise.Goals as goal

pub loop-upper-preserved : goal.loop-upper-preserved
loop-upper-preserved c =
    let activity : List ℕ = c.args.activity.now in
    let vars : List ℕ = c.loop-upper.order.vars.items in
    let places : List ℕ = c.loop-upper.order.places.items in
    let vars' : List ℕ = c.exchange.new.order.vars.items in
    let places' : List ℕ = c.exchange.new.order.places.items in
    let i : ℕ = c.loop-upper.place in
    let p : ℕ = c.in-Some.upper in
    let h = c.loop-upper.invariant in
    let less : IsLessAbove (key activity vars) i p = c.in-Some.ensures.some in
    let low : p < i = let e = less.is in let l = above_less i less.some in omega arith in
    let within = h.within in
    let fits = c.requires.len in
    let turned : IsTurned (length activity) c.args.len vars places vars' places' i p =
    record {
      inverse = h.inverse;
      within_i = omega arith;
      within_j = omega arith;
      exchanged = c.exchange.ensures.vars;
      moved = c.exchange.ensures.places;
      again = c.exchange.ensures.inverse;
    } in
    record {
      inverse = turned_inverse (length activity) c.args.len vars places vars' places' i p turned;
      within = omega arith;
      rising = turned_rises (length activity) c.args.len activity vars places vars' places' i p turned h.rising h.within less;
      inside =
          turned_inside (length activity) c.args.len vars places vars' places' i p turned (omega arith) (omega arith) ∙ h.inside;
    }
