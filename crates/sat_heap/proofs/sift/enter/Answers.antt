use Rattle.std.proofs.Common.{◌≡◌, ℕ, ◌≤◌, true, List, length, get_or, set, refl, sym, ap, ◌∙◌, arith}
use Rattle.std.proofs.lemmas.List.{get_or_read}
use Rattle.sat_heap.specs.Orders.{inside_of}
use Rattle.sat_heap.proofs.PlaceLemmas.{entered, inside_at, false_le}
use Rattle.sat_heap.proofs.HeapLemmas.{IsTurned, turned_inverse}
use Rattle.sat_heap.proofs.sift.enter.Goals as goal

pub returns-clause-inside : goal.returns-clause-inside
returns-clause-inside c =
    let n : ℕ = length c.args.activity.now in
    let vars : List ℕ = c.args.order.now.vars.items in
    let places : List ℕ = c.args.order.now.places.items in
    let vars' : List ℕ = c.exchange.new.order.vars.items in
    let places' : List ℕ = c.exchange.new.order.places.items in
    let v : ℕ = c.args.var in
    let i : ℕ = c.index-place.result.now in
    let len : ℕ = c.args.len in
    let h = c.requires.heap.inverse in
    let var = c.requires.var in
    let wide = h.places_len in
    let read : i ≡ get_or places v 0 = get_or_read places v i (omega arith) c.index-place.ensures 0 in
    let r = (h.of_var v var).0 in
    let out : len ≤ get_or places v 0 =
    false_le (get_or places v 0) len (sym (inside_at len places v (omega arith)) ∙ c.requires.out) in
    let back : get_or vars i 0 ≡ v = ap (λ k. get_or vars k 0) read ∙ (h.of_var v var).1 in
    let turned : IsTurned n len vars places vars' places' i len =
    record {
      inverse = h;
      within_i = omega arith;
      within_j = omega arith;
      exchanged = c.exchange.ensures.vars;
      moved = c.exchange.ensures.places;
      again = c.exchange.ensures.inverse;
    } in
    let new = turned_inverse n len vars places vars' places' i len turned in
    c.rise.ensures.inside
    ∙ entered n len vars places places' i len h turned.within_i turned.within_j new.places_len turned.moved refl (omega arith)
    ∙ ap (λ u. set (inside_of len places) u true) back
