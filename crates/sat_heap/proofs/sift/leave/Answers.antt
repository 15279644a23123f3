use Rattle.std.proofs.Common.{◌≡◌, ℕ, ◌-◌, false, List, length, get_or, set, refl, sym, ap, ◌∙◌, arith}
use Rattle.std.proofs.lemmas.List.{get_or_read}
use Rattle.sat_heap.specs.Orders.{inside_of}
use Rattle.sat_heap.proofs.PlaceLemmas.{left}
use Rattle.sat_heap.proofs.HeapLemmas.{IsTurned, turned_inverse, greatest_is_first}
use Rattle.sat_heap.proofs.sift.leave.Goals as goal

pub returns-clause-greatest : goal.returns-clause-greatest
returns-clause-greatest c = λ u inside.
    let activity : List ℕ = c.args.activity.now in
    let vars : List ℕ = c.args.order.now.vars.items in
    let h = c.requires.heap in
    let within = h.within in
    let some = c.requires.some in
    let wide = h.inverse.vars_len in
    let read : c.index-var.result.now ≡ get_or vars 0 0 =
    get_or_read vars 0 c.index-var.result.now (omega arith) c.index-var.ensures 0 in
    let same : get_or activity c.index-var.result.now 0 ≡ get_or activity (get_or vars 0 0) 0 =
    ap (λ v. get_or activity v 0) read in
    let most = greatest_is_first c.args.len vars c.args.order.now.places.items activity h u inside in
    omega arith

pub returns-clause-inside : goal.returns-clause-inside
returns-clause-inside c =
    let n : ℕ = length c.args.activity.now in
    let vars : List ℕ = c.args.order.now.vars.items in
    let places : List ℕ = c.args.order.now.places.items in
    let vars' : List ℕ = c.exchange.new.order.vars.items in
    let places' : List ℕ = c.exchange.new.order.places.items in
    let len : ℕ = c.args.len in
    let last : ℕ = len - 1 in
    let h = c.requires.heap.inverse in
    let within = c.requires.heap.within in
    let some = c.requires.some in
    let wide = h.vars_len in
    let read : c.index-var.result.now ≡ get_or vars 0 0 =
    get_or_read vars 0 c.index-var.result.now (omega arith) c.index-var.ensures 0 in
    let turned : IsTurned n len vars places vars' places' 0 last =
    record {
      inverse = h;
      within_i = omega arith;
      within_j = omega arith;
      exchanged = c.exchange.ensures.vars;
      moved = c.exchange.ensures.places;
      again = c.exchange.ensures.inverse;
    } in
    let new = turned_inverse n len vars places vars' places' 0 last turned in
    c.sink.ensures.inside
    ∙ left n len vars places places' 0 last h turned.within_i turned.within_j new.places_len turned.moved refl (omega arith)
    ∙ ap (λ u. set (inside_of len places) u false) (sym read)
