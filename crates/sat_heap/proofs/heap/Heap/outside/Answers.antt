use Rattle.std.proofs.Common.{rules, length, ◌≡◌, ℕ, ◌<◌, ◌^◌, List, [], ◌∷◌, ◌++◌, ap, ◌∙◌, arith}
use Rattle.std.proofs.lemmas.Bool.Decides.{nat_tests}
use Rattle.sat_heap.proofs.HeapLemmas.{outside_kept}
use Rattle.sat_heap.proofs.heap.Heap.outside.Goals as goal

pub invariant_of-self-2 : goal.invariant_of-self-2
invariant_of-self-2 c =
    let room : c.len-var.result < 2 ^ 31 = let b = c.if-var-ge-MOST_VARS.false in grind (arith, nat_tests) in
    let count : c.len-var.result ≡ length c.self.inside.activity.items = search rules in
    outside_kept c.self.inside.len c.len-var.result c.self.inside.order.vars.items c.self.inside.order.places.items
    c.self.inside.activity.items c.add.new.order.vars.items c.add.new.order.places.items c.push_reserved.new.self.items
    c.self.invariant count room c.in_ok-add.ensures.vars c.in_ok-add.ensures.places
    (c.push_reserved.ensures.items ∙ ap (λ (v : List ℕ). v ++ 0 ∷ []) c.in_ok-reserve.ensures.items)
