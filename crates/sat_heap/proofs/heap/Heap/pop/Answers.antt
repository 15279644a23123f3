use Rattle.std.proofs.Common.{◌≡◌, ℕ, List, sym, ap, ◌∙◌, arith}
use Rattle.std.proofs.lemmas.Bool.Decides.{nat_tests}
use Rattle.ja_base.specs.Literals.{bit}
use Rattle.sat_heap.specs.Heaps.{Heaped}
use Rattle.sat_heap.specs.Orders.{inside_of}
use Rattle.sat_heap.proofs.HeapLemmas.{none_inside}
use Rattle.sat_heap.proofs.heap.Heap.pop.Goals as goal

pub returns-then-self-eq0-clause-empty : goal.returns-then-self-eq0-clause-empty
returns-then-self-eq0-clause-empty c = λ v.
    let places : List ℕ = c.self.inside.order.places.items in
    let none : c.self.inside.len ≡ 0 = let t = c.if-self-eq0.true in grind (arith, nat_tests) in
    sym (ap (λ (h : Heaped). bit h.inside v) c.self.view_is) ∙ ap (λ n. bit (inside_of n places) v) none ∙ none_inside places v
