use Rattle.std.proofs.Common.{◌≡◌, ℕ, ◌/◌, ◌<◌, List, length, get_or, sym, ◌∙◌, arith}
use Rattle.std.proofs.lemmas.Bool.Decides.{nat_tests}
use Rattle.std.proofs.lemmas.Grind.{get_or_default_zero}
use Rattle.std.proofs.lemmas.List.{length-set}
use Rattle.std.proofs.lemmas.List.Edits.{map_over_more}
use Rattle.sat_heap.proofs.heap.halve.Goals as goal

pub loop-count-preserved : goal.loop-count-preserved
loop-count-preserved c =
    let xs : List ℕ = c.deref_mut-count-items.result.now in
    let ys : List ℕ = c.loop-count.count-items in
    let i : ℕ = c.loop-count.count-index in
    let x : ℕ = get_or ys i 0 in
    let i_less : i < length xs = let t = c.loop-count-test.true in grind (arith, nat_tests) in
    let width : length ys ≡ length xs = c.loop-count.invariant.width in
    let same : x ≡ get_or ys i x = sym (get_or_default_zero ys i x (omega arith)) in
    record {
      width = length-set ys i (x / 2) ∙ width;
      done = map_over_more (λ a. a / 2) xs ys i x i_less c.loop-count.invariant.done same;
    }
