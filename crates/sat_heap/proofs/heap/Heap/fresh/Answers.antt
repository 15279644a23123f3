use Rattle.std.proofs.Common.{ℕ, Bool, true, false, List, [], ◌∷◌, ◌++◌, length, set, ap, ◌∙◌}
use Rattle.std.proofs.lemmas.List.{get_or_push}
use Rattle.ja_base.specs.Literals.{bit}
use Rattle.sat_heap.specs.Heaps.{Heaped}
use Rattle.sat_heap.proofs.HeapLemmas.{set_last}
use Rattle.sat_heap.proofs.heap.Heap.fresh.Goals as goal

pub put-requires-clause-out : goal.put-requires-clause-out
put-requires-clause-out c =
    let old : Heaped = c.args.self.now in
    let n : ℕ = length old.activity in
    ap (λ (h : Heaped). bit h.inside c.in_ok-var.var) c.in_ok-var.ensures.ok
    ∙ ap (bit (old.inside ++ false ∷ [])) c.in_ok-var.ensures.var
    ∙ get_or_push old.inside false false n c.outside.ensures.width

pub returns-clause-ok : goal.returns-clause-ok
returns-clause-ok c =
    let old : Heaped = c.args.self.now in
    let n : ℕ = length old.activity in
    let with_inside : Heaped → List Bool → Heaped = λ h bits. record { activity = h.activity; inside = bits } in
    let mid : Heaped = record { activity = old.activity ++ 0 ∷ []; inside = old.inside ++ false ∷ [] } in
    c.put.ensures
    ∙ ap (λ (h : Heaped). with_inside h (set h.inside c.in_ok-var.var true)) c.in_ok-var.ensures.ok
    ∙ ap (λ v. with_inside mid (set mid.inside v true)) c.in_ok-var.ensures.var
    ∙ ap (with_inside mid) (set_last old.inside n false true c.outside.ensures.width)
