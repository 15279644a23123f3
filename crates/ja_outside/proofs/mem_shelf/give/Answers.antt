use Rattle.std.proofs.Common.{◌≡◌, ℕ, ◌+◌, List, ◌++◌, take, drop, sym, ◌∙◌, ap, arith}
use Rattle.std.proofs.lemmas.Grind.{common_steps}
use Rattle.std.proofs.lemmas.List.{take-append-drop, drop-drop, nil_from_length, length-drop, length-take, length-append}
use Rattle.ja_outside.proofs.mem_shelf.give.Goals as goal

-- a list from a place on is what was moved, and then the list from the next place on
drop-moved : (file buf : List ℕ) (at n : ℕ) → take n buf ≡ take n (drop at file) → drop at file ≡ take n buf ++ drop (at + n) file
drop-moved file buf at n e = sym (take-append-drop n (drop at file)) ∙ ap (λ front. front ++ drop n (drop at file)) (sym e)
    ∙ ap (λ rest. take n buf ++ rest) (drop-drop n at file)

pub returns-clause-moved : goal.returns-clause-moved
returns-clause-moved c =
    let n = c.min-given.result in
    let file = c.args.file.now in
    let at = c.args.at in
    let copied = c.copy_from_slice.ensures.after in
    let front : take n (c.copy_from_slice.new.self ++ drop n c.args.buf.now) ≡ take n (drop at file) = grind
    (arith, common_steps) in (
      drop-moved file _ at n front,
      λ z h. nil_from_length _ (omega (arith, length-drop {A = ℕ}, length-append {A = ℕ}, length-take {A = ℕ})),
    )
