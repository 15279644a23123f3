use Rattle.std.proofs.Common.{◌≡◌, ℕ, ◌+◌, ◌*◌, ◌%◌, ◌^◌, List, [], ◌∷◌, ◌++◌, bit_or, take, sym, ap, ◌∙◌, subst}
use Rattle.std.proofs.lemmas.List.{take_more}
use Rattle.ic3_frames.specs.Marks.{IsMark}
use Rattle.ic3_frames.proofs.MarkLemmas.{IsMark-none, IsMark-more}
use Rattle.ic3_frames.proofs.mark.mark_of.Goals as goal

pub loop-lit-init : goal.loop-lit-init
loop-lit-init c = IsMark-none

pub loop-lit-preserved : goal.loop-lit-preserved
loop-lit-preserved c =
    let lits : List ℕ = c.args.lits.now in
    let at : ℕ = c.loop-lit.lit-index in
    let lit : ℕ = c.lit-item.result in
    let read : take (at + 1) lits ≡ take at lits ++ lit ∷ [] =
    take_more lits at lit c.loop-lit-test.true ∙ ap (λ (x : ℕ). take at lits ++ x ∷ []) (sym c.lit-item.is) in
    let P : ℕ → Type 0 = λ n. IsMark (take (at + 1) lits) (bit_or c.loop-lit.mark (1 * 2 ^ (n % 64) % 2 ^ 64)) in
    let Q : List ℕ → Type 0 = λ xs. IsMark xs (bit_or c.loop-lit.mark (1 * 2 ^ (lit % 64) % 2 ^ 64)) in
    subst P (sym c.number.ensures) (subst Q (sym read) (IsMark-more (take at lits) c.loop-lit.mark lit c.loop-lit.invariant))
