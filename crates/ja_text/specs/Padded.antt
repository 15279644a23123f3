-- Nine places that hold up to nine numbers, the others 0.
use Rattle.std.specs.Prelude.{◌≡◌, ℕ, ◌+◌, ◌-◌, ◌≤◌, List, ◌++◌, length, take, replicate}
use Rattle.std.proofs.Common.{ap, ◌∙◌, arith, length-append}
use Rattle.std.proofs.lemmas.List.{length-take, length-replicate}

-- the numbers, and 0 in the places that are left
abbrev pub padded : List ℕ → List ℕ
padded ns = ns ++ replicate (9 - length ns) 0

pub length-front : (count : ℕ) (places : List ℕ) → count ≤ 9 → places ≡ padded (take count places)
    → length (take count places) ≡ count
length-front count places most e =
    let whole : length places ≡ length (take count places) + (9 - length (take count places)) =
    ap length e
    ∙ (length-append (take count places) (replicate (9 - length (take count places)) 0)
    ∙ ap (λ n. length (take count places) + n)
    (length-replicate (9 - length (take count places)) 0)) in
    omega (arith, length-take count places)
