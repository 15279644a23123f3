-- The marks from a place on are the expected ones.
use Rattle.std.proofs.Common.{◌≡◌, ℕ, ◌+◌, ◌<◌, ◌≤◌, ◌&&◌, Bool, true, false, List, length, drop, sym, ap, ap₂, ◌∙◌, arith, get_or, add-one}
use Rattle.std.proofs.lemmas.List.{drop_all}
use Rattle.std.proofs.Math.Seq.{drop-cons}
use Rattle.ja_base.specs.Literals.{bit}
use Rattle.store_core.specs.declared.mark.Mark.{Mark}
use Rattle.debug_set.specs.Verdicts.{is_expected, are_expected}

-- those from place n on
abbrev pub expected_from : List Bool → List Mark → ℕ → Bool
expected_from assumed marks n = are_expected (drop n assumed) (drop n marks)

-- one place more
pub expected_step : (assumed : List Bool) (marks : List Mark) (n : ℕ) (d : Mark) → n < length assumed
    → length marks ≡ length assumed
    → expected_from assumed marks n ≡ (is_expected (bit assumed n) (get_or marks n d) && expected_from assumed marks (n + 1))
expected_step assumed marks n d lt long =
    ap₂ are_expected (drop-cons assumed n false lt) (drop-cons marks n d (omega (arith, lt, long)))
    ∙ ap (λ k. is_expected (bit assumed n) (get_or marks n d) && expected_from assumed marks k) (sym (add-one n))

pub expected_end : (assumed : List Bool) (marks : List Mark) (n : ℕ) → length assumed ≤ n → length marks ≡ length assumed
    → expected_from assumed marks n ≡ true
expected_end assumed marks n le long = ap₂ are_expected (drop_all n assumed le) (drop_all n marks (omega (arith, le, long)))
