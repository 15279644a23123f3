use Rattle.std.proofs.Common.{◌≡◌, ◌∙◌, ◌+◌, ◌-◌, ◌∷◌, ◌++◌, [], length, ap, arith}
use Rattle.std.specs.Prelude.{slice_set}
use Rattle.std.proofs.Math.Seq.{set-append_seam}
use Rattle.std.proofs.lemmas.List.{length-append}
use Rattle.store_core.proofs.publish.fill.Goals as goal

pub returns : goal.returns
returns c = λ before longer.
    let count : c.len-last.result ≡ length before + 1 = c.len-last.ensures ∙ ap length longer.is
    ∙ length-append before (longer.last ∷ []) in
    let at : c.len-last.result - 1 ≡ length before = omega (arith, count) in
    c.set.ensures ∙ ap (λ es. slice_set es (c.len-last.result - 1) c.args.entry) longer.is
    ∙ ap (λ n. slice_set (before ++ longer.last ∷ []) n c.args.entry) at ∙ set-append_seam before longer.last [] c.args.entry
