use Rattle.std.proofs.Common.{◌++◌, sym}
use Rattle.std.specs.Prelude.{decimal}
use Rattle.report.proofs.FormLemmas.{line_taken, no_line, other_line}
use Rattle.report.proofs.SectionLemmas.{some_words}
use Rattle.report.proofs.DecodeLemmas.{words_words, IsOneLine-named, named_takes, not_named}
use Rattle.report.proofs.take.take_named.Goals as goal

pub returns-in_default : goal.returns-in_default
returns-in_default c =
    let words = c.args.word.now ++ decimal c.args.prop in
    let are = words_words words (IsOneLine-named c.args.word.now c.args.prop c.requires c.ranges.prop.fits) in
    rw c.bad.ensures (no_line (λ _. Unit {0}) (λ _. words) are (some_words words) c.args.bytes.now c.in_default.ensures.read)

pub returns-in_default-is_named : goal.returns-in_default-is_named
returns-in_default-is_named c =
    let words = c.args.word.now ++ decimal c.args.prop in
    let are = words_words words (IsOneLine-named c.args.word.now c.args.prop c.requires c.ranges.prop.fits) in
    let other = not_named c.args.word.now c.args.prop c.in-Some.line.now c.ranges.prop.fits (sym c.in_default-is_named.ensures) in
    rw c.bad-in_default-is_named.ensures
    (other_line (λ _. Unit {0}) (λ _. words) are (some_words words) c.args.bytes.now c.in-Some.line.now c.in-Some.rest.now
    c.in-Some.ensures.read (λ _ _ e. other e))

pub returns : goal.returns
returns c =
    let words = c.args.word.now ++ decimal c.args.prop in
    line_taken (λ _. Unit {0}) (λ _. words) c.args.bytes.now c.in-Some.line.now c.in-Some.rest.now tt c.in-Some.ensures.read tt
    (named_takes c.args.word.now c.args.prop c.in-Some.line.now c.in-Some-is_named._named (sym c.in-Some-is_named.ensures))
