use Rattle.report.proofs.FormLemmas.{line_taken, no_line, other_line}
use Rattle.report.proofs.SectionLemmas.{some_words}
use Rattle.report.proofs.DecodeLemmas.{words_words, told, untold}
use Rattle.report.proofs.take.take_words.Goals as goal

pub returns-in_default : goal.returns-in_default
returns-in_default c =
    rw c.bad.ensures (no_line (λ _. Unit {0}) (λ _. c.args.words.now) (words_words c.args.words.now c.requires)
    (some_words c.args.words.now) c.args.bytes.now c.in_default.ensures.read)

pub returns-then-not-is_line : goal.returns-then-not-is_line
returns-then-not-is_line c =
    let other = untold c.is_line.result c.if-not-is_line.true c.is_line.ensures in
    rw c.bad-then-not-is_line.ensures
    (other_line (λ _. Unit {0}) (λ _. c.args.words.now) (words_words c.args.words.now c.requires) (some_words c.args.words.now)
    c.args.bytes.now c.in-Some.line.now c.in-Some.rest.now c.in-Some.ensures.read (λ _ _ e. other e))

pub returns : goal.returns
returns c =
    line_taken (λ _. Unit {0}) (λ _. c.args.words.now) c.args.bytes.now c.in-Some.line.now c.in-Some.rest.now tt
    c.in-Some.ensures.read tt
    (told c.is_line.result c.if-not-is_line.false c.is_line.ensures)
