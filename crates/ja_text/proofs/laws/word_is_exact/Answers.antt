use Rattle.std.proofs.Common.{ap, ◌∙◌}
use Rattle.ja_text.specs.Lines.{word_at}
use Rattle.ja_text.proofs.ByteLemmas.{word_takes, word_again}
use Rattle.ja_text.proofs.laws.word_is_exact.Goals as goal

pub returns : goal.returns
returns c = λ word bytes rest. (word_takes word bytes rest, λ e. ap (word_at word) e ∙ word_again word rest)
