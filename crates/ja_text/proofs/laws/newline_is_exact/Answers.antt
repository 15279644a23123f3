use Rattle.std.proofs.Common.{ap, ◌∙◌}
use Rattle.ja_text.specs.Lines.{newline_at}
use Rattle.ja_text.proofs.ByteLemmas.{newline_takes, newline_again}
use Rattle.ja_text.proofs.laws.newline_is_exact.Goals as goal

pub returns : goal.returns
returns c = λ bytes rest. (newline_takes bytes rest, λ e. ap newline_at e ∙ newline_again rest)
