use Rattle.std.proofs.Common.{ap, ◌∙◌}
use Rattle.ja_text.specs.Lines.{space_at}
use Rattle.ja_text.proofs.ByteLemmas.{space_takes, space_again}
use Rattle.ja_text.proofs.laws.space_is_exact.Goals as goal

pub returns : goal.returns
returns c = λ bytes rest. (space_takes bytes rest, λ e. ap space_at e ∙ space_again rest)
