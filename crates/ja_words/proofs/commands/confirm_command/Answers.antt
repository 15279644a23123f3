use Rattle.std.proofs.Common.{sym, ◌∙◌}
use Rattle.ja_words.proofs.CommandLemmas.{confirm_app_is, with_same}
use Rattle.ja_words.proofs.commands.confirm_command.Goals as goal

pub returns : goal.returns
returns c =
    c.in_ok-command-3.ensures
    ∙ with_same _ _ _ _ (c.in_ok-command-2.ensures
    ∙ with_same _ _ _ _ (c.in_ok-command.ensures
    ∙ with_same _ _ _ _ c.bare_command-command.ensures c.positional.ensures.rule) c.positional-2.ensures.rule)
    c.positional-3.ensures.rule
    ∙ sym confirm_app_is
