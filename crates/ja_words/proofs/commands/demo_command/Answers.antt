use Rattle.std.proofs.Common.{sym, ◌∙◌}
use Rattle.ja_words.proofs.CommandLemmas.{demo_app_is, with_same}
use Rattle.ja_words.proofs.commands.demo_command.Goals as goal

pub returns : goal.returns
returns c =
    c.in_ok-command-2.ensures
    ∙ with_same _ _ _ _ (c.in_ok-command.ensures
    ∙ with_same _ _ _ _ c.bare_command-command.ensures c.positional.ensures.rule) c.option.ensures.rule
    ∙ sym demo_app_is
