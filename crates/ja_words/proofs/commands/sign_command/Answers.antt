use Rattle.std.proofs.Common.{sym, ◌∙◌}
use Rattle.ja_words.proofs.CommandLemmas.{sign_app_is, with_same}
use Rattle.ja_words.proofs.commands.sign_command.Goals as goal

pub returns : goal.returns
returns c =
    c.in_ok-command-5.ensures
    ∙ with_same _ _ _ _ (c.in_ok-command-4.ensures
    ∙ with_same _ _ _ _ (c.in_ok-command-3.ensures
    ∙ with_same _ _ _ _ (c.in_ok-command-2.ensures
    ∙ with_same _ _ _ _ c.in_ok-command.ensures c.option.ensures.rule) c.option-2.ensures.rule)
    c.switch.ensures.rule) c.switch-2.ensures.rule
    ∙ sym sign_app_is
