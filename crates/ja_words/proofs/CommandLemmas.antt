-- What the commands are, and that clap's words on simple commands hold of them.
use Rattle.std.proofs.Common.{◌≡◌, ℕ, true, false, List, ap, refl, sym, subst, ◌∙◌, codes}
use Rattle.clap.specs.Words.{App, Rule, is_simple, is_simple_and_free, with_rule}
use Rattle.ja_words.specs.Commands.{bare_command, confirm_app, demo_app, sign_app, sign_files, positional, option, switch}

pub confirm_app_is : confirm_app ≡ with_rule (with_rule (with_rule (bare_command (codes "confirm")) (positional (codes "design") true))
    (positional (codes "stim") true)) (positional (codes "expect") false)
unfolding confirm_app
confirm_app_is = refl

pub sign_app_is : sign_app ≡ with_rule (with_rule (with_rule (with_rule sign_files (option (codes "workers")))
    (option (codes "budget"))) (switch (codes "fail-fast"))) (switch (codes "journal"))
unfolding sign_app
sign_app_is = refl

pub confirm_is_simple : is_simple confirm_app ≡ true
unfolding confirm_app
confirm_is_simple = refl

pub confirm_is_free : is_simple_and_free confirm_app ≡ true
unfolding confirm_app
confirm_is_free = refl

pub sign_is_simple : is_simple sign_app ≡ true
unfolding sign_app
sign_is_simple = refl

pub sign_is_free : is_simple_and_free sign_app ≡ true
unfolding sign_app
sign_is_free = refl

pub demo_app_is : demo_app ≡ with_rule (with_rule (bare_command (codes "demo")) (positional (codes "n") true))
    (option (codes "workers"))
unfolding demo_app
demo_app_is = refl

pub demo_is_simple : is_simple demo_app ≡ true
unfolding demo_app
demo_is_simple = refl

pub demo_is_free : is_simple_and_free demo_app ≡ true
unfolding demo_app
demo_is_free = refl

pub with_same : (a b : App) (r q : Rule) → a ≡ b → r ≡ q → with_rule a r ≡ with_rule b q
with_same a b r q e d = ap (λ x. with_rule x r) e ∙ ap (with_rule b) d
