-- The commands as their arguments: what `clap` reads the words by.
use Rattle.std.specs.Prelude.{ℕ, Bool, true, false, List, Some, codes}
use Rattle.clap.specs.Words.{App, Rule, new_app, new_rule, with_rule}
use Rattle.clap.specs.Simple.{on_top}
use Rattle.clap.specs.declared.builder.action.ArgAction.TheVariants.{Set, SetTrue}

-- a command whose words come without the program's name; it has no help and no version
abbrev pub bare_command : List ℕ → App
bare_command name = on_top
    (λ s. record s { no_binary_name = true; disable_help_flag = true; disable_version_flag = true })
    (new_app name)

-- a word by its place
abbrev pub positional : List ℕ → Bool → Rule
positional id required = record (new_rule id) { required = required; action = Some Set }

-- a word behind `--id`
abbrev pub option : List ℕ → Rule
option id = record (new_rule id) { long = Some id; action = Some Set }

-- `--id` alone
abbrev pub switch : List ℕ → Rule
switch id = record (new_rule id) { long = Some id; action = Some SetTrue }

-- `confirm DESIGN STIM [EXPECT]`
unfoldable pub confirm_app : App
confirm_app = with_rule (with_rule (with_rule (bare_command (codes "confirm"))
    (positional (codes "design") true)) (positional (codes "stim") true))
    (positional (codes "expect") false)

-- `demo N [--workers N]`
unfoldable pub demo_app : App
demo_app = with_rule (with_rule (bare_command (codes "demo")) (positional (codes "n") true))
    (option (codes "workers"))

-- `sign DESIGN [EXPECT]`
abbrev pub sign_files : App
sign_files = with_rule (with_rule (bare_command (codes "sign")) (positional (codes "design") true))
    (positional (codes "expect") false)

-- `sign DESIGN [EXPECT] [--workers N] [--budget N] [--fail-fast] [--journal]`
unfoldable pub sign_app : App
sign_app = with_rule (with_rule (with_rule (with_rule sign_files (option (codes "workers")))
    (option (codes "budget"))) (switch (codes "fail-fast"))) (switch (codes "journal"))
