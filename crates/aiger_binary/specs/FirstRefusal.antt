-- The first rule that a file breaks, with its place.
use Rattle.std.specs.Prelude.{◌≡◌, ℕ, ◌⊎◌, List, length, MatchResult}
use Rattle.ja_base.specs.Circuit.{Circuit}
use Rattle.aiger_lines.specs.declared.refusal.ReadRefusal.{ReadRefusal}
use Rattle.aiger_lines.specs.Files.{IsTailRefusal}
use Rattle.aiger_binary.specs.Grammar.{IsBinaryDesign}
use Rattle.aiger_binary.specs.Reading.{file_at}

-- The first refusal that is met up to the gates; and where there is none, a line behind them. Lists that were read make a design:
-- each variable from 1 on is defined once, and right sides are below left ones.
abbrev pub IsFirstRefusal : List ℕ → ReadRefusal → Type 0
IsFirstRefusal bytes r = MatchResult (file_at bytes) (λ f. IsTailRefusal (length bytes) f r)
    (λ e. r ≡ e)

-- bytes are a design in the binary form, or they have a first refusal
abbrev pub SpellsOrIsRefused : Type 0
SpellsOrIsRefused = (bytes : List ℕ) → ((c : Circuit) × IsBinaryDesign bytes c)
    ⊎ ((r : ReadRefusal) × IsFirstRefusal bytes r)
