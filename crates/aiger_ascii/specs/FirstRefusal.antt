-- The first rule that a file breaks, with its place.
use Rattle.std.specs.Prelude.{◌≡◌, ℕ, ◌⊎◌, List, ⊤, length, MatchResult}
use Rattle.ja_base.specs.Circuit.{Circuit}
use Rattle.aig_model.specs.Refusals.{MakesDesign, IsRefusal}
use Rattle.aig_model.specs.declared.netlist.Parts.{Parts}
use Rattle.aig_model.specs.declared.build.BuildRefusal.{BuildRefusal}
use Rattle.aig_model.specs.declared.build.BuildRefusal.TheVariants as build
use Rattle.aiger_lines.specs.declared.refusal.ReadRefusal.{ReadRefusal}
use Rattle.aiger_lines.specs.declared.refusal.ReadRefusal.TheVariants.{Undefined, Cycle}
use Rattle.aiger_lines.specs.Files.{IsTailRefusal}
use Rattle.aiger_ascii.specs.Grammar.{IsAsciiDesign}
use Rattle.aiger_ascii.specs.Reading.{file_at}

-- what may come behind lines that were read against each other
abbrev pub IsLate : BuildRefusal → Type 0
IsLate (build.Twice v) = ⊥
IsLate (build.Undefined v) = ⊤
IsLate (build.Cycle v) = ⊤

-- what lists are refused for, as a refusal of the file
abbrev pub Becomes : BuildRefusal → ReadRefusal → Type 0
Becomes (build.Twice v) r = ⊥
Becomes (build.Undefined v) r = r ≡ Undefined v
Becomes (build.Cycle v) r = r ≡ Cycle v

-- a variable is used and not defined, or a gate depends on itself
abbrev pub IsBuildRefusal : Parts → ReadRefusal → Type 0
IsBuildRefusal p r = (b : BuildRefusal) × IsRefusal p b × Becomes b r

-- The first refusal that is met up to the gates; where there is none, what is wrong with the lists; and where nothing is, so
-- that they make a design, with a line behind them.
abbrev pub IsFirstRefusal : List ℕ → ReadRefusal → Type 0
IsFirstRefusal bytes r = MatchResult (file_at bytes)
    (λ f. IsBuildRefusal f.parts r ⊎ (MakesDesign f.parts × IsTailRefusal (length bytes) f r))
    (λ e. r ≡ e)

-- bytes are a design in the ASCII form, or they have a first refusal
abbrev pub SpellsOrIsRefused : Type 0
SpellsOrIsRefused = (bytes : List ℕ) → ((c : Circuit) × IsAsciiDesign bytes c)
    ⊎ ((r : ReadRefusal) × IsFirstRefusal bytes r)
