-- The first rule that the text of an expectations file breaks.
use Rattle.std.specs.Prelude.{◌≡◌, ℕ, ◌⊎◌, Bool, List, Err}
use Rattle.aig_model.specs.Netlist.{Netlist}
use Rattle.expect_file.specs.declared.refusal.ExpectRefusal.{ExpectRefusal}
use Rattle.expect_file.specs.ExpectationsReading.{expectations_of}
use Rattle.expect_file.specs.ExpectationsText.{IsExpectations}

-- reading line by line meets this one first
abbrev pub IsFirstRefusal : Netlist → List ℕ → ExpectRefusal → Type 0
IsFirstRefusal d bytes r = expectations_of d bytes ≡ Err r

-- bytes say what is expected of a design, or they have a first refusal
abbrev pub SpellsOrIsRefused : Type 0
SpellsOrIsRefused = (d : Netlist) (bytes : List ℕ)
    → ((expected : List Bool) × IsExpectations d bytes expected)
    ⊎ ((r : ExpectRefusal) × IsFirstRefusal d bytes r)
