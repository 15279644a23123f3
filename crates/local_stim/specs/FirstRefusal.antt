-- The first rule that the text of a stimulus breaks.
use Rattle.std.specs.Prelude.{◌≡◌, ℕ, ◌⊎◌, List, Err}
use Rattle.ja_base.specs.Runs.{Trace}
use Rattle.aig_model.specs.Netlist.{Netlist}
use Rattle.local_stim.specs.declared.refusal.StimRefusal.{StimRefusal}
use Rattle.local_stim.specs.StimulusReading.{stimulus_of}
use Rattle.local_stim.specs.StimulusText.{IsStimulusText}

-- reading line by line meets this one first
abbrev pub IsFirstRefusal : Netlist → List ℕ → StimRefusal → Type 0
IsFirstRefusal d bytes r = stimulus_of d bytes ≡ Err r

-- bytes spell a stimulus of the design, or they have a first refusal
abbrev pub SpellsOrIsRefused : Type 0
SpellsOrIsRefused = (d : Netlist) (bytes : List ℕ)
    → ((p : ℕ) × (m : Trace) × IsStimulusText d bytes p m)
    ⊎ ((r : StimRefusal) × IsFirstRefusal d bytes r)
