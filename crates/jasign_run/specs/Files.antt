-- What a file of a command gives, and why it gives nothing. `held` is what each name of the shelf holds, if the shelf tells;
-- `before` and `after` are counts of faults.
use Rattle.std.specs.Prelude.{◌≡◌, ℕ, ◌≤◌, ◌⊎◌, ⊤, Bool, true, List, length, replicate, Option, Some, None, MatchOption}
use Rattle.ja_base.specs.Runs.{Trace}
use Rattle.ja_outside.specs.Faults.{Rose}
use Rattle.ja_outside.specs.Shelf.{Held, IsWhole, IsLonger, Lacks}
use Rattle.aig_model.specs.Netlist.{Netlist, circuit, IsSound}
use Rattle.aiger_lines.specs.declared.limits.TheConstants as design_limit
use Rattle.aiger_lines.specs.declared.refusal.Large.TheVariants.{File}
use Rattle.aiger_lines.specs.declared.refusal.ReadRefusal.{ReadRefusal}
use Rattle.aiger_lines.specs.declared.refusal.ReadRefusal.TheVariants as design_refusals
use Rattle.expect_file.specs.ExpectationsText.{IsExpectations}
use Rattle.expect_file.specs.FirstRefusal as expect
use Rattle.expect_file.specs.declared.limits.TheConstants as expect_limit
use Rattle.expect_file.specs.declared.refusal.ExpectRefusal.{ExpectRefusal}
use Rattle.expect_file.specs.declared.refusal.ExpectRefusal.TheVariants as expect_refusals
use Rattle.local_stim.specs.StimulusText.{IsStimulusText}
use Rattle.local_stim.specs.FirstRefusal as stimulus
use Rattle.local_stim.specs.declared.limits.TheConstants as stimulus_limit
use Rattle.local_stim.specs.declared.refusal.StimRefusal.{StimRefusal}
use Rattle.local_stim.specs.declared.refusal.StimRefusal.TheVariants as stimulus_refusals
use Rattle.jasign_run.specs.declared.outcome.Stop.{Stop}
use Rattle.jasign_run.specs.declared.outcome.Stop.TheVariants.{DesignRefused, StimulusRefused, ExpectRefused, Usage, Outside, Memory}
use Rattle.jasign_run.specs.Designs.{IsDesign}
use Rattle.jasign_run.specs.Designs as design

-- the file was read to its end, and these are its bytes, which are at most so many
pub record IsRead (held : Held) (name : List ℕ) (most : ℕ) (bytes : List ℕ) : Type 0 where
  pub whole : IsWhole held name bytes
  pub small : length bytes ≤ most

-- the file was read to its end, and the fact holds of its bytes
pub record HasBytes (held : Held) (name : List ℕ) (most : ℕ) (P : List ℕ → Type 0) : Type 0 where
  pub bytes : List ℕ
  pub read : IsRead held name most bytes
  pub fact : P bytes

-- a file could not be read: a fault was counted, or the shelf holds nothing under the name
abbrev pub FailsToRead : Held → ℕ → ℕ → List ℕ → Type 0
FailsToRead held before after name = Rose before after ⊎ Lacks held name

-- the file is refused: this is the first rule that its bytes break, or it is longer than what is read
abbrev pub IsRefused : {R : Type 0} → Held → List ℕ → ℕ → R → (List ℕ → R → Type 0) → R → Type 0
IsRefused held name most too_large IsFirst refusal =
    HasBytes held name most (λ bytes. IsFirst bytes refusal)
    ⊎ (IsLonger held name most × (refusal ≡ too_large))

-- Why a file gives nothing: it is refused, where `refusal_of` finds a refusal of its kind, or it could not be read, or memory was
-- wanting. No other stop comes of a file.
abbrev pub GivesNothing : {R : Type 0} → Held → ℕ → ℕ → List ℕ → ℕ → R → (List ℕ → R → Type 0)
    → (Stop → Option R) → Stop → Type 0
GivesNothing held before after name most too_large IsFirst refusal_of Outside =
    FailsToRead held before after name
GivesNothing held before after name most too_large IsFirst refusal_of Memory = ⊤
GivesNothing held before after name most too_large IsFirst refusal_of Usage = ⊥
GivesNothing held before after name most too_large IsFirst refusal_of (DesignRefused r) =
    MatchOption (refusal_of (DesignRefused r)) ⊥ (IsRefused held name most too_large IsFirst)
GivesNothing held before after name most too_large IsFirst refusal_of (StimulusRefused r) =
    MatchOption (refusal_of (StimulusRefused r)) ⊥ (IsRefused held name most too_large IsFirst)
GivesNothing held before after name most too_large IsFirst refusal_of (ExpectRefused r) =
    MatchOption (refusal_of (ExpectRefused r)) ⊥ (IsRefused held name most too_large IsFirst)

-- the refusal of a design, if it is one
abbrev pub design_refusal : Stop → Option ReadRefusal
design_refusal (DesignRefused refusal) = Some refusal
design_refusal stop = None

-- the refusal of a stimulus, if it is one
abbrev pub stimulus_refusal : Stop → Option StimRefusal
stimulus_refusal (StimulusRefused refusal) = Some refusal
stimulus_refusal stop = None

-- the refusal of expectations, if it is one
abbrev pub expect_refusal : Stop → Option ExpectRefusal
expect_refusal (ExpectRefused refusal) = Some refusal
expect_refusal stop = None

-- the file is a design, and it is this one
abbrev pub IsDesignFile : Held → List ℕ → Netlist → Type 0
IsDesignFile held name d =
    HasBytes held name design_limit.MOST_BYTES (λ bytes. IsDesign bytes (circuit d) × IsSound d)

-- why the design file gives no design
abbrev pub NoDesign : Held → ℕ → ℕ → List ℕ → Stop → Type 0
NoDesign held before after name stop =
    GivesNothing held before after name design_limit.MOST_BYTES (design_refusals.TooLarge File)
    design.IsFirstRefusal design_refusal stop

-- the file is a stimulus for the design: of this property, with these rows
abbrev pub IsStimulusFile : Held → List ℕ → Netlist → ℕ → Trace → Type 0
IsStimulusFile held name d prop m =
    HasBytes held name stimulus_limit.MOST_BYTES (λ bytes. IsStimulusText d bytes prop m)

-- why the stimulus file gives no stimulus for the design
abbrev pub NoStimulus : Held → ℕ → ℕ → List ℕ → Netlist → Stop → Type 0
NoStimulus held before after name d stop =
    GivesNothing held before after name stimulus_limit.MOST_BYTES stimulus_refusals.TooLarge
    (stimulus.IsFirstRefusal d) stimulus_refusal stop

-- the file says for each property of the design whether it is expected to hold
abbrev pub IsExpectFile : Held → List ℕ → Netlist → List Bool → Type 0
IsExpectFile held name d expected =
    HasBytes held name expect_limit.MOST_BYTES (λ bytes. IsExpectations d bytes expected)

-- why the file of expectations gives none for the design
abbrev pub NoExpectations : Held → ℕ → ℕ → List ℕ → Netlist → Stop → Type 0
NoExpectations held before after name d stop =
    GivesNothing held before after name expect_limit.MOST_BYTES expect_refusals.TooLarge
    (expect.IsFirstRefusal d) expect_refusal stop

-- what is expected of each property: what the file says, and where none is named, that each holds
abbrev pub IsExpected : Held → Option (List ℕ) → Netlist → List Bool → Type 0
IsExpected held None d expected = expected ≡ replicate (length d.bads) true
IsExpected held (Some name) d expected = IsExpectFile held name d expected

-- why nothing is known to be expected: by the file, and where none is named, for want of memory alone
abbrev pub NothingExpected : Held → ℕ → ℕ → Option (List ℕ) → Netlist → Stop → Type 0
NothingExpected held before after None d stop = stop ≡ Memory
NothingExpected held before after (Some name) d stop = NoExpectations held before after name d stop

-- no call of the outside failed, unless the run stops for that reason or for want of memory
abbrev pub IsQuietStop : ℕ → ℕ → Stop → Type 0
IsQuietStop before after Outside = ⊤
IsQuietStop before after Memory = ⊤
IsQuietStop before after Usage = after ≡ before
IsQuietStop before after (DesignRefused refusal) = after ≡ before
IsQuietStop before after (StimulusRefused refusal) = after ≡ before
IsQuietStop before after (ExpectRefused refusal) = after ≡ before
