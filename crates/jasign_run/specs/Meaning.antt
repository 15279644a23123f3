-- What a run means: which outcome comes of the words and of what the files hold, and what is then written. `held` is what
-- each name of the shelf holds, if the shelf tells; `before` and `after` are counts of faults.
use Rattle.std.specs.Prelude.{◌≡◌, ℕ, ◌⊎◌, ⊤, Bool, List, length, Option, Some, MatchOption}
use Rattle.ja_base.specs.Runs.{Trace}
use Rattle.ja_outside.specs.Faults.{Rose}
use Rattle.ja_outside.specs.Shelf.{Held}
use Rattle.ja_outside.specs.Sink.{Appends, AppendsPart}
use Rattle.aig_model.specs.Netlist.{Netlist}
use Rattle.aig_model.specs.Task.{VerificationTask, problem}
use Rattle.local_stim.specs.Verdict.{IsVerdict}
use Rattle.local_stim.specs.declared.verdict.Confirm.{Confirm}
use Rattle.report.specs.Findings.{Findings}
use Rattle.sign_task.specs.declared.terms.Terms.{Terms}
use Rattle.sign_task.specs.SignOff.{IsSignOff}
use Rattle.jasign_run.specs.declared.outcome.Outcome.{Outcome}
use Rattle.jasign_run.specs.declared.outcome.Outcome.TheVariants.{Replayed, Signed, Demonstrated, Stopped}
use Rattle.jasign_run.specs.declared.outcome.Stop.{Stop}
use Rattle.jasign_run.specs.declared.outcome.Stop.TheVariants.{DesignRefused, StimulusRefused, ExpectRefused, Usage, Outside, Memory}
use Rattle.jasign_run.specs.Files.{IsDesignFile, NoDesign, IsStimulusFile, NoStimulus, IsExpected, NothingExpected, IsQuietStop}
use Rattle.jasign_run.specs.Demo.{Demonstrates}
use Rattle.jasign_run.specs.Lines.{outcome_text, outcome_status}
use Rattle.ja_words.specs.Words.{Names, Order, Demo, Command, ToConfirm, ToSign, ToDemo, command_of}

-- the task of a design with what is expected
abbrev pub task_of : Netlist → List Bool → VerificationTask
task_of d expected = record { design = d; expected = expected }

-- the files were accepted, and the replay has this verdict; the stimulus has so many input rows
pub record Replays (held : Held) (names : Names) (verdict : Confirm) (prop steps : ℕ) : Type 0 where
  pub netlist : Netlist
  pub trace : Trace
  pub expected : List Bool
  pub design_file : IsDesignFile held names.design netlist
  pub stimulus_file : IsStimulusFile held names.stim netlist prop trace
  pub expected_is : IsExpected held names.expect netlist expected
  pub verdict_is : IsVerdict (problem (task_of netlist expected)) prop trace verdict
  pub steps_are : steps ≡ length trace.inputs

-- the design was accepted, and the stimulus file gives no stimulus
pub record StopsAtStimulus (held : Held) (before after : ℕ) (names : Names)
    (stop : Stop) : Type 0 where
  pub netlist : Netlist
  pub design_file : IsDesignFile held names.design netlist
  pub stops : NoStimulus held before after names.stim netlist stop

-- the design and the stimulus were accepted, and the file of expectations gives none
pub record StopsAtExpectations (held : Held) (before after : ℕ) (names : Names)
    (stop : Stop) : Type 0 where
  pub netlist : Netlist
  pub prop : ℕ
  pub trace : Trace
  pub design_file : IsDesignFile held names.design netlist
  pub stimulus_file : IsStimulusFile held names.stim netlist prop trace
  pub stops : NothingExpected held before after names.expect netlist stop

-- Why `confirm` does not come to a replay. Each file is read and accepted before the next is selected.
abbrev pub StopsConfirm : Held → ℕ → ℕ → Names → Stop → Type 0
StopsConfirm held before after names (DesignRefused refusal) =
    NoDesign held before after names.design (DesignRefused refusal)
StopsConfirm held before after names (StimulusRefused refusal) =
    StopsAtStimulus held before after names (StimulusRefused refusal)
StopsConfirm held before after names (ExpectRefused refusal) =
    StopsAtExpectations held before after names (ExpectRefused refusal)
StopsConfirm held before after names Outside =
    NoDesign held before after names.design Outside
    ⊎ (StopsAtStimulus held before after names Outside
    ⊎ StopsAtExpectations held before after names Outside)
StopsConfirm held before after names Memory = ⊤
StopsConfirm held before after names Usage = ⊥

-- what `confirm` comes to
abbrev pub Confirms : Held → ℕ → ℕ → Names → Outcome → Type 0
Confirms held before after names (Replayed verdict prop steps) =
    Replays held names verdict prop steps
Confirms held before after names (Signed report) = ⊥
Confirms held before after names (Demonstrated size report) = ⊥
Confirms held before after names (Stopped stop) = StopsConfirm held before after names stop

-- the terms of a sign-off, as its words say them; how many work at once is none of them
abbrev pub terms_of : Order → Terms
terms_of order = record {
  limit = Some order.budget;
  fail_fast = order.fail_fast;
  journal = order.journal;
}

-- the files were accepted, and the report is that of a sign-off of their task on these terms
pub record SignsOff (held : Held) (order : Order) (report : Findings) : Type 0 where
  pub netlist : Netlist
  pub expected : List Bool
  pub design_file : IsDesignFile held order.design netlist
  pub expected_is : IsExpected held order.expect netlist expected
  pub signed : IsSignOff (task_of netlist expected) (terms_of order) report

-- the design was accepted, and the file of expectations gives none
pub record StopsBeforeSigning (held : Held) (before after : ℕ) (order : Order)
    (stop : Stop) : Type 0 where
  pub netlist : Netlist
  pub design_file : IsDesignFile held order.design netlist
  pub stops : NothingExpected held before after order.expect netlist stop

-- Why `sign` does not come to a report. The design is read and accepted before the expectations are selected.
abbrev pub StopsSign : Held → ℕ → ℕ → Order → Stop → Type 0
StopsSign held before after order (DesignRefused refusal) =
    NoDesign held before after order.design (DesignRefused refusal)
StopsSign held before after order (ExpectRefused refusal) =
    StopsBeforeSigning held before after order (ExpectRefused refusal)
StopsSign held before after order Outside =
    NoDesign held before after order.design Outside
    ⊎ StopsBeforeSigning held before after order Outside
StopsSign held before after order Memory = ⊤
StopsSign held before after order (StimulusRefused refusal) = ⊥
StopsSign held before after order Usage = ⊥

-- what `sign` comes to
abbrev pub Signs : Held → ℕ → ℕ → Order → Outcome → Type 0
Signs held before after order (Replayed verdict prop steps) = ⊥
Signs held before after order (Signed report) = SignsOff held order report
Signs held before after order (Demonstrated size report) = ⊥
Signs held before after order (Stopped stop) = StopsSign held before after order stop

-- what `demo` comes to: a demonstration of the size that its words name, or want of memory and nothing else
abbrev pub Demos : Demo → Outcome → Type 0
Demos demo (Replayed verdict prop steps) = ⊥
Demos demo (Signed report) = ⊥
Demos demo (Demonstrated size report) = (size ≡ demo.n) × Demonstrates demo report
Demos demo (Stopped stop) = stop ≡ Memory

-- what a command comes to; `demo` leaves the shelf alone
abbrev pub Does : Held → ℕ → ℕ → Outcome → Command → Type 0
Does held before after outcome (ToConfirm names) = Confirms held before after names outcome
Does held before after outcome (ToSign order) = Signs held before after order outcome
Does held before after outcome (ToDemo demo) = Demos demo outcome × (after ≡ before)

-- the words are in no command's form
abbrev pub IsUsage : Outcome → Type 0
IsUsage (Replayed verdict prop steps) = ⊥
IsUsage (Signed report) = ⊥
IsUsage (Demonstrated size report) = ⊥
IsUsage (Stopped Usage) = ⊤
IsUsage (Stopped Memory) = ⊤
IsUsage (Stopped (DesignRefused refusal)) = ⊥
IsUsage (Stopped (StimulusRefused refusal)) = ⊥
IsUsage (Stopped (ExpectRefused refusal)) = ⊥
IsUsage (Stopped Outside) = ⊥

-- what a run comes to, by its words
abbrev pub Means : Held → ℕ → ℕ → List (List ℕ) → Outcome → Type 0
Means held before after words outcome =
    MatchOption (command_of words) (IsUsage outcome) (Does held before after outcome)

-- no call on the shelf failed, unless the run stops for that reason or for want of memory
abbrev pub IsQuiet : ℕ → ℕ → Outcome → Type 0
IsQuiet before after (Replayed verdict prop steps) = after ≡ before
IsQuiet before after (Signed report) = after ≡ before
IsQuiet before after (Demonstrated size report) = after ≡ before
IsQuiet before after (Stopped stop) = IsQuietStop before after stop

-- The text was written with no fault, and the status is this one; or the sink failed, a part of it stands, and the status is 5.
abbrev pub Writes : List ℕ → ℕ → ℕ → Option (List ℕ) → Option (List ℕ) → ℕ → ℕ → Type 0
Writes text status result before after faults_before faults_after =
    ((result ≡ status) × Appends before after text × (faults_after ≡ faults_before))
    ⊎ ((result ≡ 5) × AppendsPart before after text × Rose faults_before faults_after)

-- the outcome's text and its status
abbrev pub Ends : Outcome → ℕ → Option (List ℕ) → Option (List ℕ) → ℕ → ℕ → Type 0
Ends outcome result before after faults_before faults_after =
    Writes (outcome_text outcome) (outcome_status outcome) result before after faults_before
    faults_after
