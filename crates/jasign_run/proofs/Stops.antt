-- Where a file behind the first gives nothing, that is what the command comes to.
use Rattle.std.proofs.Common.{◌≡◌, ℕ, ◌≤◌, ◌∙◌, inl, inr, List, Option, Some, None, refl, arith}
use Rattle.ja_base.specs.Runs.{Trace}
use Rattle.ja_outside.specs.Faults.{Rose}
use Rattle.ja_outside.specs.Shelf.{Held}
use Rattle.aig_model.specs.Netlist.{Netlist}
use Rattle.jasign_run.specs.declared.outcome.Stop.{Stop}
use Rattle.jasign_run.specs.declared.outcome.Stop.TheVariants.{DesignRefused, StimulusRefused, ExpectRefused, Usage, Outside, Memory}
use Rattle.ja_words.specs.Words.{Names, Order}
use Rattle.jasign_run.specs.Files.{IsDesignFile, IsStimulusFile, FailsToRead, NoStimulus, NothingExpected, IsQuietStop}
use Rattle.jasign_run.specs.Meaning.{StopsAtStimulus, StopsAtExpectations, StopsConfirm, StopsBeforeSigning, StopsSign}

-- a count that rose in the last part rose in the whole
rose_before : (before between after : ℕ) → before ≤ between → Rose between after → Rose before after
rose_before before between after earlier rose = omega (arith, earlier, rose)

fails_before : (held : Held) (before between after : ℕ) (name : List ℕ) → before ≤ between → FailsToRead held between after name
    → FailsToRead held before after name
fails_before held before between after name earlier fails =
    elim fails [ inl rose ↦ inl (rose_before before between after earlier rose) | inr lacks ↦ inr lacks ]

-- no fault before, and none behind
pub quiet_before : (before between after : ℕ) (stop : Stop) → between ≡ before → IsQuietStop between after stop
    → IsQuietStop before after stop
quiet_before before between after Outside same quiet = tt
quiet_before before between after Memory same quiet = tt
quiet_before before between after Usage same quiet = quiet ∙ same
quiet_before before between after (DesignRefused refusal) same quiet = quiet ∙ same
quiet_before before between after (StimulusRefused refusal) same quiet = quiet ∙ same
quiet_before before between after (ExpectRefused refusal) same quiet = quiet ∙ same

pub stops_at_stimulus : (held : Held) (before between after : ℕ) (names : Names) (d : Netlist) (s : Stop)
    → before ≤ between → IsDesignFile held names.design d → NoStimulus held between after names.stim d s
    → StopsConfirm held before after names s
stops_at_stimulus held before between after names d s earlier design stops = by_stop s stops
  where
    at : (s : Stop) → NoStimulus held before after names.stim d s → StopsAtStimulus held before after names s
    at s stops = record { netlist = d; design_file = design; stops = stops }

    by_stop : (s : Stop) → NoStimulus held between after names.stim d s → StopsConfirm held before after names s
    by_stop (StimulusRefused refusal) refuses = at (StimulusRefused refusal) refuses
    by_stop Outside fails = inr (inl (at Outside (fails_before held before between after names.stim earlier fails)))
    by_stop Memory wants = tt
    by_stop (DesignRefused refusal) wrong = absurd wrong
    by_stop (ExpectRefused refusal) wrong = absurd wrong
    by_stop Usage wrong = absurd wrong

pub stops_at_expectations : (held : Held) (before between after : ℕ) (names : Names) (d : Netlist) (prop : ℕ) (m : Trace)
    (s : Stop)
    → before ≤ between → IsDesignFile held names.design d → IsStimulusFile held names.stim d prop m
    → NothingExpected held between after names.expect d s → StopsConfirm held before after names s
stops_at_expectations held before between after names d prop m s earlier design stimulus nothing =
    by_file names.expect refl s nothing
  where
    at : (s : Stop) → NothingExpected held before after names.expect d s → StopsAtExpectations held before after names s
    at s stops = record { netlist = d; prop = prop; trace = m; design_file = design; stimulus_file = stimulus; stops = stops }

    by_file : (expect : Option (List ℕ)) → names.expect ≡ expect → (s : Stop) → NothingExpected held between after expect d s
        → StopsConfirm held before after names s
    by_file None e s wants = rw wants tt
    by_file (Some name) e (ExpectRefused refusal) refuses = at (ExpectRefused refusal) (rw e refuses)
    by_file (Some name) e Outside fails =
        inr (inr (at Outside (rw e (fails_before held before between after name earlier fails))))
    by_file (Some name) e Memory wants = tt
    by_file (Some name) e (DesignRefused refusal) wrong = absurd wrong
    by_file (Some name) e (StimulusRefused refusal) wrong = absurd wrong
    by_file (Some name) e Usage wrong = absurd wrong

pub stops_before_signing : (held : Held) (before between after : ℕ) (order : Order) (d : Netlist) (s : Stop)
    → before ≤ between → IsDesignFile held order.design d → NothingExpected held between after order.expect d s
    → StopsSign held before after order s
stops_before_signing held before between after order d s earlier design nothing = by_file order.expect refl s nothing
  where
    at : (s : Stop) → NothingExpected held before after order.expect d s → StopsBeforeSigning held before after order s
    at s stops = record { netlist = d; design_file = design; stops = stops }

    by_file : (expect : Option (List ℕ)) → order.expect ≡ expect → (s : Stop) → NothingExpected held between after expect d s
        → StopsSign held before after order s
    by_file None e s wants = rw wants tt
    by_file (Some name) e (ExpectRefused refusal) refuses = at (ExpectRefused refusal) (rw e refuses)
    by_file (Some name) e Outside fails =
        inr (at Outside (rw e (fails_before held before between after name earlier fails)))
    by_file (Some name) e Memory wants = tt
    by_file (Some name) e (DesignRefused refusal) wrong = absurd wrong
    by_file (Some name) e (StimulusRefused refusal) wrong = absurd wrong
    by_file (Some name) e Usage wrong = absurd wrong
