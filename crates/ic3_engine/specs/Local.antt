-- What the call for one property answers.
use Rattle.std.specs.Prelude.{◌≡◌, ℕ, List, ⊤}
use Rattle.ja_base.specs.declared.meter.Meter.{Meter}
use Rattle.aig_model.specs.Task.{VerificationTask}
use Rattle.sat_plain.specs.Ticks.{IsRefused}
use Rattle.ic3_engine.specs.declared.local.LocalAnswer.{LocalAnswer}
use Rattle.ic3_engine.specs.declared.local.LocalAnswer.TheVariants.{Proved, Fails, Spent, Stopped, Memory}
use Rattle.ic3_engine.specs.Found.{IsFailureFor, IsProvedFor}

-- what was proved or fails is this property of this task
abbrev pub IsOf : VerificationTask → ℕ → LocalAnswer → Type 0
IsOf t p (Proved proved) = IsProvedFor t p proved
IsOf t p (Fails failure) = IsFailureFor t p failure
IsOf t p Spent = ⊤
IsOf t p Stopped = ⊤
IsOf t p Memory = ⊤

-- the property is covered by just this list, wherever the call came to an answer
abbrev pub AnswersList : List (List ℕ) → LocalAnswer → Type 0
AnswersList clauses (Proved proved) = proved.list.clauses ≡ clauses
AnswersList clauses (Fails failure) = ⊥
AnswersList clauses Spent = ⊤
AnswersList clauses Stopped = ⊤
AnswersList clauses Memory = ⊤

-- a tick was refused exactly where the answer is `Spent`
abbrev pub IsAnswered : Meter → Meter → LocalAnswer → Type 0
IsAnswered before now (Proved proved) = now.refused ≡ before.refused
IsAnswered before now (Fails failure) = now.refused ≡ before.refused
IsAnswered before now Spent = IsRefused before now
IsAnswered before now Stopped = now.refused ≡ before.refused
IsAnswered before now Memory = now.refused ≡ before.refused

-- a fact, where the answer is `Stopped`
abbrev pub OnAnswerStopped : LocalAnswer → Type 0 → Type 0
OnAnswerStopped (Proved proved) P = ⊤
OnAnswerStopped (Fails failure) P = ⊤
OnAnswerStopped Spent P = ⊤
OnAnswerStopped Stopped P = P
OnAnswerStopped Memory P = ⊤
