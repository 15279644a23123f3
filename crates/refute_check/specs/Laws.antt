-- Statements over the definitions alone.
use Rattle.std.specs.Prelude.{◌≡◌, ℕ, true, List, [], ◌∷◌, ◌++◌, map, None, ⊤}
use Rattle.refute_check.specs.Lines.{refusal}
use Rattle.refute_check.specs.Refuted.{IsRefuted, is_covered}
use Rattle.refute_check.specs.Checked.{FollowsOne}
use Rattle.ja_base.specs.Clauses.{is_part}
use Rattle.refute_check.specs.declared.lines.Line.{Line}
use Rattle.refute_check.specs.declared.lines.Refuted.{Refuted}

-- each line is accepted over the clauses and the lines before it
abbrev pub AreAccepted : ℕ → List (List ℕ) → List Line → Type 0
AreAccepted vars clauses [] = ⊤
AreAccepted vars clauses (line ∷ lines) =
    (refusal vars clauses line.clause line.hints ≡ None)
    × AreAccepted vars (clauses ++ line.clause ∷ []) lines

-- the clauses with those of the lines after them
abbrev pub with_lines : List (List ℕ) → List Line → List (List ℕ)
with_lines clauses lines = clauses ++ map (λ line. line.clause) lines

-- The core is a part of `under`; a checker that has the clauses accepts each line, one after another, and then covers the core.
pub record Refutes (vars : ℕ) (clauses : List (List ℕ)) (under : List ℕ)
    (refuted : Refuted) : Type 0 where
  pub part : is_part refuted.core under ≡ true
  pub accepted : AreAccepted vars clauses refuted.lines
  pub covered : is_covered (with_lines clauses refuted.lines) refuted.core ≡ true

-- an accepted line holds under each row under which all clauses of the list hold
abbrev pub AcceptedHolds : Type 0
AcceptedHolds = (vars : ℕ) (clauses : List (List ℕ)) (clause hints : List ℕ)
    → refusal vars clauses clause hints ≡ None
    → FollowsOne clauses clause

-- what is covered by the clauses and their accepted lines is refuted by the clauses
abbrev pub CoveredIsRefuted : Type 0
CoveredIsRefuted = (vars : ℕ) (clauses : List (List ℕ)) (lines : List Line) (under : List ℕ)
    → AreAccepted vars clauses lines → is_covered (with_lines clauses lines) under ≡ true
    → IsRefuted vars clauses under

-- what lines refute over the clauses has no row that meets it
abbrev pub RefutesIsRefuted : Type 0
RefutesIsRefuted = (vars : ℕ) (clauses : List (List ℕ)) (under : List ℕ) (refuted : Refuted)
    → Refutes vars clauses under refuted
    → IsRefuted vars clauses under
