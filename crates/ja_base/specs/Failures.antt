-- Failures that were found: each is a property and a stimulus that is a local failure of it.
use Rattle.std.specs.Prelude.{◌≡◌, ℕ, ◌==◌, List, [], ◌∷◌, map, filter}
use Rattle.ja_base.specs.Circuit.{Problem}
use Rattle.ja_base.specs.Runs.{Trace, IsLocalFailure}

pub record Failure : Type 0 where
  pub property : ℕ
  pub stimulus : Trace

-- the stimuli of a property, in the order in which they were found
abbrev pub stimuli_of : ℕ → List Failure → List Trace
stimuli_of p failures =
    map (λ (f : Failure). f.stimulus) (filter (λ (f : Failure). f.property == p) failures)

-- one of these failures is the property's, and no other is: its stimulus is a local failure of it
pub record IsShown (t : Problem) (failures : List Failure) (p : ℕ) : Type 0 where
  pub stimulus : Trace
  pub only : stimuli_of p failures ≡ stimulus ∷ []
  pub fails : IsLocalFailure t p stimulus
