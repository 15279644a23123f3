-- Laws of shelves that tell.
use Rattle.std.specs.Prelude.{◌≡◌, ℕ, ◌≤◌, ◌⊎◌, List, length, Option, Some}
use Rattle.ja_outside.specs.Shelf.{IsWhole, IsLonger, Lacks}

-- a file of at most so many bytes stands under the name
pub record HoldsWithin (file_of : List ℕ → Option (List ℕ)) (name : List ℕ)
    (limit : ℕ) : Type 0 where
  pub bytes : List ℕ
  pub is : IsWhole (Some file_of) name bytes
  pub few : length bytes ≤ limit

-- one of the three answers that a shelf determines stands: the bytes, too large, and that it lacks the name
abbrev pub HasAnswer : Type 0
HasAnswer = (file_of : List ℕ → Option (List ℕ)) (name : List ℕ) (limit : ℕ)
    → HoldsWithin file_of name limit ⊎ IsLonger (Some file_of) name limit
    ⊎ Lacks (Some file_of) name

-- no two of the three stand, and the bytes are determined
pub record AnswersExclude (file_of : List ℕ → Option (List ℕ)) (name : List ℕ)
    (limit : ℕ) : Type 0 where
  pub same : (a b : List ℕ) → IsWhole (Some file_of) name a → IsWhole (Some file_of) name b → a ≡ b
  pub within : HoldsWithin file_of name limit → IsLonger (Some file_of) name limit → ⊥
  pub held : HoldsWithin file_of name limit → Lacks (Some file_of) name → ⊥
  pub longer : IsLonger (Some file_of) name limit → Lacks (Some file_of) name → ⊥

-- each shelf that tells is so
abbrev pub HasOneAnswer : Type 0
HasOneAnswer = (file_of : List ℕ → Option (List ℕ)) (name : List ℕ) (limit : ℕ)
    → AnswersExclude file_of name limit
