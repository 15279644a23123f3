-- Numbers in a line, each behind a word that begins with a space.
use Rattle.std.specs.Prelude.{◌≡◌, ℕ, ◌<◌, ◌^◌, Bool, true, false, List, ◌++◌, decimal, Option, Some, None}
use Rattle.std.specs.List.{AllByRecursion}
use Rattle.ja_text.specs.Repeated.{Chain}
use Rattle.report.specs.Reports.{clause_words}
use Rattle.report.specs.Tokens.{small_behind}

-- each is below 2^32
abbrev pub AreSmall : List ℕ → Type 0
AreSmall numbers = AllByRecursion (λ n. n < 2 ^ 32) numbers

-- a number behind the word
abbrev pub behind : List ℕ → ℕ → List ℕ
behind word n = word ++ decimal n

-- all the numbers that stand here, each behind the word, came to those that were there before
pub record TakesAll (word bytes old new rest : List ℕ) : Type 0 where
  pub numbers : List ℕ
  pub taken : Chain (λ before n after. small_behind word before ≡ Some (n, after)) bytes numbers rest
  pub grown : new ≡ old ++ numbers
  pub ends : small_behind word rest ≡ None

-- whether the line is numbers with one space between two, and which ones
abbrev pub AreNumbers : Bool → List ℕ → List ℕ → Type 0
AreNumbers true line numbers = AreSmall numbers × (line ≡ clause_words numbers)
AreNumbers false line numbers = (ns : List ℕ) → AreSmall ns → line ≡ clause_words ns → ⊥

-- what is found in a line: a value with these words, or none where no value has them
abbrev pub IsFound : {X : Type 0} → (X → Type 0) → (X → List ℕ) → List ℕ → Option X → Type 0
IsFound Fits words line (Some x) = Fits x × (line ≡ words x)
IsFound {X} Fits words line None = (x : X) → Fits x → line ≡ words x → ⊥
