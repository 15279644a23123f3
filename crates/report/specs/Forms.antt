-- Forms of text in whole lines: which values have a text and which one, and where bytes leave a form. A reader takes the text at
-- the
-- front and answers what follows it, or how many bytes are left from the first line on that no text of the form has there.
use Rattle.std.specs.Prelude.{◌≡◌, ℕ, ⊤, List, [], ◌∷◌, ◌++◌, length, Result, Ok, Err}
use Rattle.ja_base.specs.declared.memory.OrMemory.{OrMemory}
use Rattle.ja_base.specs.declared.memory.OrMemory.TheVariants.{Refused, Memory}
use Rattle.ja_text.specs.Lines.{IsOneLine}
use Rattle.report.specs.declared.line.BadLine.{BadLine}
use Rattle.report.specs.Reports.{AreLines}

-- the values that have a text, and the text of each
pub record Form (X : Type 0) : Type 1 where
  pub Fits : X → Type 0
  pub text : X → List ℕ

-- the text of this value stands at the front, and the rest behind it
pub record Takes {X : Type 0} (F : Form X) (bytes : List ℕ) (x : X) (rest : List ℕ) : Type 0 where
  pub fits : F.Fits x
  pub parts : bytes ≡ F.text x ++ rest

-- the text of no value stands at the front
abbrev pub TakesNone : {X : Type 0} → Form X → List ℕ → Type 0
TakesNone {X} F bytes = (x : X) (rest : List ℕ) → Takes F bytes x rest → ⊥

-- these bytes begin the text of a value
pub record Begins {X : Type 0} (F : Form X) (front : List ℕ) : Type 0 where
  pub value : X
  pub rest : List ℕ
  pub fits : F.Fits value
  pub text : F.text value ≡ front ++ rest

-- The lines before the one that begins where so many bytes are left begin the text of a value. With this line they begin none,
-- and
-- no text stands in front of what begins with them, if it has an LF; and no text stands in front of the bytes.
pub record Stops {X : Type 0} (F : Form X) (bytes : List ℕ) (left : ℕ) : Type 0 where
  pub front : List ℕ
  pub rest : List ℕ
  pub parts : bytes ≡ front ++ rest
  pub left_is : left ≡ length rest
  pub lines : AreLines front
  pub begins : Begins F front
  pub no_more : (line after behind : List ℕ) → IsOneLine line → rest ≡ line ++ 10 ∷ after
      → TakesNone F (front ++ line ++ 10 ∷ behind)
  pub none : TakesNone F bytes

-- reading stops at the first line that leaves the form, unless memory was wanting
abbrev pub Fails : {X : Type 0} → Form X → List ℕ → OrMemory BadLine → Type 0
Fails F bytes (Refused bad) = Stops F bytes bad.left
Fails F bytes Memory = ⊤

-- what was read is the text of a value and what follows it, or reading stops
abbrev pub Reads : {T X : Type 0} → Form X → (T → X) → (T → List ℕ) → List ℕ → Result T (OrMemory BadLine) → Type 0
Reads F value rest bytes (Ok t) = Takes F bytes (value t) (rest t)
Reads F value rest bytes (Err e) = Fails F bytes e

-- ---- how forms are made

-- one line of words
abbrev pub line_form : {X : Type 0} → (X → Type 0) → (X → List ℕ) → Form X
line_form Fits words = record { Fits = Fits; text = λ x. words x ++ 10 ∷ [] }

-- one form, and behind it another that may depend on the value of the first
abbrev pub then : {X Y : Type 0} → Form X → (X → Form Y) → Form (X × Y)
then F G = record { Fits = λ p. F.Fits p.0 × (G p.0).Fits p.1; text = λ p. F.text p.0 ++ (G p.0).text p.1 }

-- the texts of values one behind the other, the first in this state, each other in the state that the one before leads to
abbrev pub texts_from : {S X : Type 0} → (S → Form X) → (S → X → S) → S → List X → List ℕ
texts_from F next s [] = []
texts_from F next s (x ∷ xs) = (F s).text x ++ texts_from F next (next s x) xs

-- each of these values fits in its state
abbrev pub FitFrom : {S X : Type 0} → (S → Form X) → (S → X → S) → S → List X → Type 0
FitFrom F next s [] = ⊤
FitFrom F next s (x ∷ xs) = (F s).Fits x × FitFrom F next (next s x) xs

-- so many values that fit in their states
pub record FitTimes {S X : Type 0} (F : S → Form X) (next : S → X → S) (n : ℕ) (s : S) (xs : List X) : Type 0 where
  pub as_many : length xs ≡ n
  pub each : FitFrom F next s xs

-- so many texts one behind the other
abbrev pub times : {S X : Type 0} → (S → Form X) → (S → X → S) → ℕ → S → Form (List X)
times F next n s = record { Fits = FitTimes F next n s; text = texts_from F next s }

-- nothing
abbrev pub nothing : Form ⊤
nothing = record { Fits = λ _. ⊤; text = λ _. [] }
