-- A step that is repeated: it reads an item from a state and leaves a state, as each line of a section.
use Rattle.std.specs.Prelude.{◌≡◌, ℕ, zero, suc, ◌-◌, ◌<◌, List, [], ◌∷◌, ◌++◌, length, Result, Ok, Err}
use Rattle.ja_text.specs.Reading.{◌>>=◌}

-- so many steps, one after another: their items in order and the last state, or the first refusal
unfoldable pub repeated : {S X F : Type 0} → (S → Result (X × S) F) → ℕ → S → Result (List X × S) F
repeated step zero s = Ok ([], s)
repeated step (suc n) s = do
  first ← step s
  others ← repeated step n first.1
  Ok (first.0 ∷ others.0, others.1)

-- from s to t by way of these items, each as P says
abbrev pub Chain : {S X : Type 0} → (S → X → S → Type 0) → S → List X → S → Type 0
Chain P s [] t = s ≡ t
Chain {S} P s (x ∷ xs) t = (u : S) × P s x u × Chain P u xs t

-- the items that were read before, and what is still read
abbrev pub with_front : {S X F : Type 0} → List X → Result (List X × S) F → Result (List X × S) F
with_front front read = read >>= λ r. Ok (front ++ r.0, r.1)

-- a loop that repeats the step: i of count steps were made from start, they gave the items of front and left s
pub record IsUnderway {S X F : Type 0} (step : S → Result (X × S) F) (count : ℕ) (start : S) (i : ℕ)
    (front : List X)
    (s : S) : Type 0 where
  pub whole : with_front front (repeated step (count - i) s) ≡ repeated step count start

-- the refusal of the repeated step is that of one step, behind fewer that were made
pub record FailsBehind {S X F : Type 0} (step : S → Result (X × S) F) (n : ℕ) (s : S)
    (f : F) : Type 0 where
  pub items : List X
  pub state : S
  pub made : Chain (λ before x after. step before ≡ Ok (x, after)) s items state
  pub fewer : length items < n
  pub fails : step state ≡ Err f
