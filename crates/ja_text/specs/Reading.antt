-- Reading from left to right: one form after another, and the first refusal ends it.
use Rattle.std.specs.Prelude.{◌≡◌, Result, Ok, Err}
use Rattle.ja_base.specs.declared.memory.OrMemory.{OrMemory}
use Rattle.ja_base.specs.declared.memory.OrMemory.TheVariants as or_memory

-- what is read next, behind what was read
infixl 10 ◌>>=◌
abbrev pub ◌>>=◌ : {A B F : Type 0} → Result A F → (A → Result B F) → Result B F
(Ok x) >>= f = f x
(Err e) >>= f = Err e

-- a reader that failed: reading fails so too, unless memory ran out
abbrev pub Fails : {Y F : Type 0} → OrMemory F → Result Y F → Type 0
Fails or_memory.Memory read = Unit {0}
Fails (or_memory.Refused f) read = read ≡ Err f

-- what a reader answered, seen by view, is what reading gives, unless memory ran out
abbrev pub Gives : {X Y F : Type 0} → (X → Y) → Result X (OrMemory F) → Result Y F → Type 0
Gives view (Ok x) read = read ≡ Ok (view x)
Gives view (Err e) read = Fails e read
