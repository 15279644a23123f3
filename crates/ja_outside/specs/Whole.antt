-- The answers of a read to the end.
use Rattle.std.specs.Prelude.{ℕ, List, ⊤}
use Rattle.ja_outside.specs.declared.whole.Whole.{Whole}
use Rattle.ja_outside.specs.declared.whole.Whole.TheVariants.{Bytes, TooLarge, Failed, Memory}

-- a fact of the bytes, where they are the answer
abbrev pub IfBytes : Whole → (List ℕ → Type 0) → Type 0
IfBytes (Bytes bytes) P = P bytes.items
IfBytes TooLarge P = ⊤
IfBytes Failed P = ⊤
IfBytes Memory P = ⊤

-- one fact where the answer is `TooLarge`, and another where it is not
abbrev pub MatchTooLarge : Whole → Type 0 → Type 0 → Type 0
MatchTooLarge (Bytes bytes) P Q = Q
MatchTooLarge TooLarge P Q = P
MatchTooLarge Failed P Q = Q
MatchTooLarge Memory P Q = Q

-- a fact, where the answer is `TooLarge`
abbrev pub OnTooLarge : Whole → Type 0 → Type 0
OnTooLarge answer P = MatchTooLarge answer P ⊤

-- a fact, where the answer is `Failed`
abbrev pub OnFailed : Whole → Type 0 → Type 0
OnFailed (Bytes bytes) P = ⊤
OnFailed TooLarge P = ⊤
OnFailed Failed P = P
OnFailed Memory P = ⊤

-- a fact, unless the answer is `Failed`
abbrev pub UnlessFailed : Whole → Type 0 → Type 0
UnlessFailed (Bytes bytes) P = P
UnlessFailed TooLarge P = P
UnlessFailed Failed P = ⊤
UnlessFailed Memory P = P
