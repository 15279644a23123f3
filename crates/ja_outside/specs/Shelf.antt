-- What a shelf of files does to what it tells. A name is its bytes; a shelf that does not tell claims nothing.
use Rattle.std.specs.Prelude.{◌≡◌, ℕ, ◌<◌, ◌≤◌, List, [], ◌++◌, length, take, Option, Some, None, IsSomeAnd, ⊤}

-- what each name holds, where a shelf tells
abbrev pub Held : Type 0
Held = Option (List ℕ → Option (List ℕ))

-- of what `name` holds these bytes were taken, and the rest is left
abbrev pub IsTaken : Held → List ℕ → List ℕ → Option (List ℕ) → Type 0
IsTaken None name taken left = ⊤
IsTaken (Some file_of) name taken left =
    IsSomeAnd left (λ rest. file_of name ≡ Some (taken ++ rest))

-- `name` is held, and all of it is left
abbrev pub Selects : Held → List ℕ → Option (List ℕ) → Type 0
Selects held name left = IsTaken held name [] left

-- nothing is held under `name`
abbrev pub Lacks : Held → List ℕ → Type 0
Lacks None name = ⊥
Lacks (Some file_of) name = file_of name ≡ None

-- the first n bytes of what was left stand at the front of `buf`; none only where `buf` is empty or nothing was left
abbrev pub Moves : Option (List ℕ) → Option (List ℕ) → ℕ → List ℕ → Type 0
Moves None left n buf = ⊤
Moves (Some file) left n buf = IsSomeAnd left (λ rest. (file ≡ take n buf ++ rest)
    × (n ≡ 0 → 0 < length buf → file ≡ []))

-- `name` holds these bytes
abbrev pub IsWhole : Held → List ℕ → List ℕ → Type 0
IsWhole None name bytes = ⊤
IsWhole (Some file_of) name bytes = file_of name ≡ Some bytes

-- `name` holds more than n bytes
abbrev pub IsLonger : Held → List ℕ → ℕ → Type 0
IsLonger None name n = ⊤
IsLonger (Some file_of) name n = IsSomeAnd (file_of name) (λ file. n < length file)

-- more than n bytes of what `name` holds were taken
abbrev pub TakesOver : Held → List ℕ → Option (List ℕ) → ℕ → Type 0
TakesOver held name left n = (taken : List ℕ) × (n < length taken) × IsTaken held name taken left

-- at most n bytes of what `name` holds were taken
abbrev pub TakesWithin : Held → List ℕ → Option (List ℕ) → ℕ → Type 0
TakesWithin held name left n = (taken : List ℕ) × (length taken ≤ n) × IsTaken held name taken left
