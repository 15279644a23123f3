-- Known clauses stand at the top too.
use Rattle.std.specs.Prelude.{ℕ, if◌then◌else◌, List, [], ◌∷◌}
use Rattle.ic3_frames.specs.Levels.{Entry, added, is_blocked}

-- the clause is added at the top, if it is not blocked there
abbrev pub put_at : ℕ → List ℕ → List Entry → List Entry
put_at top clause kept = if is_blocked kept top clause then kept else added clause top kept

-- these clauses one after another
abbrev pub put_all : ℕ → List (List ℕ) → List Entry → List Entry
put_all top [] kept = kept
put_all top (c ∷ cs) kept = put_all top cs (put_at top c kept)
