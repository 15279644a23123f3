-- What is broken first, against the debugging set.
use Rattle.std.specs.Prelude.{◌≡◌, ℕ, ◌⊎◌, Some, List, length, slice_get, Contains}
use Rattle.ja_base.specs.Circuit.{Problem}
use Rattle.ja_base.specs.Runs.{Trace, FailsLocally, IsFirstBroken}
use Rattle.store_core.specs.declared.mark.Mark.{Mark}
use Rattle.store_core.specs.declared.mark.Mark.TheVariants.{Proved}
use Rattle.debug_set.specs.Verdicts.{IsDebuggingSet, IsUnknown}

-- no property that has the mark Proved fails locally
abbrev pub ProvedNeverFail : Problem → List Mark → Type 0
ProvedNeverFail t marks = (p : ℕ) → slice_get marks p ≡ Some Proved → FailsLocally t p → ⊥

-- where each property has a mark and none that was proved fails locally, what is broken first is in the set or unknown
abbrev pub FirstBrokenIsNamed : Type 0
FirstBrokenIsNamed = (t : Problem) (marks : List Mark) (set : List ℕ)
    → length marks ≡ length t.assumed → ProvedNeverFail t marks
    → IsDebuggingSet t.assumed marks set → (m : Trace) (p : ℕ) → IsFirstBroken t m p
    → Contains set p ⊎ IsUnknown marks p
