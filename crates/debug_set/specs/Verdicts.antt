-- What the marks of all properties say together.
use Rattle.std.specs.Prelude.{◌≡◌, ℕ, ◌&&◌, Bool, true, false, Some, List, [], ◌∷◌, map, slice_get, if◌then◌else◌}
use Rattle.std.specs.List.{list_any}
use Rattle.ja_base.specs.Sets as bits
use Rattle.store_core.specs.declared.mark.Mark.{Mark}
use Rattle.store_core.specs.MarkKinds.{is_proved, fails, is_unknown}

-- the debugging set of these marks
abbrev pub IsDebuggingSet : List Bool → List Mark → List ℕ → Type 0
IsDebuggingSet assumed marks set = bits.IsDebuggingSet assumed (map fails marks) set

-- each property that is expected to hold has the mark Proved
abbrev pub IsJoined : List Bool → List Mark → Type 0
IsJoined assumed marks = bits.IsJoined assumed (map is_proved marks)

-- the property has a mark that leaves it unknown
pub record IsUnknown (marks : List Mark) (p : ℕ) : Type 0 where
  pub mark : Mark
  pub stands : slice_get marks p ≡ Some mark
  pub unknown : is_unknown mark ≡ true

-- the mark is the expected one: Proved of what is expected to hold, Fails of what is expected to fail
abbrev pub is_expected : Bool → Mark → Bool
is_expected true m = is_proved m
is_expected false m = fails m

-- each mark is the expected one
abbrev pub are_expected : List Bool → List Mark → Bool
are_expected assumed [] = true
are_expected [] (m ∷ marks) = is_expected false m && are_expected [] marks
are_expected (a ∷ assumed) (m ∷ marks) = is_expected a m && are_expected assumed marks

-- 2 where a property is unknown; else 0 where all came as expected, and 1 where one did not
abbrev pub status_of : List Bool → List Mark → ℕ
status_of assumed marks = if list_any is_unknown marks then 2
    else (if are_expected assumed marks then 0 else 1)
