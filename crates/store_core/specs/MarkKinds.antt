-- What a mark says of its property.
use Rattle.std.specs.Prelude.{Bool, true, false, Option, Some, None}
use Rattle.store_core.specs.declared.mark.Mark.{Mark}
use Rattle.store_core.specs.declared.mark.Mark.TheVariants.{Proved, Fails, Budget, Cancelled}

-- the property was proved
abbrev pub is_proved : Mark → Bool
is_proved Proved = true
is_proved Fails = false
is_proved (Budget n) = false
is_proved Cancelled = false

-- the property was found to fail
abbrev pub fails : Mark → Bool
fails Proved = false
fails Fails = true
fails (Budget n) = false
fails Cancelled = false

-- the property was left unknown
abbrev pub is_unknown : Mark → Bool
is_unknown Proved = false
is_unknown Fails = false
is_unknown (Budget n) = true
is_unknown Cancelled = true

-- the property has the mark Fails
abbrev pub is_failing : Option Mark → Bool
is_failing None = false
is_failing (Some m) = fails m
