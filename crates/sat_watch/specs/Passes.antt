-- What comes of a pass over clauses.
use Rattle.std.specs.Prelude.{⊤}
use Rattle.sat_plain.specs.Trails.{Assigned}
use Rattle.sat_watch.specs.Stores.{Stored, over}
use Rattle.sat_watch.specs.Steps.{IsConflict}
use Rattle.sat_watch.specs.declared.sweep.Swept.{Swept}
use Rattle.sat_watch.specs.declared.sweep.Swept.TheVariants.{Done, False, Unsettled}

-- it came to its end, where P holds, or to a clause that is false
abbrev pub IsSwept : Stored → Assigned → Type 0 → Swept → Type 0
IsSwept store trail P Done = P
IsSwept store trail P (False n) = IsConflict (over trail store) n
IsSwept store trail P Unsettled = ⊤
