-- What a reply says.
use Rattle.std.specs.Prelude.{Bool, true, false}
use Rattle.store_core.specs.declared.journal.Reply.{Reply}
use Rattle.store_core.specs.declared.journal.Reply.TheVariants.{Job, NoJob, Clauses, Added, Settled, Had, Cancelled, NotNow, GaveUp, GoOn}

-- the property was given up
abbrev pub is_gave_up : Reply → Bool
is_gave_up (Job p upto) = false
is_gave_up (NoJob upto) = false
is_gave_up (Clauses upto) = false
is_gave_up (Added upto) = false
is_gave_up (Settled upto) = false
is_gave_up (Had had) = false
is_gave_up Cancelled = false
is_gave_up NotNow = false
is_gave_up GaveUp = true
is_gave_up GoOn = false
