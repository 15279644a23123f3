use Rattle.std.proofs.Common.{◌≡◌, ◌-◌, ◌^◌, length}
use Rattle.ja_outside.specs.Flags.{IsPolled}
use Rattle.sat_plain.specs.Trails.{kinds_of}
use Rattle.sat_plain.specs.Rank.{rank}
use Rattle.sat_cdcl.specs.Files.{places_of}
use Rattle.sat_cdcl.proofs.ProbeLemmas.{IsProbing}
use Rattle.sat_cdcl.proofs.probe_search.search.Given as goal

abbrev pub invariant-loop-next : goal.invariant-loop-next
invariant-loop-next g l =
    record {
      probing : IsProbing l.under l.initial.db l.initial.question l.initial.meter l.db l.question l.step l.meter;
      order : l.order ≡ l.initial.order;
      row : length l.row ≡ length l.initial.row;
      flag : IsPolled g.F.Flag.may_rise g.F.Flag.raised l.initial.flag l.flag;
    }

abbrev pub decreases-loop-next : goal.decreases-loop-next
decreases-loop-next g l = 3 ^ l.db.watched.trail.vars - rank l.db.watched.trail.vars (kinds_of (places_of l.db))
