use Rattle.std.proofs.Common.{◌≡◌, ◌-◌, ◌^◌}
use Rattle.ja_outside.specs.Flags.{IsPolled}
use Rattle.sat_plain.specs.Trails.{kinds_of}
use Rattle.sat_plain.specs.Rank.{rank}
use Rattle.sat_plain.proofs.SearchLemmas.{IsSearching}
use Rattle.sat_plain.proofs.search.search.Given as goal

abbrev pub invariant-loop-row : goal.invariant-loop-row
invariant-loop-row g l =
    (l.query.trail.vars ≡ l.initial.query.trail.vars) × (l.query.assumed ≡ l.initial.query.assumed)
    × IsSearching l.initial.query.trail.vars l.initial.query.assumed l.initial.query.trail.places l.initial.clauses
    l.initial.meter l.query.trail.places l.query.lines l.clauses l.meter
    × IsPolled g.F.Flag.may_rise g.F.Flag.raised l.initial.flag l.flag

abbrev pub decreases-loop-row : goal.decreases-loop-row
decreases-loop-row g l = 3 ^ l.query.trail.vars - rank l.query.trail.vars (kinds_of l.query.trail.places)
