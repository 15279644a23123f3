use Rattle.std.proofs.Common.{refl}
use Rattle.std.proofs.lemmas.Option.{slice_get_within}
use Rattle.refute_check.specs.declared.lines.Line.{Line}
use Rattle.sat_plain.proofs.PlaceLemmas.{lits_at}
use Rattle.sat_cdcl.specs.declared.query.Query.{Query}
use Rattle.sat_cdcl.specs.Files.{places_of}
use Rattle.sat_cdcl.proofs.FileLemmas.{kept_same}
use Rattle.sat_cdcl.proofs.SearchLemmas.{refuting_of}
use Rattle.sat_cdcl.proofs.turn.refute.Goals as goal

pub returns-in_err-line-clause-kept : goal.returns-in_err-line-clause-kept
returns-in_err-line-clause-kept c = kept_same c.args.db.now c.args.db.now refl

pub returns-clause-refutes : goal.returns-clause-refutes
returns-clause-refutes c = λ under h.
    let line : Line = c.in_ok-line.line in
    let old : Query = c.args.query.now in
    let next : Query = record { lines = c.close.new.lines; free = old.free; cursor = old.cursor } in
    refuting_of under c.args.db.now c.close.new.db old next line c.in_ok-core.core c.in_ok-line.ensures.accepted
    c.in_ok-core.ensures.core c.in_ok-core.ensures.list c.in_ok-core.ensures.lines
    (c.in_ok-line.ensures.kept under h.place.lit (lits_at (places_of c.args.db.now) c.args.at h.place h.is) h.assumed
    (λ p place less e. h.decisions p place (slice_get_within (places_of c.args.db.now) p place e) e))
