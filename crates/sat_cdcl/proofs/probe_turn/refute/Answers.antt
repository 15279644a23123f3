use Rattle.std.proofs.Common.{ℕ}
use Rattle.std.proofs.lemmas.Option.{slice_get_within}
use Rattle.refute_check.specs.declared.lines.Line.{Line}
use Rattle.sat_plain.proofs.PlaceLemmas.{lits_at}
use Rattle.sat_cdcl.specs.Files.{places_of, list_of}
use Rattle.sat_cdcl.proofs.QuestionLemmas.{closes_of}
use Rattle.sat_cdcl.proofs.probe_turn.refute.Goals as goal

pub returns : goal.returns
returns c = λ under h.
    let line : Line = c.in_ok-line.line in
    let vars : ℕ = c.args.db.now.watched.trail.vars in
    closes_of vars vars (list_of c.args.db.now) under line.clause line.hints c.in_ok-core.core c.in_ok-line.ensures.accepted
    c.in_ok-core.ensures
    (c.in_ok-line.ensures.kept under h.place.lit (lits_at (places_of c.args.db.now) c.args.at h.place h.is) h.assumed
    (λ p place less e. h.decisions p place (slice_get_within (places_of c.args.db.now) p place e) e))
