use Rattle.std.proofs.Common.{ℕ, Option, None, refl, subst}
use Rattle.refute_check.specs.declared.lines.Line.{Line}
use Rattle.sat_cdcl.specs.declared.query.Query.{Query}
use Rattle.sat_cdcl.specs.Files.{places_of}
use Rattle.sat_cdcl.specs.Assumptions.{IsFreeFrom}
use Rattle.sat_cdcl.proofs.FileLemmas.{kept_same}
use Rattle.sat_cdcl.proofs.SearchLemmas.{refuting_of}
use Rattle.sat_cdcl.proofs.backtrack.react.Goals as goal

pub returns-in_err-line-in-None-clause-kept : goal.returns-in_err-line-in-None-clause-kept
returns-in_err-line-in-None-clause-kept c = kept_same c.args.db.now c.args.db.now refl

pub returns-in_ok-core-in-None-clause-reacted : goal.returns-in_ok-core-in-None-clause-reacted
returns-in_ok-core-in-None-clause-reacted c = λ under old.
    let line : Line = c.in_ok-line-in-None.line in
    let next : Query = record { lines = c.close.new.lines; free = c.args.query.now.free; cursor = c.args.query.now.cursor } in
    let P : Option ℕ → Type 0 = IsFreeFrom under (places_of c.args.db.now) in
    let decides : P None = subst P c.in-None.is old.decisions in
    refuting_of under c.args.db.now c.close.new.db c.args.query.now next line c.in_ok-core-in-None.core
    c.in_ok-line-in-None.ensures.accepted c.in_ok-core-in-None.ensures.core c.in_ok-core-in-None.ensures.list
    c.in_ok-core-in-None.ensures.lines (c.in_ok-line-in-None.ensures.kept under decides)
