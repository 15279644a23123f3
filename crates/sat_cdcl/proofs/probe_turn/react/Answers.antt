use Rattle.std.proofs.Common.{ℕ, Option, None, refl, subst}
use Rattle.refute_check.specs.declared.lines.Line.{Line}
use Rattle.sat_cdcl.specs.Files.{places_of, list_of}
use Rattle.sat_cdcl.specs.Assumptions.{IsFreeFrom}
use Rattle.sat_cdcl.proofs.FileLemmas.{kept_same}
use Rattle.sat_cdcl.proofs.QuestionLemmas.{closes_of}
use Rattle.sat_cdcl.proofs.probe_turn.react.Goals as goal

pub returns-in_err-line-in-None-clause-kept : goal.returns-in_err-line-in-None-clause-kept
returns-in_err-line-in-None-clause-kept c = kept_same c.args.db.now c.args.db.now refl

pub returns-in_err-core-in-None-clause-kept : goal.returns-in_err-core-in-None-clause-kept
returns-in_err-core-in-None-clause-kept c = kept_same c.args.db.now c.args.db.now refl

pub returns-in_ok-core-in-None-clause-kept : goal.returns-in_ok-core-in-None-clause-kept
returns-in_ok-core-in-None-clause-kept c = kept_same c.args.db.now c.args.db.now refl

pub returns-in_ok-core-in-None-clause-answered : goal.returns-in_ok-core-in-None-clause-answered
returns-in_ok-core-in-None-clause-answered c = λ under old.
    let line : Line = c.in_ok-line-in-None.line in
    let vars : ℕ = c.args.db.now.watched.trail.vars in
    let P : Option ℕ → Type 0 = IsFreeFrom under (places_of c.args.db.now) in
    let decides : P None = subst P c.in-None.is old.decisions in
    closes_of vars vars (list_of c.args.db.now) under line.clause line.hints c.in_ok-core-in-None.core
    c.in_ok-line-in-None.ensures.accepted c.in_ok-core-in-None.ensures
    (c.in_ok-line-in-None.ensures.kept under decides)
