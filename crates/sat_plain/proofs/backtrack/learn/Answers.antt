use Rattle.std.proofs.Common.{◌≡◌, ℕ, List, map, length, Option, Some, slice_get, refl, sym, subst, ◌∙◌, ap}
use Rattle.std.proofs.lemmas.List.{length_push}
use Rattle.std.proofs.lemmas.Option.{same_Some}
use Rattle.ja_base.specs.Literals.{negated}
use Rattle.refute_check.specs.declared.lines.Line.{Line}
use Rattle.sat_plain.specs.declared.place.Place.{Place}
use Rattle.sat_plain.specs.Turns.{IsFurther}
use Rattle.sat_plain.specs.Walks.{IsLast}
use Rattle.sat_plain.proofs.PlaceLemmas.{lits_at}
use Rattle.sat_plain.proofs.RankLemmas.{further_by_flip}
use Rattle.sat_plain.proofs.TurnLemmas.{IsLogged, next_line, next_flip, logged_here, core_of}
use Rattle.sat_plain.proofs.backtrack.learn.Goals as goal

pub returns-in_err-core-in-None-clause-next : goal.returns-in_err-core-in-None-clause-next
returns-in_err-core-in-None-clause-next c =
    let line : Line = c.in_ok-line.field-0.line in
    let g : IsLogged c.args.query.now.trail.vars c.args.query.now.lines c.args.clauses.now line c.log.new.lines
    c.log.new.clauses =
    record {
      accepted = c.in_ok-line.ensures.accepted;
      list = c.in_ok-log.ensures.ok.0;
      log = c.in_ok-log.ensures.ok.1;
      added = c.in_ok-log.ensures.added;
      kept = c.in_ok-log.ensures.kept;
    } in
    next_line c.args.query.now.trail.vars c.args.query.now.assumed c.args.query.now.trail.places c.args.query.now.lines
    c.log.new.lines c.args.clauses.now c.log.new.clauses line c.requires.search g

pub returns-in_ok-core-in-None-clause-next : goal.returns-in_ok-core-in-None-clause-next
returns-in_ok-core-in-None-clause-next c =
    let line : Line = c.in_ok-line.field-0.line in
    let g : IsLogged c.args.query.now.trail.vars c.args.query.now.lines c.args.clauses.now line c.log.new.lines
    c.log.new.clauses =
    record {
      accepted = c.in_ok-line.ensures.accepted;
      list = c.in_ok-log.ensures.ok.0;
      log = c.in_ok-log.ensures.ok.1;
      added = c.in_ok-log.ensures.added;
      kept = c.in_ok-log.ensures.kept;
    } in
    next_line c.args.query.now.trail.vars c.args.query.now.assumed c.args.query.now.trail.places c.args.query.now.lines
    c.log.new.lines c.args.clauses.now c.log.new.clauses line c.requires.search g

pub returns-in_ok-core-in-None-clause-answer : goal.returns-in_ok-core-in-None-clause-answer
returns-in_ok-core-in-None-clause-answer c =
    let line : Line = c.in_ok-line.field-0.line in
    let lines : List Line = c.args.query.now.lines in
    let g : IsLogged c.args.query.now.trail.vars lines c.args.clauses.now line c.log.new.lines c.log.new.clauses =
    record {
      accepted = c.in_ok-line.ensures.accepted;
      list = c.in_ok-log.ensures.ok.0;
      log = c.in_ok-log.ensures.ok.1;
      added = c.in_ok-log.ensures.added;
      kept = c.in_ok-log.ensures.kept;
    } in
    let here : slice_get c.log.new.clauses.list c.len-number.result ≡ Some line.clause =
    ap (slice_get c.log.new.clauses.list) c.len-number.ensures
    ∙ logged_here c.args.query.now.trail.vars lines c.log.new.lines c.args.clauses.now c.log.new.clauses line g in
    let P : List ℕ → Type 0 = λ v. slice_get c.log.new.clauses.list c.len-number.result ≡ Some v in
    let clause : List ℕ = c.clause.result.now in
    let Q : List ℕ → Type 0 = λ v. IsLast c.args.query.now.trail.places 0 v c.in_ok-line.field-0.last in
    let same : line.clause ≡ clause = same_Some line.clause clause (sym here ∙ c.clause.ensures) in (
      ap length g.log ∙ length_push lines line,
      core_of c.args.query.now.trail.places c.args.query.now.assumed c.len-number.result clause c.in_ok-core-in-None.core
          c.log.new.clauses.list c.in_ok-line.field-0.last (subst Q same c.in_ok-line.ensures.last) c.in-None.ensures
          (c.in_ok-core-in-None.ensures ∙ ap (map negated) c.lits.ensures.value) c.clause.ensures,
    )

pub returns-in-Some-clause-next : goal.returns-in-Some-clause-next
returns-in-Some-clause-next c =
    let vars : ℕ = c.args.query.now.trail.vars in
    let places : List Place = c.args.query.now.trail.places in
    let line : Line = c.in_ok-line.field-0.line in
    let g : IsLogged vars c.args.query.now.lines c.args.clauses.now line c.log.new.lines c.log.new.clauses =
    record {
      accepted = c.in_ok-line.ensures.accepted;
      list = c.in_ok-log.ensures.ok.0;
      log = c.in_ok-log.ensures.ok.1;
      added = c.in_ok-log.ensures.added;
      kept = c.in_ok-log.ensures.kept;
    } in
    let q : ℕ = c.in-Some.at in
    let P : Option ℕ → Type 0 = IsLast places 0 line.clause in
    let last : IsLast places 0 line.clause (Some q) = subst P c.in-Some.ensures.0 c.in_ok-line.ensures.last in
    let cut = last.1 in
    next_flip vars c.args.query.now.assumed q c.len-number.result places c.flip.new.trail.places c.args.query.now.lines
    c.log.new.lines c.args.clauses.now c.log.new.clauses line cut c.in-Some.ensures.1 c.len-number.ensures
    (c.flip.ensures.places cut.place.lit (lits_at places q cut.place cut.is)) c.requires.search g

pub returns-in-Some-clause-answer : goal.returns-in-Some-clause-answer
returns-in-Some-clause-answer c =
    let vars : ℕ = c.args.query.now.trail.vars in
    let places : List Place = c.args.query.now.trail.places in
    let line : Line = c.in_ok-line.field-0.line in
    let q : ℕ = c.in-Some.at in
    let P : Option ℕ → Type 0 = IsLast places 0 line.clause in
    let last : IsLast places 0 line.clause (Some q) = subst P c.in-Some.ensures.0 c.in_ok-line.ensures.last in
    let cut = last.1 in
    let new : Place = record { lit = negated cut.place.lit; reason = Some c.len-number.result } in
    let Q : List Place → Type 0 = IsFurther vars places in (
      ap length c.in_ok-log.ensures.ok.1 ∙ length_push c.args.query.now.lines line,
      subst Q (sym (c.flip.ensures.places cut.place.lit (lits_at places q cut.place cut.is)))
          (further_by_flip vars q places cut.place new cut.is cut.decided refl c.flip.ensures.short),
    )
