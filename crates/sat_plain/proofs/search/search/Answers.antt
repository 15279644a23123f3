use Rattle.std.proofs.Common.{◌≡◌, ℕ, ◌^◌, ◌<◌, List, take, refl, subst, ◌∙◌, ap, arith}
use Rattle.refute_check.specs.declared.lines.Refuted.{Refuted}
use Rattle.sat_plain.specs.declared.place.Place.{Place}
use Rattle.sat_plain.specs.Trails.{lits_of, kinds_of}
use Rattle.sat_plain.specs.Rank.{rank}
use Rattle.sat_plain.specs.Turns.{IsModel, IsCore}
use Rattle.sat_plain.proofs.RankLemmas.{rank_below}
use Rattle.sat_plain.proofs.SearchLemmas.{within_bound, model_of_old, refutation_of, extended_chain, as_at_first}
use Rattle.sat_plain.proofs.search.search.Goals as goal

pub loop-row-smaller : goal.loop-row-smaller
loop-row-smaller g c =
    let v : ℕ = c.loop-row.query.trail.vars in
    let w : ℕ = c.turn.new.query.trail.vars in
    let news : List Place = c.turn.new.query.trail.places in
    let same : w ≡ v = c.turn.ensures.vars in
    let top : 3 ^ w ≡ 3 ^ v = ap (λ n. 3 ^ n) same in
    let now : rank w (kinds_of news) ≡ rank v (kinds_of news) = ap (λ n. rank n (kinds_of news)) same in
    let further : rank v (kinds_of c.loop-row.query.trail.places) < rank v (kinds_of news) = c.in-GoesOn.ensures.turned in
    let below = rank_below v (kinds_of news) in
    omega arith

pub returns-in-Meets-clause-answer : goal.returns-in-Meets-clause-answer
returns-in-Meets-clause-answer g c =
    let i = c.loop-row.invariant in
    let next = as_at_first c.args.query.trail.vars c.args.query.assumed c.loop-row.query.trail.vars c.loop-row.query.assumed
    c.loop-row.query.trail.places c.turn.new.query.trail.places c.loop-row.query.lines c.turn.new.query.lines
    c.loop-row.clauses c.turn.new.clauses i.0 i.1 c.turn.ensures.next in
    let store = extended_chain c.args.clauses.now c.loop-row.clauses c.turn.new.clauses i.2.store next.store in
    let P : ℕ → Type 0 = λ n. IsModel n c.turn.new.clauses.list (lits_of c.turn.new.query.trail.places) c.in-Meets.row in
    model_of_old c.args.query.trail.vars c.args.query.assumed c.args.query.trail.places c.turn.new.query.trail.places
    c.args.clauses.now.list c.turn.new.clauses.list store.more c.in-Meets.row store.list (next.base ∙ i.2.base)
    (subst P i.0 c.in-Meets.ensures.turned)

pub returns-in-Refutes-clause-answer : goal.returns-in-Refutes-clause-answer
returns-in-Refutes-clause-answer g c =
    let i = c.loop-row.invariant in
    let next = as_at_first c.args.query.trail.vars c.args.query.assumed c.loop-row.query.trail.vars c.loop-row.query.assumed
    c.loop-row.query.trail.places c.turn.new.query.trail.places c.loop-row.query.lines c.turn.new.query.lines
    c.loop-row.clauses c.turn.new.clauses i.0 i.1 c.turn.ensures.next in
    let P : ℕ → Type 0 = λ n.
    IsCore (take n (lits_of c.turn.new.query.trail.places)) c.turn.new.clauses.list c.in-Refutes.core in
    let refuted : Refuted = record { core = c.in-Refutes.core; lines = c.turn.new.query.lines } in
    refutation_of c.args.query.trail.vars c.args.query.assumed c.args.query.trail.places c.turn.new.query.trail.places
    c.args.clauses.now.list c.turn.new.query.lines c.turn.new.clauses.list refuted refl (next.base ∙ i.2.base)
    (next.log c.args.clauses.now.list i.2.log) (subst P i.1 c.in-Refutes.ensures.turned)

pub returns-in-Meets-clause-bounded : goal.returns-in-Meets-clause-bounded
returns-in-Meets-clause-bounded g c =
    within_bound c.args.query.trail.vars c.args.query.assumed c.args.query.trail.places c.args.clauses.now c.args.meter.now
    c.loop-row.query.trail.places c.loop-row.query.lines c.loop-row.clauses c.loop-row.meter c.turn.new.meter
    c.loop-row.invariant.2 c.turn.ensures.bounded

pub returns-in-Refutes-clause-bounded : goal.returns-in-Refutes-clause-bounded
returns-in-Refutes-clause-bounded g c =
    within_bound c.args.query.trail.vars c.args.query.assumed c.args.query.trail.places c.args.clauses.now c.args.meter.now
    c.loop-row.query.trail.places c.loop-row.query.lines c.loop-row.clauses c.loop-row.meter c.turn.new.meter
    c.loop-row.invariant.2 c.turn.ensures.bounded

pub returns-in-Spent-clause-bounded : goal.returns-in-Spent-clause-bounded
returns-in-Spent-clause-bounded g c =
    within_bound c.args.query.trail.vars c.args.query.assumed c.args.query.trail.places c.args.clauses.now c.args.meter.now
    c.loop-row.query.trail.places c.loop-row.query.lines c.loop-row.clauses c.loop-row.meter c.turn.new.meter
    c.loop-row.invariant.2 c.turn.ensures.bounded

pub returns-in-Stopped-clause-bounded : goal.returns-in-Stopped-clause-bounded
returns-in-Stopped-clause-bounded g c =
    within_bound c.args.query.trail.vars c.args.query.assumed c.args.query.trail.places c.args.clauses.now c.args.meter.now
    c.loop-row.query.trail.places c.loop-row.query.lines c.loop-row.clauses c.loop-row.meter c.turn.new.meter
    c.loop-row.invariant.2 c.turn.ensures.bounded

pub returns-in-Memory-clause-bounded : goal.returns-in-Memory-clause-bounded
returns-in-Memory-clause-bounded g c =
    within_bound c.args.query.trail.vars c.args.query.assumed c.args.query.trail.places c.args.clauses.now c.args.meter.now
    c.loop-row.query.trail.places c.loop-row.query.lines c.loop-row.clauses c.loop-row.meter c.turn.new.meter
    c.loop-row.invariant.2 c.turn.ensures.bounded
