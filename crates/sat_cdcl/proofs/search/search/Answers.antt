use Rattle.std.proofs.Common.{◌≡◌, ℕ, ◌^◌, ◌<◌, List, refl, ◌∙◌, ap, arith}
use Rattle.sat_plain.specs.declared.place.Place.{Place}
use Rattle.sat_plain.specs.Trails.{kinds_of}
use Rattle.sat_plain.specs.Rank.{rank}
use Rattle.sat_plain.proofs.RankLemmas.{rank_below}
use Rattle.sat_cdcl.specs.Files.{places_of}
use Rattle.sat_cdcl.proofs.FileLemmas.{kept_chain}
use Rattle.sat_cdcl.proofs.LoopLemmas.{searching_first, searching_more, within_bound, model_front}
use Rattle.sat_cdcl.proofs.search.search.Goals as goal

pub loop-next-init : goal.loop-next-init
loop-next-init g c =
    record {
      searching = searching_first c.args.under.now c.args.db.now c.args.meter.now c.args.query c.args.step
          c.requires.under_way c.requires.step c.requires.lines;
      order = refl;
      flag = record { kept = refl; later = omega arith };
    }

pub loop-next-smaller : goal.loop-next-smaller
loop-next-smaller g c =
    let v : ℕ = c.loop-next.db.watched.trail.vars in
    let w : ℕ = c.turn.new.db.watched.trail.vars in
    let news : List Place = places_of c.turn.new.db in
    let same : w ≡ v = c.turn.ensures.kept.vars in
    let top : 3 ^ w ≡ 3 ^ v = ap (λ n. 3 ^ n) same in
    let now : rank w (kinds_of news) ≡ rank v (kinds_of news) = ap (λ n. rank n (kinds_of news)) same in
    let further : rank v (kinds_of (places_of c.loop-next.db)) < rank v (kinds_of news) = c.in-GoesOn.ensures.turned.further in
    let below = rank_below v (kinds_of news) in
    omega arith

pub loop-next-preserved : goal.loop-next-preserved
loop-next-preserved g c =
    let i = c.loop-next.invariant in
    let e = c.in-GoesOn.ensures in
    record {
      searching = searching_more c.args.under.now c.args.db.now c.args.meter.now c.loop-next.db c.turn.new.db c.loop-next.query
          c.turn.new.query c.loop-next.step c.in-GoesOn.next c.loop-next.meter c.turn.new.meter i.searching e.kept e.turned
          e.ticked;
      order = e.order ∙ i.order;
      flag = record { kept = e.flag.kept ∙ i.flag.kept; later = omega (arith, i.flag.later, e.flag.later) };
    }

pub returns-in-Meets-clause-answer : goal.returns-in-Meets-clause-answer
returns-in-Meets-clause-answer g c =
    let e = c.in-Meets.ensures in
    model_front c.args.under.now c.args.db.now c.loop-next.db c.turn.new.db c.in-Meets.row
    c.loop-next.invariant.searching.kept e.kept e.turned

pub returns-in-Meets-clause-kept : goal.returns-in-Meets-clause-kept
returns-in-Meets-clause-kept g c =
    kept_chain c.args.db.now c.loop-next.db c.turn.new.db c.loop-next.invariant.searching.kept c.turn.ensures.kept

pub returns-in-Meets-clause-bounded : goal.returns-in-Meets-clause-bounded
returns-in-Meets-clause-bounded g c =
    within_bound c.args.under.now c.args.db.now c.args.meter.now c.loop-next.db c.loop-next.query c.loop-next.step
    c.loop-next.meter c.turn.new.meter c.loop-next.invariant.searching c.turn.ensures.bounded

pub returns-in-Refutes-clause-kept : goal.returns-in-Refutes-clause-kept
returns-in-Refutes-clause-kept g c =
    kept_chain c.args.db.now c.loop-next.db c.turn.new.db c.loop-next.invariant.searching.kept c.turn.ensures.kept

pub returns-in-Refutes-clause-bounded : goal.returns-in-Refutes-clause-bounded
returns-in-Refutes-clause-bounded g c =
    within_bound c.args.under.now c.args.db.now c.args.meter.now c.loop-next.db c.loop-next.query c.loop-next.step
    c.loop-next.meter c.turn.new.meter c.loop-next.invariant.searching c.turn.ensures.bounded

pub returns-in-Spent-clause-kept : goal.returns-in-Spent-clause-kept
returns-in-Spent-clause-kept g c =
    kept_chain c.args.db.now c.loop-next.db c.turn.new.db c.loop-next.invariant.searching.kept c.turn.ensures.kept

pub returns-in-Spent-clause-bounded : goal.returns-in-Spent-clause-bounded
returns-in-Spent-clause-bounded g c =
    within_bound c.args.under.now c.args.db.now c.args.meter.now c.loop-next.db c.loop-next.query c.loop-next.step
    c.loop-next.meter c.turn.new.meter c.loop-next.invariant.searching c.turn.ensures.bounded

pub returns-in-Stopped-clause-kept : goal.returns-in-Stopped-clause-kept
returns-in-Stopped-clause-kept g c =
    kept_chain c.args.db.now c.loop-next.db c.turn.new.db c.loop-next.invariant.searching.kept c.turn.ensures.kept

pub returns-in-Stopped-clause-bounded : goal.returns-in-Stopped-clause-bounded
returns-in-Stopped-clause-bounded g c =
    within_bound c.args.under.now c.args.db.now c.args.meter.now c.loop-next.db c.loop-next.query c.loop-next.step
    c.loop-next.meter c.turn.new.meter c.loop-next.invariant.searching c.turn.ensures.bounded

pub returns-in-Memory-clause-kept : goal.returns-in-Memory-clause-kept
returns-in-Memory-clause-kept g c =
    kept_chain c.args.db.now c.loop-next.db c.turn.new.db c.loop-next.invariant.searching.kept c.turn.ensures.kept

pub returns-in-Memory-clause-bounded : goal.returns-in-Memory-clause-bounded
returns-in-Memory-clause-bounded g c =
    within_bound c.args.under.now c.args.db.now c.args.meter.now c.loop-next.db c.loop-next.query c.loop-next.step
    c.loop-next.meter c.turn.new.meter c.loop-next.invariant.searching c.turn.ensures.bounded
