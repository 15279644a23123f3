use Rattle.std.proofs.Common.{◌≡◌, ℕ, ◌*◌, ◌^◌, ◌<◌, List, Bool, length, Option, option_copied, refl, subst, ◌∙◌, ap, arith}
use Rattle.ja_base.specs.Literals.{bit}
use Rattle.sat_plain.specs.declared.place.Place.{Place}
use Rattle.sat_plain.specs.Trails.{Assigned, IsAssigned, kinds_of}
use Rattle.sat_plain.specs.Rank.{rank}
use Rattle.sat_plain.proofs.RankLemmas.{rank_below}
use Rattle.sat_cdcl.specs.Files.{Filed, places_of}
use Rattle.sat_cdcl.proofs.FileLemmas.{kept_chain}
use Rattle.sat_cdcl.proofs.ProbeLemmas.{probing_first, probing_more, within_bound, open_of}
use Rattle.sat_cdcl.proofs.probe_search.search.Goals as goal

pub loop-next-init : goal.loop-next-init
loop-next-init g c =
    record {
      probing = probing_first c.args.under.now c.args.db.now c.args.question.now c.args.meter.now c.args.step
          c.requires.under_way c.requires.step;
      order = refl;
      row = refl;
      flag = record { kept = refl; later = omega arith };
    }

pub loop-next-smaller : goal.loop-next-smaller
loop-next-smaller g c =
    let v : ℕ = c.loop-next.db.watched.trail.vars in
    let w : ℕ = c.turn.new.db.watched.trail.vars in
    let news : List Place = places_of c.turn.new.db in
    let same : w ≡ v = c.turn.ensures.kept.vars in
    let top : 3 ^ w ≡ 3 ^ v = ap (λ n. 3 ^ n) same in
    let now : rank w (kinds_of news) ≡ rank v (kinds_of news) = ap (λ n. rank n (kinds_of news)) same in
    let further : rank v (kinds_of (places_of c.loop-next.db)) < rank v (kinds_of news) = c.in-GoesOn.ensures.turned.further in
    let below = rank_below v (kinds_of news) in
    omega arith

pub loop-next-preserved : goal.loop-next-preserved
loop-next-preserved g c =
    let i = c.loop-next.invariant in
    let e = c.in-GoesOn.ensures in
    record {
      probing = probing_more c.args.under.now c.args.db.now c.args.question.now c.args.meter.now c.loop-next.db c.turn.new.db
          c.loop-next.question c.turn.new.question c.loop-next.step c.in-GoesOn.next c.loop-next.meter c.turn.new.meter i.probing
          e.kept e.learns e.turned e.ticked;
      order = e.order ∙ i.order;
      row = i.row;
      flag = record { kept = e.flag.kept ∙ i.flag.kept; later = omega (arith, i.flag.later, e.flag.later) };
    }

pub returns-in-Open-clause-learns : goal.returns-in-Open-clause-learns
returns-in-Open-clause-learns g c = λ added extra h.
    c.turn.ensures.learns added extra (c.loop-next.invariant.probing.learns added extra h)

pub returns-in-Open-clause-bounded : goal.returns-in-Open-clause-bounded
returns-in-Open-clause-bounded g c =
    within_bound c.args.under.now c.args.db.now c.args.question.now c.args.meter.now c.loop-next.db c.loop-next.question
    c.loop-next.step c.loop-next.meter c.turn.new.meter c.loop-next.invariant.probing c.turn.ensures.bounded

pub returns-in-Closed-clause-learns : goal.returns-in-Closed-clause-learns
returns-in-Closed-clause-learns g c = λ added extra h.
    c.turn.ensures.learns added extra (c.loop-next.invariant.probing.learns added extra h)

pub returns-in-Closed-clause-bounded : goal.returns-in-Closed-clause-bounded
returns-in-Closed-clause-bounded g c =
    within_bound c.args.under.now c.args.db.now c.args.question.now c.args.meter.now c.loop-next.db c.loop-next.question
    c.loop-next.step c.loop-next.meter c.turn.new.meter c.loop-next.invariant.probing c.turn.ensures.bounded

pub returns-in-Spent-clause-learns : goal.returns-in-Spent-clause-learns
returns-in-Spent-clause-learns g c = λ added extra h.
    c.turn.ensures.learns added extra (c.loop-next.invariant.probing.learns added extra h)

pub returns-in-Spent-clause-bounded : goal.returns-in-Spent-clause-bounded
returns-in-Spent-clause-bounded g c =
    within_bound c.args.under.now c.args.db.now c.args.question.now c.args.meter.now c.loop-next.db c.loop-next.question
    c.loop-next.step c.loop-next.meter c.turn.new.meter c.loop-next.invariant.probing c.turn.ensures.bounded

pub returns-in-Stopped-clause-learns : goal.returns-in-Stopped-clause-learns
returns-in-Stopped-clause-learns g c = λ added extra h.
    c.turn.ensures.learns added extra (c.loop-next.invariant.probing.learns added extra h)

pub returns-in-Stopped-clause-bounded : goal.returns-in-Stopped-clause-bounded
returns-in-Stopped-clause-bounded g c =
    within_bound c.args.under.now c.args.db.now c.args.question.now c.args.meter.now c.loop-next.db c.loop-next.question
    c.loop-next.step c.loop-next.meter c.turn.new.meter c.loop-next.invariant.probing c.turn.ensures.bounded

pub returns-in-Memory-clause-learns : goal.returns-in-Memory-clause-learns
returns-in-Memory-clause-learns g c = λ added extra h.
    c.turn.ensures.learns added extra (c.loop-next.invariant.probing.learns added extra h)

pub returns-in-Memory-clause-bounded : goal.returns-in-Memory-clause-bounded
returns-in-Memory-clause-bounded g c =
    within_bound c.args.under.now c.args.db.now c.args.question.now c.args.meter.now c.loop-next.db c.loop-next.question
    c.loop-next.step c.loop-next.meter c.turn.new.meter c.loop-next.invariant.probing c.turn.ensures.bounded

pub returns-in-Closed-clause-kept : goal.returns-in-Closed-clause-kept
returns-in-Closed-clause-kept g c =
    kept_chain c.args.db.now c.loop-next.db c.turn.new.db c.loop-next.invariant.probing.kept c.turn.ensures.kept

pub returns-in-Open-clause-answer : goal.returns-in-Open-clause-answer
returns-in-Open-clause-answer g c =
    let db : Filed = c.turn.new.db in
    let row : List Bool = c.put_values.new.row in
    let among : Option (List ℕ) = option_copied c.args.among in
    let t : c.trail.result.now ≡ db.watched.trail = c.trail.ensures.value in
    let R : Assigned → Type 0 = λ a. (v : ℕ) → v < length row → v < a.vars → bit row v ≡ bit a.values (2 * v) in
    open_of c.args.under.now among db row (subst IsAssigned t c.put_values.ensures.is) c.trail.ensures.numbered
    c.trail.ensures.below c.in-Open.ensures.turned (subst R t c.put_values.ensures.bits)
