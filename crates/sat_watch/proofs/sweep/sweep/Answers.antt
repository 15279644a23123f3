use Rattle.std.proofs.Common.{ℕ, ◌+◌, List, refl, sym, subst, ◌∙◌, arith}
use Rattle.std.specs.List.{All}
use Rattle.ja_base.specs.Literals.{negated}
use Rattle.ja_base.specs.Clauses.{IsBelow}
use Rattle.sat_plain.specs.declared.place.Place.{Place}
use Rattle.sat_plain.specs.Trails.{lits_of}
use Rattle.sat_watch.specs.Watching.{Watching, slots_at}
use Rattle.sat_watch.specs.Visits.{Moves, AreSwept}
use Rattle.sat_watch.proofs.StepLemmas.{forced_none, forced_chain}
use Rattle.sat_watch.proofs.SafeLemmas.{keeps_none, keeps_chain, based_kept, safe_more}
use Rattle.sat_watch.proofs.SweepLemmas.{swept_begin, swept_next, swept_passed, past_end}
use Rattle.sat_watch.proofs.PassLemmas.{grown_has}
use Rattle.sat_watch.proofs.sweep.sweep.Goals as goal

pub loop-at-init : goal.loop-at-init
loop-at-init c =
    let lits : List ℕ = lits_of c.args.trail.now.places in
    record {
      vars = refl;
      below = c.requires.below;
      grown = forced_none c.args.trail.now.places;
      held = c.requires.held;
      is = c.requires.is;
      wide = c.requires.wide;
      long = c.requires.long;
      within = c.requires.within;
      wrong = c.requires.wrong;
      based = c.requires.based;
      keeps = keeps_none c.args.store.now lits c.args.watches.now;
      swept = swept_begin c.args.store.now lits c.args.watches.now c.args.lit;
    }

pub loop-at-preserved-in-Safe : goal.loop-at-preserved-in-Safe
loop-at-preserved-in-Safe c =
    let i = c.loop-at.invariant in
    let e = c.visit_slot.ensures in
    let first : List Place = c.args.trail.now.places in
    let before : List Place = c.loop-at.trail.places in
    let after : List Place = c.visit_slot.new.trail.places in
    let a : Watching = c.args.watches.now in
    let b : Watching = c.loop-at.watches in
    let new : Watching = c.visit_slot.new.watches in
    let lit : ℕ = c.args.lit in
    let at : ℕ = c.loop-at.at in
    let slot : ℕ = c.slot-slot.result in
    let B : ℕ → Type 0 = λ n. All (IsBelow n) c.args.store.now.clauses in
    let since = grown_has first before i.grown in
    let more = grown_has before after e.grown in
    let v = c.in-Safe.ensures.visited in
    let P : Watching → Type 0 = λ w. AreSwept c.args.store.now (lits_of first) a (lits_of after) w lit (at + 1) in
    record {
      vars = e.vars ∙ i.vars;
      below = subst B (sym e.vars) i.below;
      grown = forced_chain first before after i.grown e.grown;
      held = e.held;
      is = e.is;
      wide = omega (arith, i.wide, e.vars, e.keeps.width);
      long = omega (arith, i.long, e.keeps.long);
      within = omega (arith, i.within, e.keeps.width);
      wrong = let is = e.is in is.on (negated lit) (more (negated lit) (let was = i.is in was.only (negated lit) i.wrong));
      based = λ k. based_kept c.args.store.now (lits_of before) (lits_of after) b new k more e.keeps (i.based k);
      keeps = keeps_chain c.args.store.now (lits_of first) (lits_of before) a b new since i.keeps e.keeps;
      swept =
          subst P (sym v.0) (swept_next c.args.store.now (lits_of first) (lits_of before) (lits_of after) a b lit at slot i.swept
          c.slot-slot.ensures more v.1);
    }

pub loop-at-preserved : goal.loop-at-preserved
loop-at-preserved c =
    let i = c.loop-at.invariant in
    let e = c.visit_slot.ensures in
    let first : List Place = c.args.trail.now.places in
    let before : List Place = c.loop-at.trail.places in
    let after : List Place = c.visit_slot.new.trail.places in
    let a : Watching = c.args.watches.now in
    let b : Watching = c.loop-at.watches in
    let new : Watching = c.visit_slot.new.watches in
    let lit : ℕ = c.args.lit in
    let at : ℕ = c.loop-at.at in
    let slot : ℕ = c.slot-slot.result in
    let B : ℕ → Type 0 = λ n. All (IsBelow n) c.args.store.now.clauses in
    let since = grown_has first before i.grown in
    let more = grown_has before after e.grown in
    let m : Moves c.args.store.now (lits_of before) b lit at slot new = c.in-Passed.ensures.visited in
    let unmoved : AreSwept c.args.store.now (lits_of first) a (lits_of before) new lit at =
    swept_passed c.args.store.now (lits_of first) (lits_of before) a b new lit at slot i.swept i.keeps since m in
    record {
      vars = e.vars ∙ i.vars;
      below = subst B (sym e.vars) i.below;
      grown = forced_chain first before after i.grown e.grown;
      held = e.held;
      is = e.is;
      wide = omega (arith, i.wide, e.vars, e.keeps.width);
      long = omega (arith, i.long, e.keeps.long);
      within = omega (arith, i.within, e.keeps.width);
      wrong = let is = e.is in is.on (negated lit) (more (negated lit) (let was = i.is in was.only (negated lit) i.wrong));
      based = λ k. based_kept c.args.store.now (lits_of before) (lits_of after) b new k more e.keeps (i.based k);
      keeps = keeps_chain c.args.store.now (lits_of first) (lits_of before) a b new since i.keeps e.keeps;
      swept = λ known all k clause n there off s.
          safe_more new (lits_of before) (lits_of after) all k clause more (unmoved known all k clause n there off s);
    }

pub returns-in-False-clause-grown : goal.returns-in-False-clause-grown
returns-in-False-clause-grown c =
    forced_chain c.args.trail.now.places c.loop-at.trail.places c.visit_slot.new.trail.places c.loop-at.invariant.grown
    c.visit_slot.ensures.grown

pub returns-in-Unsettled-clause-grown : goal.returns-in-Unsettled-clause-grown
returns-in-Unsettled-clause-grown c =
    forced_chain c.args.trail.now.places c.loop-at.trail.places c.visit_slot.new.trail.places c.loop-at.invariant.grown
    c.visit_slot.ensures.grown

pub returns-clause-swept : goal.returns-clause-swept
returns-clause-swept c = λ known all k clause n there off s.
    let lits : List ℕ = slots_at c.loop-at.watches c.args.lit in
    c.loop-at.invariant.swept known all k clause n there
    (λ has. past_end lits c.loop-at.at k (let t = c.loop-at-test.false in omega (arith, t, c.count.ensures)) has) s
