use Rattle.std.proofs.Common.{ℕ, Bool, List, inr, sym, subst, ◌∙◌, arith}
use Rattle.std.specs.List.{All}
use Rattle.ja_base.specs.Clauses.{IsBelow}
use Rattle.sat_plain.specs.declared.place.Place.{Place}
use Rattle.sat_plain.specs.Trails.{lits_of}
use Rattle.sat_watch.specs.Watching.{Watching}
use Rattle.sat_watch.specs.Visits.{IsOpenPair}
use Rattle.sat_watch.proofs.StepLemmas.{forced_chain}
use Rattle.sat_watch.proofs.SafeLemmas.{keeps_chain, keeps_paired, open_watched}
use Rattle.sat_watch.proofs.PassLemmas.{grown_has}
use Rattle.sat_watch.proofs.look.look_at_long.Goals as goal

pub returns-in-None-clause-looked : goal.returns-in-None-clause-looked
returns-in-None-clause-looked c = λ clause there.
    let i = c.loop.invariant in
    let P : List Bool → Type 0 = λ v. IsOpenPair v c.loop.watches c.args.slot in
    inr (open_watched c.loop.trail.vars c.loop.trail.values (lits_of c.loop.trail.places) c.loop.watches c.args.slot clause i.is
    (i.paired clause there) (subst P c.values.ensures.value c.in-None.ensures.none))

pub returns-in-Safe-clause-grown : goal.returns-in-Safe-clause-grown
returns-in-Safe-clause-grown c =
    forced_chain c.args.trail.now.places c.loop.trail.places c.visit_by.new.trail.places c.loop.invariant.grown c.visit_by.ensures.grown

pub returns-in-Safe-clause-keeps : goal.returns-in-Safe-clause-keeps
returns-in-Safe-clause-keeps c =
    keeps_chain c.args.store.now (lits_of c.args.trail.now.places) (lits_of c.loop.trail.places) c.args.watches.now c.loop.watches
    c.visit_by.new.watches (grown_has c.args.trail.now.places c.loop.trail.places c.loop.invariant.grown)
    c.loop.invariant.keeps c.visit_by.ensures.keeps

pub returns-in-False-clause-grown : goal.returns-in-False-clause-grown
returns-in-False-clause-grown c =
    forced_chain c.args.trail.now.places c.loop.trail.places c.visit_by.new.trail.places c.loop.invariant.grown c.visit_by.ensures.grown

pub returns-in-False-clause-keeps : goal.returns-in-False-clause-keeps
returns-in-False-clause-keeps c =
    keeps_chain c.args.store.now (lits_of c.args.trail.now.places) (lits_of c.loop.trail.places) c.args.watches.now c.loop.watches
    c.visit_by.new.watches (grown_has c.args.trail.now.places c.loop.trail.places c.loop.invariant.grown)
    c.loop.invariant.keeps c.visit_by.ensures.keeps

pub returns-in-Unsettled-clause-grown : goal.returns-in-Unsettled-clause-grown
returns-in-Unsettled-clause-grown c =
    forced_chain c.args.trail.now.places c.loop.trail.places c.visit_by.new.trail.places c.loop.invariant.grown c.visit_by.ensures.grown

pub returns-in-Unsettled-clause-keeps : goal.returns-in-Unsettled-clause-keeps
returns-in-Unsettled-clause-keeps c =
    keeps_chain c.args.store.now (lits_of c.args.trail.now.places) (lits_of c.loop.trail.places) c.args.watches.now c.loop.watches
    c.visit_by.new.watches (grown_has c.args.trail.now.places c.loop.trail.places c.loop.invariant.grown)
    c.loop.invariant.keeps c.visit_by.ensures.keeps

pub loop-preserved : goal.loop-preserved
loop-preserved c =
    let i = c.loop.invariant in
    let e = c.visit_by.ensures in
    let first : List Place = c.args.trail.now.places in
    let before : List Place = c.loop.trail.places in
    let after : List Place = c.visit_by.new.trail.places in
    let b : Watching = c.loop.watches in
    let new : Watching = c.visit_by.new.watches in
    let B : ℕ → Type 0 = λ n. All (IsBelow n) c.args.store.now.clauses in
    record {
      vars = e.vars ∙ i.vars;
      below = subst B (sym e.vars) i.below;
      grown = forced_chain first before after i.grown e.grown;
      held = e.held;
      is = e.is;
      wide = omega (arith, i.wide, e.vars, e.keeps.width);
      long = omega (arith, i.long, e.keeps.long);
      paired = λ clause there.
          keeps_paired c.args.store.now (lits_of before) b new c.args.slot clause e.keeps there (i.paired clause there);
      keeps =
          keeps_chain c.args.store.now (lits_of first) (lits_of before) c.args.watches.now b new
          (grown_has first before i.grown) i.keeps e.keeps;
    }
