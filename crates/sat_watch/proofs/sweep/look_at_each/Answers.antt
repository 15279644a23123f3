use Rattle.std.proofs.Common.{ℕ, ◌<◌, List, length, get_or, inl, inr, sym, subst, ◌∙◌, arith}
use Rattle.std.specs.List.{All}
use Rattle.std.proofs.lemmas.List.{get_or_default}
use Rattle.ja_base.specs.Clauses.{IsBelow}
use Rattle.sat_plain.specs.declared.place.Place.{Place}
use Rattle.sat_plain.specs.Trails.{lits_of}
use Rattle.sat_watch.specs.Stores.{IsThere}
use Rattle.sat_watch.specs.Watching.{Watching}
use Rattle.sat_watch.specs.Visits.{IsSafe}
use Rattle.sat_watch.proofs.StepLemmas.{forced_chain}
use Rattle.sat_watch.proofs.MemberLemmas.{taken_cases, taken_all}
use Rattle.sat_watch.proofs.SafeLemmas.{keeps_chain, keeps_paired, safe_kept, safe_less, safe_more}
use Rattle.sat_watch.proofs.PassLemmas.{grown_has}
use Rattle.sat_watch.proofs.sweep.look_at_each.Goals as goal

pub returns-in-False-clause-grown : goal.returns-in-False-clause-grown
returns-in-False-clause-grown c =
    forced_chain c.args.trail.now.places c.loop-slot.trail.places c.look.new.trail.places c.loop-slot.invariant.grown c.look.ensures.grown

pub returns-in-False-clause-keeps : goal.returns-in-False-clause-keeps
returns-in-False-clause-keeps c =
    let i = c.loop-slot.invariant in
    let e = c.look.ensures in
    let first : List Place = c.args.trail.now.places in
    let before : List Place = c.loop-slot.trail.places in
    let after : List Place = c.look.new.trail.places in
    let since = grown_has first before i.grown in
    keeps_chain c.args.store.now (lits_of first) (lits_of before) c.args.watches.now c.loop-slot.watches c.look.new.watches since
    i.keeps e.keeps

pub returns-in-Passed-clause-grown : goal.returns-in-Passed-clause-grown
returns-in-Passed-clause-grown c =
    forced_chain c.args.trail.now.places c.loop-slot.trail.places c.look.new.trail.places c.loop-slot.invariant.grown c.look.ensures.grown

pub returns-in-Passed-clause-keeps : goal.returns-in-Passed-clause-keeps
returns-in-Passed-clause-keeps c =
    let i = c.loop-slot.invariant in
    let e = c.look.ensures in
    let first : List Place = c.args.trail.now.places in
    let before : List Place = c.loop-slot.trail.places in
    let after : List Place = c.look.new.trail.places in
    let since = grown_has first before i.grown in
    keeps_chain c.args.store.now (lits_of first) (lits_of before) c.args.watches.now c.loop-slot.watches c.look.new.watches since
    i.keeps e.keeps

pub loop-slot-preserved : goal.loop-slot-preserved
loop-slot-preserved c =
    let i = c.loop-slot.invariant in
    let e = c.look.ensures in
    let first : List Place = c.args.trail.now.places in
    let before : List Place = c.loop-slot.trail.places in
    let after : List Place = c.look.new.trail.places in
    let since = grown_has first before i.grown in
    let more = grown_has before after e.grown in
    let store = c.args.store.now in
    let b : Watching = c.loop-slot.watches in
    let new : Watching = c.look.new.watches in
    let B : ℕ → Type 0 = λ n. All (IsBelow n) c.args.store.now.clauses in
    let at : ℕ = c.loop-slot.slot-index in
    let slots : List ℕ = c.args.slots.now in
    let slot : ℕ = get_or slots at 0 in
    let within : at < length slots = let t = c.loop-slot-test.true in omega arith in
    record {
      vars = e.vars ∙ i.vars;
      below = subst B (sym e.vars) i.below;
      grown = forced_chain first before after i.grown e.grown;
      held = e.held;
      is = e.is;
      wide = omega (arith, i.wide, e.vars, e.keeps.width);
      long = omega (arith, i.long, e.keeps.long);
      paired = λ k clause there two. keeps_paired store (lits_of before) b new k clause e.keeps there (i.paired k clause there two);
      keeps =
          keeps_chain store (lits_of first) (lits_of before) c.args.watches.now b new since i.keeps e.keeps;
      safe = λ k clause has there.
          elim (taken_cases slots at slot k within (get_or_default slots at slot 0 within) has) [
            | inl old ↦
                safe_more new (lits_of before) (lits_of after) (lits_of first) k clause more
                (safe_kept store (lits_of before) b new (lits_of before) (lits_of first) k clause e.keeps since there
                (i.safe k clause old there))
            | inr same ↦
                let P : ℕ → Type 0 = λ n. IsThere store n clause in
                let Q : ℕ → Type 0 = λ n. IsSafe new (lits_of after) (lits_of first) n clause in
                subst Q same (safe_less new (lits_of after) (lits_of after) (lits_of first) slot clause (λ m h. more m (since m h))
                (c.in-Safe.ensures.looked clause (subst P (sym same) there)))
          ];
    }

pub returns-clause-swept : goal.returns-clause-swept
returns-clause-swept c = λ k clause has there.
    c.loop-slot.invariant.safe k clause
    (taken_all c.args.slots.now c.loop-slot.slot-index k (let t = c.loop-slot-test.false in omega arith) has) there
