use Rattle.std.proofs.Common.{ℕ, sym, subst, ◌∙◌}
use Rattle.std.specs.List.{All}
use Rattle.ja_base.specs.Clauses.{IsBelow}
use Rattle.sat_plain.specs.Trails.{lits_of}
use Rattle.sat_watch.specs.Fronts.{IsTended}
use Rattle.sat_watch.proofs.StepLemmas.{forced_chain}
use Rattle.sat_watch.proofs.propagate.look_to_the_end.Goals as goal

pub loop-front-preserved : goal.loop-front-preserved
loop-front-preserved c =
    let i = c.loop-front.invariant in
    let e = c.in-Done.ensures in
    let B : ℕ → Type 0 = λ n. All (IsBelow n) c.args.store.now.clauses in
    let T : ℕ → Type 0 =
    λ n. IsTended n c.args.store.now (lits_of c.look_on.new.trail.places) c.look_on.new.watches c.look_on.new.front in
    record {
      vars = e.vars ∙ i.vars;
      is = e.is;
      below = subst B (sym e.vars) i.below;
      grown = forced_chain c.args.trail.now.places c.loop-front.trail.places c.look_on.new.trail.places i.grown e.grown;
      held = e.held;
      ready = e.swept.0;
      tended = subst T i.vars e.tended;
    }

pub returns-in-False-clause-grown : goal.returns-in-False-clause-grown
returns-in-False-clause-grown c =
    forced_chain c.args.trail.now.places c.loop-front.trail.places c.look_on.new.trail.places c.loop-front.invariant.grown
    c.look_on.ensures.grown

pub returns-in-Unsettled-clause-grown : goal.returns-in-Unsettled-clause-grown
returns-in-Unsettled-clause-grown c =
    forced_chain c.args.trail.now.places c.loop-front.trail.places c.look_on.new.trail.places c.loop-front.invariant.grown
    c.look_on.ensures.grown
