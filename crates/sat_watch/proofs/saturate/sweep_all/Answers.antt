use Rattle.std.proofs.Common.{ℕ, length, inl, inr, sym, subst, ◌∙◌, arith}
use Rattle.std.specs.List.{All}
use Rattle.std.proofs.lemmas.Bool.{OnFalse_at}
use Rattle.std.proofs.lemmas.Bool.Decides.{eqb_tells}
use Rattle.ja_base.specs.Clauses.{IsBelow}
use Rattle.sat_watch.specs.Stores.{IsThere}
use Rattle.sat_watch.proofs.StepLemmas.{forced_chain}
use Rattle.sat_watch.proofs.FrontLemmas.{fine_grown, longer_of}
use Rattle.sat_watch.proofs.saturate.sweep_all.Goals as goal

pub returns-then-examine-clause-grown : goal.returns-then-examine-clause-grown
returns-then-examine-clause-grown c =
    forced_chain c.args.trail.now.places c.loop-slot.trail.places c.examine.new.trail.places c.loop-slot.invariant.grown
    c.examine.ensures.grown

pub loop-slot-preserved : goal.loop-slot-preserved
loop-slot-preserved c =
    let i = c.loop-slot.invariant in
    let e = c.examine.ensures in
    let slot : ℕ = c.loop-slot.slot in
    let B : ℕ → Type 0 = λ n. All (IsBelow n) c.args.store.now.clauses in
    record {
      vars = e.vars ∙ i.vars;
      below = subst B (sym e.vars) i.below;
      grown = forced_chain c.args.trail.now.places c.loop-slot.trail.places c.examine.new.trail.places i.grown e.grown;
      held = e.held;
      is = e.is;
      fine = λ k clause low there.
          elim (eqb_tells k slot) [
            | inl same ↦
                let P : ℕ → Type 0 = λ n. IsThere c.args.store.now n clause in
                inl (OnFalse_at c.if-examine.false e.still clause (subst P same.1 there))
            | inr other ↦
                let o = other.1 in
                fine_grown c.loop-slot.trail.places c.examine.new.trail.places (length c.args.trail.now.places) clause e.grown
                (longer_of c.args.trail.now.places c.loop-slot.trail.places i.grown)
                (i.fine k clause (grind (arith, low, o)) there)
          ];
    }
