use Rattle.std.proofs.Common.{ℕ, List, All, length, take, sym, subst, ◌∙◌, ap, arith}
use Rattle.ja_base.specs.Clauses.{IsBelow}
use Rattle.sat_plain.specs.Trails.{lits_of}
use Rattle.sat_plain.proofs.PlaceLemmas.{lits_take, lits_length}
use Rattle.sat_watch.specs.Stores.{Watched}
use Rattle.sat_watch.specs.Fronts.{IsFront, IsTended}
use Rattle.sat_watch.proofs.HeldLemmas.{held_take}
use Rattle.sat_watch.proofs.watch.Watch.undo.Goals as goal

pub retreat-requires-clause-to : goal.retreat-requires-clause-to
retreat-requires-clause-to c =
    let r = c.requires in
    omega (arith, r, c.len.ensures.value, ap (λ (w : Watched). length w.trail.places) c.self.view_is)

pub retreat-requires-clause-len : goal.retreat-requires-clause-len
retreat-requires-clause-len c =
    let is = c.len.ensures.is in
    omega (arith, is.short, c.len.ensures.value, lits_length c.self.inside.trail.places, c.self.invariant.2.front_is.wide)

pub invariant_of-self : goal.invariant_of-self
invariant_of-self c =
    let vars : ℕ = c.self.inside.trail.vars in
    let lits : List ℕ = lits_of c.self.inside.trail.places in
    let P : ℕ → Type 0 = λ n. All (IsBelow n) c.self.inside.store.clauses in
    let front : IsFront vars c.self.inside.store c.self.inside.watches (take c.args.to lits) c.retreat.new.self =
    c.retreat.ensures vars c.self.inside.store c.self.inside.watches lits c.self.invariant.2.front_is
    (c.len.ensures.value ∙ sym (lits_length c.self.inside.trail.places)) in
    let Q : List ℕ → Type 0 = λ v. IsFront vars c.self.inside.store c.self.inside.watches v c.retreat.new.self in
    let R : ℕ → Type 0 = λ n. IsTended n c.self.inside.store (lits_of c.undo.new.self.places) c.self.inside.watches c.retreat.new.self in (
      subst P (sym c.undo.ensures.vars) c.self.invariant.0,
      held_take c.self.inside.store c.self.inside.trail c.undo.new.self c.args.to c.self.invariant.1 c.undo.ensures.places,
      subst R (sym c.undo.ensures.vars) (record {
        wide = c.self.invariant.2.wide;
        long = c.self.invariant.2.long;
        paired = c.self.invariant.2.paired;
        front_is = subst Q (sym (ap lits_of c.undo.ensures.places ∙ lits_take c.args.to c.self.inside.trail.places)) front;
      }),
    )
