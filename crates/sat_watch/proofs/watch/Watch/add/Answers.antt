use Rattle.std.proofs.Common.{◌≡◌, ℕ, ◌≤◌, List, All, length, sym, subst, ap}
use Rattle.ja_base.specs.Clauses.{IsBelow}
use Rattle.sat_plain.specs.Trails.{lits_of}
use Rattle.sat_watch.specs.Stores.{Stored, Watched, IsPut, IsHeld, over}
use Rattle.sat_watch.specs.Fronts.{IsTended}
use Rattle.sat_watch.specs.Watching.{IsPaired}
use Rattle.sat_watch.proofs.SlotLemmas.{All-put}
use Rattle.sat_watch.proofs.HeldLemmas.{held_put}
use Rattle.sat_watch.proofs.TendLemmas.{tended_put, tended_but, front_noted}
use Rattle.sat_watch.proofs.FrontLemmas.{front_same}
use Rattle.sat_watch.proofs.watch.Watch.add.Goals as goal

pub invariant_of-self-2 : goal.invariant_of-self-2
invariant_of-self-2 c =
    let old : Stored = c.self.inside.store in
    let vars : ℕ = c.self.inside.trail.vars in
    let at : ℕ = c.free_slot-at.result in
    let put : IsPut old c.args.clause c.args.tag c.put.new.self at = c.in_ok-put.ensures.ok in
    let R : ℕ → Type 0 = λ n. IsBelow n c.args.clause in
    let below = subst R (sym (ap (λ (w : Watched). w.trail.vars) c.self.view_is)) c.requires in
    let H : List ℕ → Type 0 = λ v. 2 ≤ length v → IsPaired c.enter.new.self at v in
    let paired = subst H c.lits.ensures.value c.in_ok-enter.ensures.paired in
    let P : List (List ℕ) → Type 0 = All (IsBelow vars) in (
      subst P (sym put.clauses) (All-put (IsBelow vars) old.clauses at c.args.clause c.self.invariant.0 below),
      held_put old c.put.new.self c.self.inside.trail c.args.clause c.args.tag at c.self.invariant.1 put,
      tended_put vars old c.put.new.self (lits_of c.self.inside.trail.places) c.self.inside.watches c.enter.new.self
          c.self.inside.front c.note.new.self c.args.clause c.args.tag at c.free_slot-at.ensures.wide put
          c.enter.ensures.but c.in_ok-enter.ensures.long paired c.note.ensures.marks c.in_ok-note.ensures.log c.note.ensures.head
          c.note.ensures.seen c.note.ensures.dirty c.self.invariant.2,
    )

pub invariant_of-self : goal.invariant_of-self
invariant_of-self c =
    let i = c.self.invariant in (
      i.0,
      i.1,
      tended_but c.self.inside.trail.vars c.self.inside.store (lits_of c.self.inside.trail.places) c.self.inside.watches
          c.enter.new.self c.self.inside.front c.self.inside.front c.free_slot-at.result c.enter.ensures.but
          c.free_slot-at.ensures.free i.2.front_is i.2,
    )

pub invariant_of-self-in_err-note : goal.invariant_of-self-in_err-note
invariant_of-self-in_err-note c =
    let i = c.self.invariant in
    let vars : ℕ = c.self.inside.trail.vars in
    let lits : List ℕ = lits_of c.self.inside.trail.places in (
      i.0,
      i.1,
      tended_but vars c.self.inside.store lits c.self.inside.watches c.enter.new.self c.self.inside.front c.note.new.self
          c.free_slot-at.result c.enter.ensures.but c.free_slot-at.ensures.free
          (front_same vars c.self.inside.store c.self.inside.watches lits c.self.inside.front c.note.new.self c.note.ensures.marks
          c.in_err-note.ensures.err c.note.ensures.head c.note.ensures.seen c.note.ensures.dirty i.2.front_is) i.2,
    )

pub invariant_of-self-in_err-put : goal.invariant_of-self-in_err-put
invariant_of-self-in_err-put c =
    let i = c.self.invariant in
    let vars : ℕ = c.self.inside.trail.vars in
    let lits : List ℕ = lits_of c.self.inside.trail.places in
    let same : c.put.new.self ≡ c.self.inside.store = c.in_err-put.ensures.err in
    let P : Stored → Type 0 = λ s. All (IsBelow vars) s.clauses in
    let Q : Stored → Type 0 = λ s. IsHeld (over c.self.inside.trail s) in
    let R : Stored → Type 0 = λ s. IsTended vars s lits c.enter.new.self c.note.new.self in (
      subst P (sym same) i.0,
      subst Q (sym same) i.1,
      subst R (sym same) (tended_but vars c.self.inside.store lits c.self.inside.watches c.enter.new.self c.self.inside.front
          c.note.new.self c.free_slot-at.result c.enter.ensures.but c.free_slot-at.ensures.free
          (front_noted vars c.self.inside.store c.self.inside.watches lits c.self.inside.front c.note.new.self
          c.free_slot-at.result c.note.ensures.marks c.in_ok-note.ensures.log c.note.ensures.head c.note.ensures.seen
          c.note.ensures.dirty i.2.front_is) i.2),
    )
