use Rattle.std.proofs.Common.{◌≡◌, ℕ, ◌+◌, ◌*◌, ◌≤◌, List, [], ◌∷◌, ◌++◌, length, slice_get, sym, subst, ◌∙◌, ap, arith}
use Rattle.std.specs.List.{All}
use Rattle.std.proofs.lemmas.List.{length_push}
use Rattle.ja_base.specs.Clauses.{IsBelow}
use Rattle.sat_plain.specs.declared.place.Place.{Place}
use Rattle.sat_plain.specs.Trails.{Assigned, AreForced, lits_of}
use Rattle.sat_watch.specs.declared.front.Front.{Front}
use Rattle.sat_watch.specs.Stores.{Stored, IsHeld, over}
use Rattle.sat_watch.specs.Fronts.{IsTended}
use Rattle.sat_watch.specs.Watching.{Watching}
use Rattle.sat_watch.proofs.TendLemmas.{tended_front, tended_listed, tended_wider}
use Rattle.sat_watch.proofs.watch.Watch.fresh.Goals as goal

held_same : (before after : Assigned) (store : Stored) → after.places ≡ before.places → IsHeld (over before store)
    → IsHeld (over after store)
held_same before after store same h =
    let P : List Place → Type 0 = AreForced store.clauses in
    record {
      forced = subst P (sym same) h.forced;
      live = λ p n place e r. h.live p n place (sym (ap (λ v. slice_get v p) same) ∙ e) r;
    }

pub invariant_of-self : goal.invariant_of-self
invariant_of-self c =
    let i = c.self.invariant in
    let trail : Assigned = c.self.inside.trail in (
      i.0,
      i.1,
      tended_front trail.vars c.self.inside.store (lits_of trail.places) c.self.inside.watches c.self.inside.front c.fresh.new.self
          (c.in_err-fresh.ensures.err trail.vars c.self.inside.store c.self.inside.watches (lits_of trail.places) i.2.front_is) i.2,
    )

pub invariant_of-self-in_err-fresh-2 : goal.invariant_of-self-in_err-fresh-2
invariant_of-self-in_err-fresh-2 c =
    let i = c.self.invariant in
    let trail : Assigned = c.self.inside.trail in
    let watches : Watching = c.self.inside.watches in
    let lits : List ℕ = lits_of trail.places in
    let P : Watching → Type 0 = λ v. IsTended trail.vars c.self.inside.store lits v c.fresh.new.self in (
      i.0,
      i.1,
      subst P (sym c.in_err-fresh-2.ensures.err)
          (tended_front trail.vars c.self.inside.store lits watches c.self.inside.front c.fresh.new.self
          (c.in_ok-fresh.ensures.ok trail.vars trail.vars c.self.inside.store watches lits (omega arith) i.2.front_is) i.2),
    )

pub invariant_of-self-in_err-fresh-3 : goal.invariant_of-self-in_err-fresh-3
invariant_of-self-in_err-fresh-3 c =
    let i = c.self.invariant in
    let trail : Assigned = c.self.inside.trail in
    let watches : Watching = c.self.inside.watches in
    let lits : List ℕ = lits_of trail.places in
    let P : Watching → Type 0 = λ v. IsTended trail.vars c.self.inside.store lits v c.fresh.new.self in (
      i.0,
      i.1,
      subst P (sym c.in_err-fresh-3.ensures.err)
          (tended_listed trail.vars c.self.inside.store lits watches c.fresh-2.new.self c.fresh.new.self c.in_ok-fresh-2.ensures.ok
          (tended_front trail.vars c.self.inside.store lits watches c.self.inside.front c.fresh.new.self
          (c.in_ok-fresh.ensures.ok trail.vars trail.vars c.self.inside.store watches lits (omega arith) i.2.front_is) i.2)),
    )

-- two lists more
two_lists : (vars : ℕ) (store : Stored) (lits : List ℕ) (a b c : Watching) (front : Front)
    → b ≡ record { lists = a.lists ++ [] ∷ []; pairs = a.pairs } → c ≡ record { lists = b.lists ++ [] ∷ []; pairs = b.pairs }
    → IsTended vars store lits a front → IsTended vars store lits c front
two_lists vars store lits a b c front one two h =
    tended_listed vars store lits b c front two (tended_listed vars store lits a b front one h)

pub invariant_of-self-in_err-var : goal.invariant_of-self-in_err-var
invariant_of-self-in_err-var c =
    let i = c.self.invariant in
    let trail : Assigned = c.self.inside.trail in
    let watches : Watching = c.self.inside.watches in
    let lits : List ℕ = lits_of trail.places in
    let same : c.fresh-4.new.self ≡ trail = c.in_err-var.ensures.err in
    let P : Assigned → Type 0 = λ t. All (IsBelow t.vars) c.self.inside.store.clauses in
    let Q : Assigned → Type 0 = λ t. IsHeld (over t c.self.inside.store) in
    let R : Assigned → Type 0 =
    λ t. IsTended t.vars c.self.inside.store (lits_of t.places) c.fresh-3.new.self c.fresh.new.self in (
      subst P (sym same) i.0,
      subst Q (sym same) i.1,
      subst R (sym same)
          (two_lists trail.vars c.self.inside.store lits watches c.fresh-2.new.self c.fresh-3.new.self c.fresh.new.self
          c.in_ok-fresh-2.ensures.ok c.in_ok-fresh-3.ensures.ok
          (tended_front trail.vars c.self.inside.store lits watches c.self.inside.front c.fresh.new.self
          (c.in_ok-fresh.ensures.ok trail.vars trail.vars c.self.inside.store watches lits (omega arith) i.2.front_is) i.2)),
    )

pub invariant_of-self-2 : goal.invariant_of-self-2
invariant_of-self-2 c =
    let i = c.self.invariant in
    let trail : Assigned = c.self.inside.trail in
    let new : Assigned = c.fresh-4.new.self in
    let a : Watching = c.self.inside.watches in
    let b : Watching = c.fresh-2.new.self in
    let z : Watching = c.fresh-3.new.self in
    let lits : List ℕ = lits_of trail.places in
    let vars : new.vars ≡ trail.vars + 1 = c.in_ok-var.ensures.ok in
    let places : new.places ≡ trail.places = c.fresh-4.ensures.places in
    let none : List ℕ = [] in
    let wide : 2 * new.vars ≤ length z.lists =
    let w = i.2.wide in
    omega (
      arith,
      w,
      vars,
      ap (λ (v : Watching). length v.lists) c.in_ok-fresh-2.ensures.ok,
      length_push a.lists none,
      ap (λ (v : Watching). length v.lists) c.in_ok-fresh-3.ensures.ok,
      length_push b.lists none,
    ) in
    let first : IsTended trail.vars c.self.inside.store lits z c.fresh.new.self =
    two_lists trail.vars c.self.inside.store lits a b z c.fresh.new.self c.in_ok-fresh-2.ensures.ok c.in_ok-fresh-3.ensures.ok
    (tended_front trail.vars c.self.inside.store lits a c.self.inside.front c.fresh.new.self
    (c.in_ok-fresh.ensures.ok trail.vars trail.vars c.self.inside.store a lits (omega arith) i.2.front_is) i.2) in
    let before : IsTended trail.vars c.self.inside.store lits z c.self.inside.front =
    two_lists trail.vars c.self.inside.store lits a b z c.self.inside.front c.in_ok-fresh-2.ensures.ok c.in_ok-fresh-3.ensures.ok i.2 in
    let R : List ℕ → Type 0 = λ v. IsTended new.vars c.self.inside.store v z c.fresh.new.self in (
      (λ k d less j e within. let b = i.0 k d less j e within in omega (arith, b, vars)),
      held_same trail new c.self.inside.store places i.1,
      subst R (sym (ap lits_of places))
          (tended_wider trail.vars new.vars c.self.inside.store lits z c.fresh.new.self c.fresh.new.self wide
          (c.in_ok-fresh.ensures.ok trail.vars new.vars c.self.inside.store z lits (omega (arith, vars)) before.front_is) first),
    )
