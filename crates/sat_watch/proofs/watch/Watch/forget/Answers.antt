use Rattle.std.proofs.Common.{ℕ, List, All, sym, subst, ap}
use Rattle.ja_base.specs.Clauses.{IsBelow}
use Rattle.sat_plain.specs.declared.place.Place.{Place}
use Rattle.sat_plain.specs.Trails.{lits_of}
use Rattle.sat_watch.specs.Stores.{Stored, Watched, IsIdle}
use Rattle.sat_watch.proofs.HeldLemmas.{held_forget}
use Rattle.sat_watch.proofs.TendLemmas.{tended_forget}
use Rattle.sat_watch.proofs.watch.Watch.forget.Goals as goal

pub invariant_of-self : goal.invariant_of-self
invariant_of-self c =
    let old : Stored = c.self.inside.store in
    let clauses = ap (λ (s : Stored). s.clauses) c.forget.ensures in
    let live = ap (λ (s : Stored). s.live) c.forget.ensures in
    let P : List (List ℕ) → Type 0 = All (IsBelow c.self.inside.trail.vars) in
    let Q : List Place → Type 0 = λ v. IsIdle v c.args.at in
    let idle = subst Q (sym (ap (λ (w : Watched). w.trail.places) c.self.view_is)) c.requires.idle in (
      subst P (sym clauses) c.self.invariant.0,
      held_forget old c.forget.new.self c.self.inside.trail c.args.at c.self.invariant.1 idle clauses live,
      tended_forget c.self.inside.trail.vars old c.forget.new.self (lits_of c.self.inside.trail.places) c.self.inside.watches
          c.leave.new.self c.self.inside.front c.args.at clauses live c.leave.ensures c.self.invariant.2,
    )
