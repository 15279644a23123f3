use Rattle.std.proofs.Common.{◌≡◌, ◌∙◌, ◌<◌, ◌∷◌, ◌++◌, [], ℕ, List, Some, length, ap, subst, sym}
use Rattle.std.specs.Prelude.{slice_set}
use Rattle.std.proofs.lemmas.List.{map-append}
use Rattle.ja_base.specs.Circuit.{Problem}
use Rattle.ja_base.specs.Failures.{Failure}
use Rattle.ja_base.specs.Runs.{IsLocalFailure}
use Rattle.store_core.specs.declared.journal.Event.TheVariants.{Settle}
use Rattle.store_core.specs.declared.journal.Reply.TheVariants as reply
use Rattle.store_core.specs.declared.mark.Mark.TheVariants as mark
use Rattle.store_core.specs.Steps.{mark_of}
use Rattle.store_core.specs.Boards.{BoardValue, IsBoard, shown}
use Rattle.store_core.proofs.Events.{shows}
use Rattle.store_core.proofs.board.Board.settle_failure.Goals as goal

pub invariant_of-self-2 : goal.invariant_of-self-2
invariant_of-self-2 g c =
    let p : ℕ = c.prop-prop.result in
    let same : p ≡ c.args.prop = c.prop-prop.ensures.value ∙ c.requires.property in
    let W : BoardValue _ _ → Type 0 = λ v. p < length v.opening.assumed in
    let N : ℕ → Type 0 = λ q. q < length c.args.self.now.opening.assumed in
    let T : BoardValue _ _ → Type 0 = λ v. g.V.Shown.task c.args.failure ≡ g.C.ClosedSet.task v.list in
    let task = subst T (sym c.self.view_is) c.requires.task in
    let L : Problem → Type 0 = λ t. IsLocalFailure t p (g.V.Shown.stimulus c.args.failure) in
    let M : ℕ → Type 0 = λ q. IsLocalFailure (g.V.Shown.task c.args.failure) q (g.V.Shown.stimulus c.args.failure) in
    let fails = subst L task (subst M (sym c.prop-prop.ensures.value) c.prop-prop.ensures.fails) in
    let old : List Failure = shown g.V.Shown.property g.V.Shown.stimulus c.self.inside.failures in
    let new : shown g.V.Shown.property g.V.Shown.stimulus c.push.new.self
    ≡ old ++ record { property = p; stimulus = g.V.Shown.stimulus c.args.failure } ∷ [] =
    ap (shown g.V.Shown.property g.V.Shown.stimulus) c.in_ok-push.ensures.ok
    ∙ map-append (λ v. record { property = g.V.Shown.property v; stimulus = g.V.Shown.stimulus v }) c.self.inside.failures
    (c.args.failure ∷ [])
    ∙ ap (λ q. old ++ record { property = q; stimulus = g.V.Shown.stimulus c.args.failure } ∷ [])
    (sym c.prop-prop.ensures.value) in
    let P : List Failure → Type 0 = λ fs.
    IsBoard g.C.ClosedSet.covers g.C.ClosedSet.bound (g.C.ClosedSet.task c.self.inside.list) c.self.inside.opening
    (record {
      place = c.self.inside.place;
      clauses = g.C.ClosedSet.clauses c.self.inside.list;
      marks = slice_set c.self.inside.marks.items p (Some mark.Fails);
      cancel = c.self.inside.cancel;
    }) fs c.push-2.new.self in
    subst P (sym new)
    (shows _ _ g.met.C.ClosedSet.grows _ _ _ _ _ _ c.args.seat c.self.invariant p c.len-upto.result
    (g.V.Shown.stimulus c.args.failure)
    (subst W (sym c.self.view_is) (subst N (sym same) c.requires.within))
    (ap (λ q. mark_of c.self.inside.marks.items q) same
    ∙ ap (λ (v : BoardValue _ _). mark_of v.state.marks c.args.prop) c.self.view_is
    ∙ c.requires.free) fails c.len-upto.ensures.value
    (c.in_default.ensures.ok ∙ ap (λ added. c.self.inside.journal
    ++ record { seat = c.args.seat; event = Settle p mark.Fails added; reply = reply.Settled c.len-upto.result } ∷ [])
    c.new-added.ensures))
