use Rattle.std.proofs.Common.{◌≡◌, ◌∙◌, ◌<◌, ◌∷◌, ◌++◌, [], ℕ, Some, length, refl, ap, subst, sym}
use Rattle.std.specs.Prelude.{slice_set}
use Rattle.ja_base.specs.Circuit.{Problem}
use Rattle.store_core.specs.declared.mark.Mark.TheVariants as mark
use Rattle.store_core.specs.Steps.{State, mark_of}
use Rattle.store_core.specs.Boards.{BoardValue, IsBoard, shown}
use Rattle.store_core.proofs.Events.{proves, prove_state, prove_entry, did_before}
use Rattle.store_core.proofs.board.Board.settle_proof.Goals as goal

pub invariant_of-self-2 : goal.invariant_of-self-2
invariant_of-self-2 g c =
    let grown = c.in_ok-added.ensures in
    let p : ℕ = c.args.prop in
    let P : Problem → Type 0 = λ t.
    IsBoard g.C.ClosedSet.covers g.C.ClosedSet.bound t c.self.inside.opening
    (record {
      place = c.self.inside.place;
      clauses = g.C.ClosedSet.clauses c.grow.new.list;
      marks = slice_set c.self.inside.marks.items p (Some mark.Proved);
      cancel = c.self.inside.cancel;
    }) (shown g.V.Shown.property g.V.Shown.stimulus c.self.inside.failures) c.fill.new.journal in
    let W : BoardValue _ _ → Type 0 = λ v. p < length v.opening.assumed in
    let T : BoardValue _ _ → Type 0 = λ v. g.C.ClosedSet.task c.args.list.now ≡ g.C.ClosedSet.task v.list in
    let U : Problem → Type 0 = λ t. g.C.ClosedSet.covers t (g.C.ClosedSet.clauses c.args.list.now) p in
    subst P (sym c.grow.ensures.task)
    (proves _ _ g.met.C.ClosedSet.grows _ _ _ _ _ _ c.args.seat c.self.invariant p (g.C.ClosedSet.clauses c.grow.new.list)
    (g.C.ClosedSet.clauses c.args.list.now) c.in_ok-added.added c.len-upto.result (subst W (sym c.self.view_is) c.requires.within)
    (ap (λ (v : BoardValue _ _). mark_of v.state.marks p) c.self.view_is ∙ c.requires.free)
    (subst U (subst T (sym c.self.view_is) c.requires.task) c.requires.covers) grown.clauses grown.fresh c.len-upto.ensures.value
    (c.fill.ensures c.self.inside.journal grown.place))

pub returns-clause-did : goal.returns-clause-did
returns-clause-did g c =
    let grown = c.in_ok-added.ensures in
    let p : ℕ = c.args.prop in
    let free = ap (λ (v : BoardValue _ _). mark_of v.state.marks p) c.self.view_is ∙ c.requires.free in
    let s : State = record {
      place = c.self.inside.place;
      clauses = g.C.ClosedSet.clauses c.self.inside.list;
      marks = c.self.inside.marks.items;
      cancel = c.self.inside.cancel;
    } in
    did_before _ _ _ _ _ _ c.self.view_is record {
      opening_is = refl;
      state_is = prove_state c.self.inside.opening s c.args.seat p (g.C.ClosedSet.clauses c.grow.new.list)
          (g.C.ClosedSet.clauses c.args.list.now) free grown.clauses;
      journal_is =
          c.fill.ensures c.self.inside.journal grown.place
          ∙ ap (λ e. c.self.inside.journal ++ e ∷ [])
          (prove_entry c.self.inside.opening s c.args.seat p (g.C.ClosedSet.clauses c.grow.new.list)
          (g.C.ClosedSet.clauses c.args.list.now)
          c.in_ok-added.added c.len-upto.result free grown.clauses grown.fresh c.len-upto.ensures.value);
      task_is = c.grow.ensures.task;
    }
