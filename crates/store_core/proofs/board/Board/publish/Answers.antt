use Rattle.std.proofs.Common.{◌∙◌, ◌∷◌, ◌++◌, [], refl, ap, subst, sym}
use Rattle.ja_base.specs.Circuit.{Problem}
use Rattle.store_core.specs.Steps.{State}
use Rattle.store_core.specs.Boards.{IsBoard, shown}
use Rattle.store_core.proofs.Events.{publishes, publish_state, publish_entry, did_before}
use Rattle.store_core.proofs.board.Board.publish.Goals as goal

pub invariant_of-self-2 : goal.invariant_of-self-2
invariant_of-self-2 g c =
    let grown = c.in_ok-added.ensures in
    let P : Problem → Type 0 = λ t.
    IsBoard g.C.ClosedSet.covers g.C.ClosedSet.bound t c.self.inside.opening
    (record {
      place = c.self.inside.place;
      clauses = g.C.ClosedSet.clauses c.grow.new.list;
      marks = c.self.inside.marks.items;
      cancel = c.self.inside.cancel;
    }) (shown g.V.Shown.property g.V.Shown.stimulus c.self.inside.failures) c.fill.new.journal in
    subst P (sym c.grow.ensures.task)
    (publishes _ _ g.met.C.ClosedSet.grows _ _ _ _ _ _ c.args.seat c.self.invariant (g.C.ClosedSet.clauses c.grow.new.list)
    (g.C.ClosedSet.clauses c.args.part.now) c.in_ok-added.added c.len-upto.result grown.clauses grown.fresh
    c.len-upto.ensures.value
    (c.fill.ensures c.self.inside.journal grown.place))

pub returns-clause-did : goal.returns-clause-did
returns-clause-did g c =
    let grown = c.in_ok-added.ensures in
    let s : State = record {
      place = c.self.inside.place;
      clauses = g.C.ClosedSet.clauses c.self.inside.list;
      marks = c.self.inside.marks.items;
      cancel = c.self.inside.cancel;
    } in
    did_before _ _ _ _ _ _ c.self.view_is record {
      opening_is = refl;
      state_is = publish_state c.self.inside.opening s c.args.seat (g.C.ClosedSet.clauses c.grow.new.list)
          (g.C.ClosedSet.clauses c.args.part.now) grown.clauses;
      journal_is =
          c.fill.ensures c.self.inside.journal grown.place
          ∙ ap (λ e. c.self.inside.journal ++ e ∷ [])
          (publish_entry c.self.inside.opening s c.args.seat (g.C.ClosedSet.clauses c.grow.new.list)
          (g.C.ClosedSet.clauses c.args.part.now)
          c.in_ok-added.added c.len-upto.result grown.clauses grown.fresh c.len-upto.ensures.value);
      task_is = c.grow.ensures.task;
    }
