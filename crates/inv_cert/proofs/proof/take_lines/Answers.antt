use Rattle.std.proofs.Common.{◌+◌, [], ◌∷◌, sym, subst, ◌∙◌, arith}
use Rattle.std.proofs.lemmas.List.{nil_from_length}
use Rattle.refute_check.specs.Checked.{Checked}
use Rattle.inv_cert.proofs.ProofLemmas.{IsTaking, IsTaking-none, IsTaking-as, IsTaking-more, refused_at, none_refused, HasTaken-all, is_accepted}
use Rattle.inv_cert.proofs.proof.take_lines.Goals as goal

pub loop-line-init : goal.loop-line-init
loop-line-init c =
    let first = c.args.checker.now in
    IsTaking-as first.vars first.list c.args.lines.items 0 c.args.lines.items c.into_iter-line-iterator.result.rest.items first
    (sym c.into_iter-line-iterator.ensures.into_iter_gives.0)
    (IsTaking-none first.vars first.list c.args.lines.items first c.requires.loaded c.requires.room)

pub line-requires : goal.line-requires
line-requires c =
    let first = c.args.checker.now in
    let h = IsTaking-as first.vars first.list c.args.lines.items c.loop-line.at c.loop-line.line-iterator.rest.items
    (c.in-Some.line ∷ c.next.new.self.rest.items)
    c.loop-line.checker c.in-Some.ensures.steps.0 c.loop-line.invariant in
    omega (arith, h.room)

pub returns-in-Err-clause-refused : goal.returns-in-Err-clause-refused
returns-in-Err-clause-refused c =
    let first = c.args.checker.now in
    let h = IsTaking-as first.vars first.list c.args.lines.items c.loop-line.at c.loop-line.line-iterator.rest.items
    (c.in-Some.line ∷ c.next.new.self.rest.items)
    c.loop-line.checker c.in-Some.ensures.steps.0 c.loop-line.invariant in
    refused_at first.vars first.list c.args.lines.items c.args.number c.loop-line.at c.in-Err.refused.hint c.in-Some.line
    c.next.new.self.rest.items c.loop-line.checker h
    c.in-Err.ensures.hint

pub overflow_add-at : goal.overflow_add-at
overflow_add-at c =
    let first = c.args.checker.now in
    let h = IsTaking-as first.vars first.list c.args.lines.items c.loop-line.at c.loop-line.line-iterator.rest.items
    (c.in-Some.line ∷ c.next.new.self.rest.items)
    c.loop-line.checker c.in-Some.ensures.steps.0 c.loop-line.invariant in
    omega (arith, h.count, c.requires.short)

pub loop-line-preserved : goal.loop-line-preserved
loop-line-preserved c =
    let first = c.args.checker.now in
    let left = c.next.new.self.rest.items in
    let h = IsTaking-as first.vars first.list c.args.lines.items c.loop-line.at c.loop-line.line-iterator.rest.items
    (c.in-Some.line ∷ left)
    c.loop-line.checker c.in-Some.ensures.steps.0 c.loop-line.invariant in
    let P : Checked → Type 0 = IsTaking first.vars first.list c.args.lines.items (c.loop-line.at + 1) left in
    subst P (sym c.in_default.ensures.ok)
    (IsTaking-more first.vars first.list c.args.lines.items c.loop-line.at c.in-Some.line left c.loop-line.checker h
    (is_accepted c.loop-line.checker.vars c.loop-line.checker.list c.in-Some.line.clause c.in-Some.line.hints
    c.in_default.ensures.exact))

pub returns-clause-accepted : goal.returns-clause-accepted
returns-clause-accepted c =
    let first = c.args.checker.now in
    let left = c.loop-line.line-iterator.rest.items in
    none_refused first.vars first.list c.args.lines.items c.args.number c.loop-line.at c.loop-line.checker
    (IsTaking-as first.vars first.list c.args.lines.items c.loop-line.at left [] c.loop-line.checker
    (nil_from_length left (sym c.loop-line.line-iterator.rest.ok.0 ∙ c.in-None.ensures.steps.0)) c.loop-line.invariant)

pub returns-clause-taken : goal.returns-clause-taken
returns-clause-taken c =
    let first = c.args.checker.now in
    let left = c.loop-line.line-iterator.rest.items in
    HasTaken-all first.vars first.list c.args.lines.items c.loop-line.at c.loop-line.checker
    (IsTaking-as first.vars first.list c.args.lines.items c.loop-line.at left [] c.loop-line.checker
    (nil_from_length left (sym c.loop-line.line-iterator.rest.ok.0 ∙ c.in-None.ensures.steps.0)) c.loop-line.invariant)
