use Rattle.std.proofs.Common.{◌+◌, ℕ, List, Err, sym, ap, subst, ◌∙◌, arith}
use Rattle.std.proofs.lemmas.Option.{get_or_from_slice_get, slice_get_within}
use Rattle.std.proofs.lemmas.Result.{err_from_is_err_and}
use Rattle.ja_base.specs.Clauses.{IsBelow}
use Rattle.ja_base.specs.declared.memory.OrMemory.{OrMemory}
use Rattle.inv_cert.specs.Taken.{IsLoaded}
use Rattle.inv_cert.specs.declared.not_closed.NotClosed.{NotClosed}
use Rattle.inv_cert.proofs.AcceptLemmas.{IsAccepting-none, next_is, IsAccepting-more, first_refusal, AreTaken-all, loaded_as}
use Rattle.inv_cert.proofs.check.accept_each.Goals as goal

pub loop-number-init : goal.loop-number-init
loop-number-init c = record {
  loaded = c.requires.loaded;
  accepting = λ base e. IsAccepting-none c.args.coded.now base c.args.candidates.now c.args.proofs
      c.into_iter-proofs.result.rest.items c.args.checker.now (c.into_iter-proofs.ensures.rest ∙ c.into_vec.ensures)
      (loaded_as (c.args.coded.now.design.vars + 1) c.args.checker.now.list _ c.args.checker.now e c.requires.loaded);
}

pub accept-requires-clause-loaded : goal.accept-requires-clause-loaded
accept-requires-clause-loaded c =
    loaded_as (c.args.coded.now.design.vars + 1) c.args.checker.now.list c.loop-number.checker.list c.loop-number.checker
    (sym c.loop-number.invariant.loaded.list) c.loop-number.invariant.loaded

pub accept-requires-clause-below : goal.accept-requires-clause-below
accept-requires-clause-below c =
    let candidates : List (List ℕ) = c.args.candidates.now in
    let clause : List ℕ = c.get-clause.result.now in
    let number : ℕ = c.loop-number.number in
    subst (IsBelow (c.args.coded.now.design.vars + 1))
    (get_or_from_slice_get candidates number clause clause c.get-clause.ensures)
    (c.requires.candidates number clause (slice_get_within candidates number clause c.get-clause.ensures))

pub returns-in_err-accept-clause-loaded : goal.returns-in_err-accept-clause-loaded
returns-in_err-accept-clause-loaded c =
    loaded_as (c.args.coded.now.design.vars + 1) c.loop-number.checker.list c.args.checker.now.list c.accept.new.checker
    c.loop-number.invariant.loaded.list c.in_err-accept.ensures.loaded

pub returns-in_err-accept-clause-refused : goal.returns-in_err-accept-clause-refused
returns-in_err-accept-clause-refused c = λ base e.
    let p = err_from_is_err_and c.from_residual.result c.from_residual.ensures.1 in
    let h = c.loop-number.invariant.accepting base e in
    let next = next_is c.args.proofs c.loop-number.number c.loop-number.proofs c.next.new.self c.next.result
    h.left_are c.next.ensures.cases in
    first_refusal c.args.coded.now base c.args.candidates.now c.args.proofs c.loop-number.number
    c.loop-number.proofs.rest.items c.loop-number.checker c.get-clause.result.now c.next.result
    h c.get-clause.ensures next.0 c.in_err-accept.field-0.0 c.from_residual.result
    (p.1 ∙ ap (λ (e : OrMemory NotClosed). Err e) p.2) c.in_err-accept.ensures.refused

pub loop-number-preserved : goal.loop-number-preserved
loop-number-preserved c = record {
  loaded = loaded_as (c.args.coded.now.design.vars + 1) c.loop-number.checker.list c.args.checker.now.list c.accept.new.checker
      c.loop-number.invariant.loaded.list c.in_ok-accept.ensures.loaded;
  accepting = λ base e.
      let h = c.loop-number.invariant.accepting base e in
      let next = next_is c.args.proofs c.loop-number.number c.loop-number.proofs c.next.new.self c.next.result
      h.left_are c.next.ensures.cases in
      IsAccepting-more c.args.coded.now base c.args.candidates.now c.args.proofs c.loop-number.number
      c.loop-number.proofs.rest.items c.next.new.self.rest.items c.loop-number.checker c.accept.new.checker
      c.get-clause.result.now c.next.result
      h c.get-clause.ensures next c.in_ok-accept.ensures.loaded c.in_ok-accept.ensures.accepted;
}

pub returns-clause-accepted : goal.returns-clause-accepted
returns-clause-accepted c = λ base e.
    AreTaken-all c.args.coded.now base c.args.candidates.now c.args.proofs c.loop-number.number c.loop-number.proofs.rest.items
    c.loop-number.checker (omega arith) (c.loop-number.invariant.accepting base e)
