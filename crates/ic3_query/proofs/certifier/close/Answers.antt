use Rattle.std.proofs.Common.{◌+◌, ◌^◌, ℕ, List, refl, sym, ap, subst, ◌∙◌, arith}
use Rattle.std.specs.List.{All}
use Rattle.ja_base.specs.ClauseSets.{joined}
use Rattle.ja_base.specs.Clauses.{IsBelow}
use Rattle.aig_model.specs.Netlist.{circuit}
use Rattle.inv_cert.specs.Loaded.{StepList}
use Rattle.inv_cert.proofs.ClosedLemmas.{closed_list_is}
use Rattle.ic3_query.proofs.CertifyLemmas.{added_are_candidates, added_are_inductive, added_are_fresh, added_are_joined, added_ticks}
use Rattle.ic3_query.proofs.SeenLemmas.{are_below, candidates_are_own}
use Rattle.ic3_query.proofs.certifier.close.Goals as goal

pub add_each-requires-clause-below : goal.add_each-requires-clause-below
add_each-requires-clause-below g c =
    let P : List (List ℕ) → Type 0 = All (IsBelow (c.args.pair.now.checker.task.design.vars + 1)) in
    let same = ap (λ (k : StepList). k.task.design.vars) c.requires.loaded in
    subst P (sym c.as_slice.ensures.value)
    (are_below c.args.coded.now.design c.task-task.ensures.sound c.in_ok-added.added
    (c.args.pair.now.checker.task.design.vars + 1)
    (candidates_are_own c.args.coded.now c.in_ok-added.added
    (added_are_candidates c.args.list.now.clauses c.args.candidates.now c.in_ok-added.added c.in_ok-added.ensures c.args.coded.now
    c.requires.candidates)) (omega (arith, same)))

pub prove_all-requires-clause-own : goal.prove_all-requires-clause-own
prove_all-requires-clause-own g c =
    candidates_are_own c.args.coded.now c.in_ok-added.added
    (added_are_candidates c.args.list.now.clauses c.args.candidates.now c.in_ok-added.added c.in_ok-added.ensures c.args.coded.now
    c.requires.candidates)

pub prove_all-requires-clause-inductive : goal.prove_all-requires-clause-inductive
prove_all-requires-clause-inductive g c =
    added_are_inductive c.args.list.now.clauses c.args.candidates.now c.in_ok-added.added c.in_ok-added.ensures
    (circuit c.args.coded.now.design) c.args.coded.now.expected c.requires.inductive

pub returns-in_err-proofs-clause-bounded : goal.returns-in_err-proofs-clause-bounded
returns-in_err-proofs-clause-bounded g c =
    added_ticks c.args.list.now.clauses c.args.candidates.now c.in_ok-added.added c.in_ok-added.ensures c.args.meter.now
    c.prove_all.new.meter (1 + 3 ^ (c.args.coded.now.design.vars + 1)) c.prove_all.ensures.bounded

pub grow-requires-clause-candidates : goal.grow-requires-clause-candidates
grow-requires-clause-candidates g c =
    added_are_candidates c.args.list.now.clauses c.args.candidates.now c.in_ok-added.added c.in_ok-added.ensures c.args.coded.now
    c.requires.candidates

pub grow-requires-clause-fresh : goal.grow-requires-clause-fresh
grow-requires-clause-fresh g c =
    added_are_fresh c.args.list.now.clauses c.args.candidates.now c.in_ok-added.added c.in_ok-added.ensures

pub returns-in_err-grow-clause-bounded : goal.returns-in_err-grow-clause-bounded
returns-in_err-grow-clause-bounded g c =
    added_ticks c.args.list.now.clauses c.args.candidates.now c.in_ok-added.added c.in_ok-added.ensures c.args.meter.now
    c.prove_all.new.meter (1 + 3 ^ (c.args.coded.now.design.vars + 1)) c.prove_all.ensures.bounded

pub returns-clause-closed : goal.returns-clause-closed
returns-clause-closed g c =
    let list : List (List ℕ) = c.args.list.now.clauses in
    c.in_ok-grow.ensures.closed
    ∙ closed_list_is c.args.coded.now c.args.coded.now (joined list c.in_ok-added.added) (joined list c.args.candidates.now) refl
    (added_are_joined list c.args.candidates.now c.in_ok-added.added c.in_ok-added.ensures)

pub returns-clause-bounded : goal.returns-clause-bounded
returns-clause-bounded g c =
    added_ticks c.args.list.now.clauses c.args.candidates.now c.in_ok-added.added c.in_ok-added.ensures c.args.meter.now
    c.prove_all.new.meter (1 + 3 ^ (c.args.coded.now.design.vars + 1)) c.prove_all.ensures.bounded
