use Rattle.std.proofs.Common.{◌≡◌, ◌+◌, ℕ, List}
use Rattle.inv_cert.specs.Queries.{step_clauses}
use Rattle.inv_cert.specs.Taken.{IsLoaded}
use Rattle.inv_cert.proofs.AcceptLemmas.{IsAccepting}
use Rattle.inv_cert.proofs.check.accept_each.Given as goal

abbrev pub invariant-loop-number : goal.invariant-loop-number
invariant-loop-number l = record {
  loaded : IsLoaded (l.coded.design.vars + 1) l.fn.checker.list l.checker;
  accepting : (base : List (List ℕ)) → l.fn.checker.list ≡ step_clauses l.coded base l.candidates
      → IsAccepting l.coded base l.candidates l.fn.proofs l.number l.proofs.rest.items l.checker;
}
