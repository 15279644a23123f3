use Rattle.std.proofs.Common.{◌≡◌, ◌+◌, take}
use Rattle.ja_base.specs.Clauses.{IsBelow}
use Rattle.ja_project.specs.CodedClauses.{negated_next}
use Rattle.ja_project.proofs.later.negated_next.Given as goal

abbrev pub invariant-loop-lit : goal.invariant-loop-lit
invariant-loop-lit l = record {
  value : l.under ≡ negated_next l.coded.design (take l.lit-index l.clause);
  below : IsBelow (l.coded.design.vars + 1) l.under;
}
