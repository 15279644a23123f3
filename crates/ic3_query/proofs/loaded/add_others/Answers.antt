use Rattle.std.proofs.Common.{◌+◌, ℕ, List, [], ◌∷◌, ◌++◌, sym, ap, ◌∙◌, arith}
use Rattle.aig_model.specs.Task.{VerificationTask, problem}
use Rattle.inv_cert.specs.Loaded.{StepList}
use Rattle.ic3_query.proofs.PrefixLemmas.{taken_more}
use Rattle.ic3_query.proofs.SeenLemmas.{below_at, own_for}
use Rattle.ic3_query.proofs.loaded.add_others.Goals as goal

pub add-requires-clause-below : goal.add-requires-clause-below
add-requires-clause-below g c =
    let same = ap (λ (t : VerificationTask). t.design.vars) c.loop-at.invariant.task in
    below_at c.args.coded.now.design c.task-task.ensures.sound c.args.list.now.clauses c.loop-at.at
    (c.loop-at.pair.checker.task.design.vars + 1) c.clause.result.now
    (own_for (problem c.args.list.now.task) c.args.coded.now c.args.list.now.clauses c.requires.task c.is_closed.ensures.closed.own)
    c.clause.ensures (omega (arith, same))

pub loop-at-preserved : goal.loop-at-preserved
loop-at-preserved g c = record {
  pair = c.in_ok-add.ensures.pair;
  task = ap (λ (k : StepList). k.task) c.in_ok-add.ensures.list ∙ c.loop-at.invariant.task;
  list = ap (λ (k : StepList). k.list) c.in_ok-add.ensures.list
      ∙ ap (λ (l : List (List ℕ)). l ++ c.clause.result.now ∷ []) c.loop-at.invariant.list
      ∙ sym (taken_more c.args.list.now.clauses c.loop-at.at c.clause.result.now c.clause.ensures);
}
