use Rattle.std.proofs.Common.{List, ◌+◌, ◌^◌, sym, subst, ◌∙◌}
use Rattle.aig_model.specs.Task.{problem}
use Rattle.refute_check.specs.declared.lines.Refuted.{Refuted}
use Rattle.ic3_query.proofs.MeterLemmas.{later_then, polled_then, ticks_more}
use Rattle.ic3_query.proofs.ProvingLemmas.{AreProved, AreProved-more, proof_found, none_is_open}
use Rattle.ic3_query.proofs.SeenLemmas.{own_for}
use Rattle.ic3_query.proofs.proving.prove_all.Goals as goal

pub unreachable-requires : goal.unreachable-requires
unreachable-requires g c =
    none_is_open c.args.coded.now c.args.base.now.clauses c.args.candidates.now (g.S.Sat.added c.loop-number.solver)
    c.loop-number.number c.get-clause.result.now c.in_ok-proof.field-0 c.task-task.ensures.sound c.task-task.ensures.expected
    (own_for (problem c.args.base.now.task) c.args.coded.now c.args.base.now.clauses c.requires.task
    c.is_closed.ensures.closed.own)
    c.requires.own c.requires.inductive c.get-clause.ensures (c.loop-number.invariant.added ∙ c.requires.added)
    c.in_ok-proof.ensures.answer c.in-None.is

pub loop-number-preserved : goal.loop-number-preserved
loop-number-preserved g c =
    let P : List Refuted → Type 0 = λ proofs. AreProved c.args.coded.now c.args.base.now.clauses c.args.candidates.now proofs
    (c.loop-number.number + 1) in
    record {
      count = c.in_ok-proof.ensures.count ∙ c.loop-number.invariant.count;
      added = c.in_ok-proof.ensures.added ∙ c.loop-number.invariant.added;
      proved = subst P (sym c.in_ok-push-in-Some.ensures.ok) (AreProved-more c.args.coded.now c.args.base.now.clauses
          c.args.candidates.now c.loop-number.proofs c.loop-number.number c.get-clause.result.now c.in-Some.proof
          c.loop-number.invariant.proved
          c.get-clause.ensures
          (proof_found c.args.coded.now c.args.base.now.clauses c.args.candidates.now (g.S.Sat.added c.loop-number.solver)
          c.get-clause.result.now c.in_ok-proof.field-0 c.in-Some.proof (c.loop-number.invariant.added ∙ c.requires.added)
          c.in_ok-proof.ensures.answer
          c.in-Some.is));
      refused = c.in_ok-proof.ensures.charged ∙ c.loop-number.invariant.refused;
      later = later_then c.args.meter.now c.loop-number.meter c.prove.new.meter c.loop-number.invariant.later
          c.in_ok-proof.ensures.later;
      bounded = ticks_more c.args.meter.now c.loop-number.meter c.prove.new.meter c.loop-number.number
          (1 + 3 ^ (c.args.coded.now.design.vars + 1)) c.loop-number.invariant.bounded c.in_ok-proof.ensures.bounded;
      polled = polled_then g.F.Flag.may_rise g.F.Flag.raised c.args.flag.now c.loop-number.flag c.prove.new.flag
          c.loop-number.invariant.polled c.in_ok-proof.ensures.flag;
    }
