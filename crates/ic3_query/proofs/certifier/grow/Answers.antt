use Rattle.std.proofs.Common.{◌+◌, arith}
use Rattle.inv_cert.specs.Refusals.{IsFirstRefusal}
use Rattle.inv_cert.proofs.TakenLemmas.{proofs_are_taken}
use Rattle.ic3_query.proofs.ProvingLemmas.{refusal_of}
use Rattle.ic3_query.proofs.SeenLemmas.{candidates_are_own, are_below}
use Rattle.ic3_query.proofs.certifier.grow.Goals as goal

pub grow-requires-clause-below : goal.grow-requires-clause-below
grow-requires-clause-below c =
    are_below c.args.coded.now.design c.task-task.ensures.sound c.args.candidates (c.args.coded.now.design.vars + 1)
    (candidates_are_own c.args.coded.now c.args.candidates c.requires.candidates) (omega arith)

pub unreachable-requires : goal.unreachable-requires
unreachable-requires c =
    proofs_are_taken c.args.coded.now c.args.list.now.clauses c.args.candidates c.args.proofs c.in-Err-Refused.field-0-0
    c.requires.candidates c.requires.proofs
    (refusal_of c.grow.result c.in-Err-Refused.field-0 c.in-Err-Refused.field-0-0
    (IsFirstRefusal c.args.coded.now c.args.list.now.clauses c.args.candidates c.args.proofs) c.grow.ensures.refused
    c.in-Err-Refused.is c.in-Err-Refused.field-0-is)
