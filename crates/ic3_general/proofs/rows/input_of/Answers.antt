use Rattle.std.proofs.Common.{arith}
use Rattle.std.proofs.lemmas.Option.{slice_get_within}
use Rattle.ic3_general.proofs.RowLemmas.{made_of_inputs}
use Rattle.ic3_general.proofs.rows.input_of.Goals as goal

pub returns : goal.returns
returns c =
    made_of_inputs c.args.design.now.inputs c.args.vals.now c.loop-at.row c.loop-at.invariant.width
    (λ k l is. c.loop-at.invariant.bits k l (omega (arith, slice_get_within c.args.design.now.inputs k l is)) is)
