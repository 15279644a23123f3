use Rattle.std.proofs.Common.{arith}
use Rattle.aig_model.proofs.Ranges.{in_range_from_lists}
use Rattle.aig_model.proofs.tests.parts_of.Goals as goal

pub returns : goal.returns
returns g c =
    in_range_from_lists _ (record {
      small = omega arith;
      inputs = c.in_ok-new_lits.ensures;
      latches = c.in_ok-latches_of.ensures.lits;
      gates = c.in_ok-gates_of.ensures.lhs;
      nexts_are = c.in_ok-latches_of.ensures.nexts;
      outputs = c.in_ok-usable_lits-3.ensures;
      bads = c.in_ok-usable_lits.ensures;
      constraints = c.in_ok-usable_lits-2.ensures;
      rhs0 = c.in_ok-gates_of.ensures.rhs0;
      rhs1 = c.in_ok-gates_of.ensures.rhs1;
    })
