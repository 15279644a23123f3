use Rattle.std.proofs.Common.{arith}
use Rattle.ja_project.specs.CodedClauses.{gate_clauses}
use Rattle.ja_project.proofs.RangeLemmas.{flat_more, flat_all}
use Rattle.ja_project.proofs.clauses.add_gates.Goals as goal

pub loop-at-preserved : goal.loop-at-preserved
loop-at-preserved c = flat_more c.args.design.now.gates c.args.clauses.now gate_clauses c.loop-at.at c.gate.result
    c.loop-at.clauses c.add_gate.new.clauses c.gate.ensures c.loop-at.invariant c.in_ok-add_gate.ensures

pub returns : goal.returns
returns c = flat_all c.args.design.now.gates c.args.clauses.now gate_clauses c.loop-at.at c.loop-at.clauses
    (omega arith) c.loop-at.invariant
