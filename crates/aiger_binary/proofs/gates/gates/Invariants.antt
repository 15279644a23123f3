use Rattle.std.proofs.Common.{◌+◌, ◌*◌}
use Rattle.ja_text.specs.Repeated.{IsUnderway}
use Rattle.aiger_binary.specs.Reading.{gate_at}
use Rattle.aiger_binary.proofs.gates.gates.Given as goal

abbrev pub invariant-loop-index : goal.invariant-loop-index
invariant-loop-index l = IsUnderway (gate_at l.size) l.count
    (record { lit = 2 * l.first; rest = l.initial.rest.now }) l.index l.gates
    (record { lit = 2 * (l.first + l.index); rest = l.rest.now })
