use Rattle.std.proofs.Common.{◌≡◌, take}
use Rattle.aiger_lines.proofs.sections.copied.Given as goal

abbrev pub invariant-loop-lit : goal.invariant-loop-lit
invariant-loop-lit l = l.copy ≡ take l.lit-index l.lits
