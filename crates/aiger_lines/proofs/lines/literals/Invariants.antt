use Rattle.ja_text.specs.Repeated.{IsUnderway}
use Rattle.aiger_lines.specs.Reading.{literal_at}
use Rattle.aiger_lines.proofs.lines.literals.Given as goal

abbrev pub invariant-loop : goal.invariant-loop
invariant-loop l = IsUnderway (literal_at l.vars l.size) l.count l.initial.rest.now l.counter l.lits l.rest.now
