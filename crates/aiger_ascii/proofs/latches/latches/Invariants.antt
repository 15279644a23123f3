use Rattle.std.proofs.Common.{◌≡◌, length}
use Rattle.ja_text.specs.Repeated.{IsUnderway}
use Rattle.aiger_ascii.specs.Reading.{latch_at}
use Rattle.aiger_ascii.proofs.latches.latches.Given as goal

abbrev pub invariant-loop : goal.invariant-loop
invariant-loop l = record {
  underway : IsUnderway (latch_at l.vars l.size) l.count
      (record { seen = l.initial.seen; rest = l.initial.rest.now }) l.counter l.latches
      (record { seen = l.seen; rest = l.rest.now });
  sized : length l.seen ≡ length l.initial.seen;
}
