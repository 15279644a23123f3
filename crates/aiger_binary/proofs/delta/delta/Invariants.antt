use Rattle.std.proofs.Common.{◌≡◌, ◌-◌, ◌^◌, ◌<◌, ◌≤◌}
use Rattle.aiger_lines.specs.Reading.{place}
use Rattle.aiger_binary.specs.Reading.{groups_at}
use Rattle.aiger_binary.proofs.DeltaLemmas.{with_low}
use Rattle.aiger_binary.proofs.delta.delta.Given as goal

abbrev pub invariant-loop : goal.invariant-loop
invariant-loop l = record {
  so_far : with_low l.number l.scale (groups_at l.size (place l.size l.bytes) (5 - l.counter) l.rest) ≡ groups_at l.size
      (place l.size l.bytes) 5 l.bytes;
  below : l.number < l.scale;
  scale : l.scale ≡ 128 ^ l.counter;
  small : l.scale ≤ 34359738368;
}
