use Rattle.std.proofs.Common.{◌≡◌, ◌-◌, ◌≤◌, length, take}
use Rattle.ja_outside.specs.Sink.{Appends}
use Rattle.ja_outside.proofs.whole.write_whole.Given as goal

-- so many bytes were appended
abbrev pub invariant-loop-done : goal.invariant-loop-done
invariant-loop-done g l =
    let sink = g.K.Sink in
    record {
      within : l.done ≤ length l.bytes;
      written : Appends (sink.written l.fn.out) (sink.written l.out) (take l.done l.bytes);
      quiet : sink.faults l.out ≡ sink.faults l.fn.out;
    }

abbrev pub decreases-loop-done : goal.decreases-loop-done
decreases-loop-done g l = length l.bytes - l.done
