use Rattle.aiger_lines.specs.Reading.{place}
use Rattle.aiger_binary.specs.Reading.{delta_at}
use Rattle.aiger_binary.proofs.DeltaLemmas.{low_ends, low_goes_on, number_below, next_scale, next_small}
use Rattle.aiger_binary.proofs.delta.delta.Goals as goal

pub returns-then-byte-lt128 : goal.returns-then-byte-lt128
unfolding delta_at
returns-then-byte-lt128 c =
    let l = c.loop in
    let at = place c.args.size c.args.bytes.now in
    rw c.from.ensures (low_ends c.args.size at l.number l.scale l.counter
    (delta_at c.args.size c.args.bytes.now) l.rest.now c.in-Some.after.now c.in-Some.byte c.loop-test.true c.in-Some.ensures
    c.if-byte-lt128.true l.invariant.so_far)

pub loop-preserved : goal.loop-preserved
unfolding delta_at
loop-preserved c =
    let l = c.loop in
    let at = place c.args.size c.args.bytes.now in
    record {
      so_far = rw c.from.ensures
          (low_goes_on c.args.size at l.number l.scale l.counter
          (delta_at c.args.size c.args.bytes.now) l.rest.now c.in-Some.after.now c.in-Some.byte c.loop-test.true c.in-Some.ensures
          c.if-byte-lt128.false l.invariant.so_far);
      below = rw c.from.ensures (number_below l.number c.in-Some.byte l.scale l.invariant.below);
      scale = next_scale l.counter l.scale l.invariant.scale;
      small = next_small l.counter l.scale c.loop-test.true l.invariant.scale;
    }
