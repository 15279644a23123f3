-- the lines that are left are read behind those before, and there is room for their numbers
use Rattle.std.proofs.Common.{◌≡◌, ◌+◌, ◌≤◌, suc, length, option_map}
use Rattle.std.specs.Prelude.{IfSome}
use Rattle.std.specs.Option.{option_map_or}
use Rattle.expect_file.specs.ExpectationsReading.{parts_behind, lines_read}
use Rattle.expect_file.proofs.read.take_lines.Given as goal

abbrev pub invariant-loop-behind : goal.invariant-loop-behind
invariant-loop-behind l =
    record {
      read : lines_read l.number l.found (parts_behind (option_map (λ x. x.now) l.behind)) ≡ lines_read 2 l.fn.found
          (parts_behind (option_map (λ x. x.now) l.fn.bytes));
      sized : length l.found.named ≡ length l.found.expect;
      room : IfSome l.behind (λ rest. l.number + length rest.now ≤ 4194306);
    }

abbrev pub decreases-loop-behind : goal.decreases-loop-behind
decreases-loop-behind l = option_map_or (λ rest. suc (length rest.now)) l.behind 0
