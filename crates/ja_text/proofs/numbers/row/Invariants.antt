use Rattle.std.proofs.Common.{◌≡◌, ◌-◌, ◌≤◌, length, take}
use Rattle.ja_text.specs.Rows.{row_at}
use Rattle.ja_text.proofs.RowLemmas.{with_numbers, Holds}
use Rattle.ja_text.proofs.numbers.row.Given as goal

abbrev pub invariant-loop-place : goal.invariant-loop-place
invariant-loop-place l = record {
  holds : Holds l.place l.places;
  so_far : with_numbers (take l.place l.places) (row_at (9 - l.place) l.rest) ≡ row_at 9 l.bytes;
  shorter : length l.rest ≤ length l.bytes;
}
