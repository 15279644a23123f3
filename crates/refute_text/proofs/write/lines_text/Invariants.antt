use Rattle.std.proofs.Common.{◌≡◌, take}
use Rattle.refute_text.specs.RefutationText.{refutation_text, AreLines}
use Rattle.refute_text.proofs.write.lines_text.Given as goal

abbrev pub invariant-loop-line : goal.invariant-loop-line
invariant-loop-line l =
    record {
      text : l.text ≡ refutation_text (take l.line-index l.lines);
      are_lines : AreLines (take l.line-index l.lines);
    }
