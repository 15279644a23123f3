use Rattle.std.proofs.Common.{◌≡◌, ◌++◌, take}
use Rattle.std.specs.List.{flat_map}
use Rattle.refute_text.specs.RefutationText.{spaced, AreSmall}
use Rattle.refute_text.proofs.write.put_hints.Given as goal

abbrev pub invariant-loop-hint : goal.invariant-loop-hint
invariant-loop-hint l =
    record {
      text : l.text ≡ l.fn.text ++ flat_map spaced (take l.hint-index l.hints);
      small : AreSmall (take l.hint-index l.hints);
    }
