use Rattle.std.proofs.Common.{◌≡◌, ◌++◌, take}
use Rattle.std.specs.List.{flat_map}
use Rattle.refute_text.specs.RefutationText.{spaced, AreSmall}
use Rattle.refute_text.proofs.write.put_lits.Given as goal

abbrev pub invariant-loop-lit : goal.invariant-loop-lit
invariant-loop-lit l =
    record {
      text : l.text ≡ l.fn.text ++ flat_map spaced (take l.lit-index l.lits);
      small : AreSmall (take l.lit-index l.lits);
    }
