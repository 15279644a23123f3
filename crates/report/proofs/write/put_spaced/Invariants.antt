use Rattle.std.proofs.Common.{◌≡◌, ◌++◌, ◌<◌, ◌^◌, take}
use Rattle.std.specs.List.{flat_map, AllByRecursion}
use Rattle.report.specs.Reports.{spaced}
use Rattle.report.proofs.write.put_spaced.Given as goal

abbrev pub invariant-loop-lit : goal.invariant-loop-lit
invariant-loop-lit l = record {
  text : l.text ≡ l.fn.text ++ flat_map spaced (take l.lit-index l.lits);
  small : AllByRecursion
      (λ k. k < 2 ^ 32) (take l.lit-index l.lits);
}
