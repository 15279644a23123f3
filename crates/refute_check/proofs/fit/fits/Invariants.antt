use Rattle.std.proofs.Common.{◌≡◌, drop}
use Rattle.ja_base.proofs.ClauseLemmas.{Ascends}
use Rattle.refute_check.specs.Lines.{is_fit}
use Rattle.refute_check.proofs.fit.fits.Given as goal

abbrev pub invariant-loop-at : goal.invariant-loop-at
invariant-loop-at l = Ascends (drop l.at l.lits) × (is_fit l.vars l.lits ≡ is_fit l.vars (drop l.at l.lits))
