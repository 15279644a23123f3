use Rattle.std.proofs.Common.{drop}
use Rattle.ja_base.proofs.ClauseLemmas.{IsSought}
use Rattle.ja_base.proofs.clause.is_among.Given as goal

abbrev pub invariant-loop-lit : goal.invariant-loop-lit
invariant-loop-lit l = IsSought l.part l.whole l.wanted (drop l.lit-index l.whole)
