use Rattle.std.proofs.Common.{sym, subst, ◌∙◌}
use Rattle.std.specs.List.Sorted.{IsStrictlyIncreasing}
use Rattle.refute_text.proofs.line.clause_of.Goals as goal

pub returns : goal.returns
returns c =
    let same = c.as_slice.ensures.value ∙ c.in_ok-lits.ensures in
    c.in_ok-clause.ensures.ascending (subst IsStrictlyIncreasing (sym same) c.requires) ∙ same
