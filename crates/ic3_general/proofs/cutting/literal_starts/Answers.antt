use Rattle.std.proofs.Common.{◌≡◌, ◌+◌, ◌<◌, ℕ, [], ◌∷◌, sym, subst, arith}
use Rattle.std.proofs.lemmas.List.Elements.{All-nil, All-cons}
use Rattle.ja_base.specs.Clauses.{IsBelow}
use Rattle.ja_base.specs.Literals.{variable}
use Rattle.ic3_general.proofs.cutting.literal_starts.Goals as goal

pub starts-requires : goal.starts-requires
starts-requires c =
    let P : ℕ → Type 0 = λ l. variable l < c.args.table.now.vars + 1 in
    let same : c.in_ok-clause.clause ≡ c.args.lit ∷ [] = c.in_ok-clause.ensures.ascending (λ k h. absurd (omega arith)) in
    subst (IsBelow (c.args.table.now.vars + 1)) (sym same) (All-cons P c.args.lit [] c.requires (All-nil P))
