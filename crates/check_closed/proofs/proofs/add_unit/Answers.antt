use Rattle.std.proofs.Common.{◌≡◌, ◌<◌, ℕ, List, [], ◌∷◌, sym, subst}
use Rattle.std.proofs.lemmas.List.Elements.{All-nil, All-cons}
use Rattle.ja_base.specs.Literals.{variable}
use Rattle.ja_base.specs.Clauses.{IsBelow}
use Rattle.ja_project.proofs.ClauseLemmas.{clause_is}
use Rattle.check_closed.proofs.proofs.add_unit.Goals as goal

pub add-requires : goal.add-requires
add-requires c =
    let unit : c.in_ok-unit.unit ≡ c.args.lit ∷ [] = clause_is (c.args.lit ∷ []) c.in_ok-unit.unit c.in_ok-unit.ensures.set in
    let P : List ℕ → Type 0 = IsBelow c.args.solver.now.vars in
    let Q : ℕ → Type 0 = λ l. variable l < c.args.solver.now.vars in
    subst P (sym unit) (All-cons Q c.args.lit [] c.requires (All-nil Q))
