use Rattle.std.proofs.Common.{◌≡◌, ◌<◌, ℕ, List, [], ◌∷◌, sym, subst}
use Rattle.std.proofs.lemmas.List.Elements.{All-nil, All-cons}
use Rattle.ja_base.specs.Literals.{variable}
use Rattle.ja_base.specs.Clauses.{IsBelow}
use Rattle.ja_project.proofs.ClauseLemmas.{clause_is}
use Rattle.refute_check.specs.Checked.{IsAdded}
use Rattle.inv_cert.proofs.load.add_unit.Goals as goal

pub add-requires : goal.add-requires
add-requires c =
    let unit : c.in_ok-unit.unit ≡ c.args.lit ∷ [] = clause_is (c.args.lit ∷ []) c.in_ok-unit.unit c.in_ok-unit.ensures.set in
    let P : List ℕ → Type 0 = IsBelow c.args.checker.now.vars in
    let Q : ℕ → Type 0 = λ l. variable l < c.args.checker.now.vars in
    subst P (sym unit) (All-cons Q c.args.lit [] c.requires (All-nil Q))

pub returns : goal.returns
returns c =
    let unit : c.in_ok-unit.unit ≡ c.args.lit ∷ [] = clause_is (c.args.lit ∷ []) c.in_ok-unit.unit c.in_ok-unit.ensures.set in
    let P : List ℕ → Type 0 = λ clause. IsAdded c.args.checker.now clause c.add.new.self in
    subst P unit c.in_ok-add.ensures.ok
