-- A row that is cut after the bits of the design's variables.
use Rattle.std.proofs.Common.{◌≡◌, ℕ, ◌+◌, ◌<◌, ◌||◌, Bool, false, List, [], ◌∷◌, get_or, take, refl, ap, ◌∙◌}
use Rattle.std.specs.List.{list_any}
use Rattle.std.proofs.lemmas.List.{get_or-take}
use Rattle.std.proofs.lemmas.List.Elements.{All-head, All-tail}
use Rattle.ja_base.specs.Literals.{variable, value, with_sign, AllSatisfiedBy}
use Rattle.ja_base.specs.Clauses.{IsBelow}
use Rattle.aig_model.specs.Netlist.{Netlist, IsSound}
use Rattle.ja_project.specs.CodedClauses.{coded_clauses}
use Rattle.ja_project.proofs.BelowLemmas.{clauses_are_below}

pub value_cut : (row : List Bool) (n l : ℕ) → variable l < n → value (take n row) l ≡ value row l
value_cut row n l low = ap (with_sign l) (get_or-take n row (variable l) false low)

any_cut : (row : List Bool) (n : ℕ) (clause : List ℕ) → IsBelow n clause
    → list_any (value (take n row)) clause ≡ list_any (value row) clause
any_cut row n [] low = refl
any_cut row n (l ∷ ls) low =
    ap (λ b. b || list_any (value (take n row)) ls) (value_cut row n l (All-head (λ m. variable m < n) l ls low))
    ∙ ap (λ b. value row l || b) (any_cut row n ls (All-tail (λ m. variable m < n) l ls low))

pub cut_meets : (n : Netlist) (row : List Bool) → IsSound n → AllSatisfiedBy (value row) (coded_clauses n)
    → AllSatisfiedBy (value (take (n.vars + 1) row)) (coded_clauses n)
cut_meets n row sound holds = λ k d within.
    any_cut row (n.vars + 1) (get_or (coded_clauses n) k d) (clauses_are_below n sound k d within) ∙ holds k d within
