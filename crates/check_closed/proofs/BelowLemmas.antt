-- A test of variables, and what it decides.
use Rattle.std.proofs.Common.{◌≡◌, ℕ, ◌<◌, Bool, true, false, List, nat_lt, refl, sym}
use Rattle.std.specs.Bool.{OnTrue}
use Rattle.std.specs.List.{list_all}
use Rattle.std.proofs.lemmas.Bool.Decides.{Decides-ltb, Decides-by_and}
use Rattle.ja_base.specs.Literals.{variable}
use Rattle.ja_base.specs.Clauses.{IsBelow}

pub are_below : (n : ℕ) (lits : List ℕ) → list_all (λ l. nat_lt (variable l) n) lits ≡ true → IsBelow n lits
are_below n lits e =
    (Decides-by_and (λ l. nat_lt (variable l) n) (λ l. variable l < n) (list_all (λ l. nat_lt (variable l) n))
    (λ l. Decides-ltb (variable l) n) refl (λ _ _. refl) lits).0 e

pub on_below : (n : ℕ) (lits : List ℕ) (b : Bool) → b ≡ list_all (λ l. nat_lt (variable l) n) lits → OnTrue b (IsBelow n lits)
on_below n lits true e = are_below n lits (sym e)
on_below n lits false e = tt
