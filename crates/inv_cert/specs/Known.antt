-- A set of clauses beside a list of them.
use Rattle.std.specs.Prelude.{◌≡◌, ℕ, List}
use Rattle.std.specs.Borrow.{Bor}
use Rattle.std.specs.declared.cmp.Ordering.{Ordering}
use Rattle.std.specs.Ordering.{nat_cmp}
use Rattle.std.specs.Cmp.Lexicographic.{slice_cmp}
use Rattle.std.specs.BTreeSet.{BTreeSet, contains}
use Rattle.ja_base.specs.ClauseSets.{has_clause}

-- clauses in the order of their literals
abbrev pub clause_cmp : Bor (List ℕ) → Bor (List ℕ) → Ordering
clause_cmp x y = slice_cmp nat_cmp x.now y.now

-- the set has exactly the clauses of the list
abbrev pub Knows : List (List ℕ) → BTreeSet (Bor (List ℕ)) → Type 0
Knows clauses set = (clause : Bor (List ℕ))
    → contains clause_cmp set clause ≡ has_clause clauses clause.now
