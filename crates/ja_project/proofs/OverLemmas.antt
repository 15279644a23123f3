-- The latch that a literal is over.
use Rattle.std.proofs.Common.{◌≡◌, ℕ, suc, ◌==◌, ◌||◌, eqb, eqb-true, Bool, true, false, Some, List, [], ◌∷◌, slice_get, map, refl, sym}
use Rattle.std.specs.List.{list_any}
use Rattle.ja_base.specs.Literals.{variable}
use Rattle.ja_base.specs.Circuit as plain
use Rattle.aig_model.specs.declared.netlist.Latch.{Latch}
use Rattle.aig_model.specs.Netlist.{Netlist, circuit, latch_of}
use Rattle.ja_project.specs.Latches.{is_over_latch}

-- the latch with the literal's variable, and its place
pub record HasLatch (n : Netlist) (l : ℕ) : Type 0 where
  pub place : ℕ
  pub latch : Latch
  pub latch_is : slice_get n.latches place ≡ Some latch
  pub var_is : variable latch.lit ≡ variable l

over_in : (ks : List Latch) (u : ℕ) → list_any (λ (k : plain.Latch). u == k.var) (map latch_of ks) ≡ true
    → (place : ℕ) × (latch : Latch) × (slice_get ks place ≡ Some latch) × (variable latch.lit ≡ u)
over_in [] u e = absurd cc
over_in (x ∷ xs) u e = by_test (eqb u (variable x.lit)) refl (over_in xs u) e
  where
    by_test : (b : Bool) → b ≡ eqb u (variable x.lit)
        → (list_any (λ (k : plain.Latch). u == k.var) (map latch_of xs) ≡ true
        → (place : ℕ) × (latch : Latch) × (slice_get xs place ≡ Some latch) × (variable latch.lit ≡ u))
        → (b || list_any (λ (k : plain.Latch). u == k.var) (map latch_of xs)) ≡ true
        → (place : ℕ) × (latch : Latch) × (slice_get (x ∷ xs) place ≡ Some latch) × (variable latch.lit ≡ u)
    by_test true f later e = (0, x, refl, sym (eqb-true u (variable x.lit) (sym f)))
    by_test false f later e = let h = later e in (suc h.0, h.1, h.2, h.3)

pub HasLatch-from_test : (n : Netlist) (l : ℕ) → is_over_latch (circuit n) l ≡ true → HasLatch n l
HasLatch-from_test n l e =
    let h = over_in n.latches (variable l) e in
    record { place = h.0; latch = h.1; latch_is = h.2; var_is = h.3 }
