-- The task for tests: its properties fail locally, and it is opened with the plan 0, 1.
use Rattle.std.proofs.Common.{◌≡◌, ◌≢◌, ℕ, zero, suc, ◌<◌, true, false, List, [], ◌∷◌, length, refl, arith}
use Rattle.std.proofs.Common.{sym, ap, subst, ◌∙◌, ◌++◌}
use Rattle.std.specs.Prelude.{AllPairs, Contains}
use Rattle.std.proofs.lemmas.Option.{none-some}
use Rattle.std.proofs.lemmas.List.Elements.{All-nil, All-cons}
use Rattle.std.proofs.lemmas.List.Kept.{AllPairs-cons}
use Rattle.std.specs.FinMap.{get-empty}
use Rattle.std.specs.Ordering.{nat_cmp}
use Rattle.ja_base.specs.Literals.{bit, value}
use Rattle.ja_base.specs.Valuation.{IsValuation, IsBad, MeetsConstraints, AssumptionsHold}
use Rattle.ja_base.specs.Runs.{IsLocalFailure}
use Rattle.store_core.specs.declared.journal.Opening.{Opening}
use Rattle.store_core.specs.Boards.{ListsEach, Opens}
use Rattle.store_core.specs.Examples.{two_broken, one_step}

bit_rest : (u : ℕ) → bit (false ∷ []) u ≡ false
bit_rest zero = refl
bit_rest (suc u) = refl

the_step : IsValuation two_broken.circuit [] [] (false ∷ [])
the_step = record {
  width = refl;
  constant = refl;
  latches = refl;
  inputs = refl;
  gates = λ g rights is. absurd (none-some rights (sym (get-empty nat_cmp g) ∙ is));
  rest = λ u free. bit_rest u;
}

broken : (p : ℕ) → p < 2 → IsBad two_broken.circuit p (false ∷ [])
broken zero h = refl
broken (suc zero) h = refl
broken (suc (suc p)) h = absurd (omega (arith, h))

pub fails : (p : ℕ) → p < 2 → IsLocalFailure two_broken p one_step
fails p h = record {
  earlier = [];
  last = false ∷ [];
  reached = record {
    legal = record {
      replay = record {
        starts = record { width = refl; agrees = λ k l b is. absurd (none-some l is) };
        runs = (the_step, tt);
        has_step = omega arith;
      };
      constrained = All-cons (MeetsConstraints two_broken.circuit) (false ∷ []) [] (All-nil (λ l. value (false ∷ []) l ≡ true))
          (All-nil (MeetsConstraints two_broken.circuit));
    };
    held = All-nil (AssumptionsHold two_broken.circuit two_broken.assumed);
  };
  bad = broken p h;
}

once : AllPairs {X = ℕ} (λ a b. a ≢ b) (0 ∷ 1 ∷ [])
once = AllPairs-cons (λ a b. a ≢ b) 0 (1 ∷ [])
    (All-cons (λ b. 0 ≢ b) 1 [] (λ h. absurd (omega (arith, h))) (All-nil (λ b. 0 ≢ b)))
    (AllPairs-cons (λ a b. a ≢ b) 1 [] (All-nil (λ b. 1 ≢ b)) (λ i j d lt within. absurd (omega (arith, within))))

below : (p : ℕ) → Contains (0 ∷ 1 ∷ []) p → p < 2
below p (zero, h, is) = omega (arith, is)
below p (suc zero, h, is) = omega (arith, is)
below p (suc (suc k), h, is) = absurd (omega (arith, h))

listed : (p : ℕ) → p < 2 → Contains (0 ∷ 1 ∷ []) p
listed zero h = (0, omega arith, refl)
listed (suc zero) h = (1, omega arith, refl)
listed (suc (suc p)) h = absurd (omega (arith, h))

pub lists_each : ListsEach 2 (0 ∷ 1 ∷ [])
lists_each = record { once = once; members = λ p. (below p, listed p) }

-- the plan of 0 and 1, one pushed after the other
pub zero_one : {empty one two : List ℕ} → empty ≡ [] → one ≡ empty ++ 0 ∷ [] → two ≡ one ++ 1 ∷ [] → two ≡ 0 ∷ 1 ∷ []
zero_one a b c = c ∙ ap (λ xs. xs ++ 1 ∷ []) (b ∙ ap (λ xs. xs ++ 0 ∷ []) a)

pub opens : (o : Opening) → o.plan ≡ 0 ∷ 1 ∷ [] → o.assumed ≡ true ∷ true ∷ [] → Opens two_broken o
opens o plan both = record { assumed = both; width = ap length both; plan = subst (ListsEach 2) (sym plan) lists_each }
