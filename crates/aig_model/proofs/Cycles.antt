-- Paths of gates: one that never ends meets itself, and one that goes down does not.
use Rattle.std.proofs.Common.{◌≡◌, ℕ, zero, suc, ◌<◌, true, false, eqb, List, [], ◌∷◌, length, get_or, ◌⊎◌, inl, inr, ⊎_elim, refl, sym, ap, subst, arith}
use Rattle.std.specs.List.{list_any, IsDistinct, AllByRecursion}
use Rattle.std.proofs.lemmas.Bool.{cases_Bool, eqb-true, or_cases, or_parts}
use Rattle.std.proofs.lemmas.Map.Keys.{IsDistinct-cons}
use Rattle.std.proofs.lemmas.Map.Steps.{length-le_from_distinct_below}
use Rattle.aig_model.specs.declared.netlist.AndGate.{AndGate}
use Rattle.aig_model.specs.Refusals.{Leads, IsPath, ReachesCycle}

-- a number at two places of the list
pub record Meets (xs : List ℕ) : Type 0 where
  pub one : ℕ
  pub other : ℕ
  pub apart : one < other
  pub within : other < length xs
  pub meets : get_or xs one 0 ≡ get_or xs other 0

-- a place of the number
find_place : (x : ℕ) (xs : List ℕ) → list_any (eqb x) xs ≡ true → (j : ℕ) × (j < length xs) × (get_or xs j 0 ≡ x)
find_place x [] e = absurd (cc)
find_place x (y ∷ xs) e =
    ⊎_elim (λ here. (0, omega arith, sym (eqb-true x y here)))
    (λ later. let h = find_place x xs later in (suc h.0, omega (arith, h.1), h.2))
    (or_cases (eqb x y) (list_any (eqb x) xs) e)

none_alike : (x : ℕ) (xs : List ℕ) → list_any (eqb x) xs ≡ false → AllByRecursion (λ y. eqb x y ≡ false) xs
none_alike x [] e = tt
none_alike x (y ∷ xs) e = let h = or_parts (eqb x y) (list_any (eqb x) xs) e in (h.0, none_alike x xs h.1)

distinct_or_meets : (xs : List ℕ) → IsDistinct eqb xs ⊎ Meets xs
unfolding IsDistinct
distinct_or_meets [] = inl tt
distinct_or_meets (x ∷ xs) =
    ⊎_elim
    (λ found. let h = find_place x xs found in inr (record {
      one = 0;
      other = suc h.0;
      apart = omega arith;
      within = omega (arith, h.1);
      meets = sym h.2;
    }))
    (λ new.
    ⊎_elim (λ distinct. inl (IsDistinct-cons eqb x xs (none_alike x xs new) distinct))
    (λ m. inr (record { one = suc m.one; other = suc m.other; apart = omega arith; within = omega arith; meets = m.meets }))
    (distinct_or_meets xs))
    (cases_Bool (list_any (eqb x) xs))

-- numbers below n, more than n of them: one stands twice
pub meets_from_long : (xs : List ℕ) (n : ℕ) → n < length xs → ((j : ℕ) → j < length xs → get_or xs j 0 < n) → Meets xs
meets_from_long xs n long below =
    ⊎_elim
    (λ distinct.
    let short = length-le_from_distinct_below xs n distinct
    (λ q found. let h = find_place q xs found in subst (λ k. k < n) h.2 (below h.0 h.1)) in
    absurd (omega arith))
    (λ m. m)
    (distinct_or_meets xs)

each_more : (P : ℕ → Type 0) (v : ℕ) (xs : List ℕ) → P v → ((j : ℕ) → j < length xs → P (get_or xs j 0)) → (j : ℕ)
    → j < suc (length xs) → P (get_or (v ∷ xs) j 0)
each_more P v xs p rest zero lt = p
each_more P v xs p rest (suc j) lt = rest j (omega arith)

module _ (gates : List AndGate) (P : ℕ → Type 0) (next : (u : ℕ) → P u → (w : ℕ) × Leads gates u w × P w) where
  -- a path of a given length, all of which has the property
  record LongPath (v n : ℕ) : Type 0 where
    path : List ℕ
    is_path : IsPath gates (v ∷ path)
    long : length path ≡ n
    each : (j : ℕ) → j < length (v ∷ path) → P (get_or (v ∷ path) j 0)

  long_path : (n v : ℕ) → P v → LongPath v n
  long_path zero v p = record { path = []; is_path = tt; long = refl; each = each_more P v [] p (λ j lt. absurd (omega arith)) }
  long_path (suc n) v p =
      let step = next v p in
      let rest = long_path n step.0 step.2 in
      record {
        path = step.0 ∷ rest.path;
        is_path = (step.1, rest.is_path);
        long = ap suc rest.long;
        each = each_more P v (step.0 ∷ rest.path) p rest.each;
      }

  -- where the property leads on for ever, below n, a cycle can be reached
  pub reaches_from_endless : (n : ℕ) → ((v : ℕ) → P v → v < n) → (v : ℕ) → P v → ReachesCycle gates v
  reaches_from_endless n below v p =
      let long = long_path n v p in
      let m = meets_from_long (v ∷ long.path) n (omega (arith, long.long)) (λ j lt. below _ (long.each j lt)) in
      record {
        path = long.path;
        is_path = long.is_path;
        one = m.one;
        other = m.other;
        apart = m.apart;
        within = m.within;
        meets = m.meets;
      }

module _ (gates : List AndGate) (P : ℕ → Type 0) (h : ℕ → ℕ) (falls : (u w : ℕ) → P u → Leads gates u w → P w × (h w < h u)) where
  below_first : (u : ℕ) (path : List ℕ) → P u → IsPath gates (u ∷ path) → (j : ℕ) → j < length path → h (get_or path j 0) < h u
  below_first u [] p is j lt = absurd (omega arith)
  below_first u (w ∷ path) p is zero lt = (falls u w p is.0).1
  below_first u (w ∷ path) p is (suc j) lt =
      let step = falls u w p is.0 in
      let rest = below_first w path step.0 is.1 j (omega arith) in
      omega (arith, step.1)

  goes_down : (u : ℕ) (path : List ℕ) → P u → IsPath gates (u ∷ path) → (i j : ℕ) → i < j → j < length (u ∷ path)
      → h (get_or (u ∷ path) j 0) < h (get_or (u ∷ path) i 0)
  goes_down u path p is zero zero lt within = absurd (omega arith)
  goes_down u path p is zero (suc j) lt within = below_first u path p is j (omega arith)
  goes_down u path p is (suc i) zero lt within = absurd (omega arith)
  goes_down u [] p is (suc i) (suc j) lt within = absurd (omega arith)
  goes_down u (w ∷ path) p is (suc i) (suc j) lt within =
      goes_down w path (falls u w p is.0).0 is.1 i j (omega arith) (omega arith)

  -- where each gate's right sides are lower, no cycle can be reached
  pub no_cycle : (v : ℕ) → P v → ReachesCycle gates v → ⊥
  no_cycle v p r =
      let down = goes_down v r.path p r.is_path r.one r.other r.apart r.within in
      let same = ap h r.meets in
      omega (arith, same)
