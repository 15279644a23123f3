-- A clause is falsified by some initial row exactly where no literal of it agrees with a reset.
use Rattle.std.proofs.Common.{◌≡◌, ℕ, zero, suc, ◌+◌, ◌*◌, ◌==◌, ◌&&◌, Bool, true, false, not, cond, List, [], ◌∷◌, ◌++◌, length, get_or, map, Option, Some, None, slice_get, refl, sym, ap, ◌∙◌, arith, eqb-true, eq-eqb}
use Rattle.std.specs.Prelude.{All}
use Rattle.std.specs.List.{list_any, list_all}
use Rattle.std.specs.Option.{unwrap_or}
use Rattle.std.proofs.lemmas.Bool.{both_ways, or_parts, and_parts, false_from_ne_true}
use Rattle.std.proofs.lemmas.Bool.Decides.{nat_tests}
use Rattle.std.proofs.lemmas.List.{length-map, get_or-map}
use Rattle.std.proofs.lemmas.List.Folds.{Any-from_list_any, list_any_at, list_any_none}
use Rattle.std.proofs.lemmas.Option.{slice_get_read, get_or_from_slice_get, slice_get_within}
use Rattle.ja_base.specs.Literals.{bit, variable, is_negated, negated, with_sign}
use Rattle.ja_base.specs.Circuit as plain
use Rattle.ja_base.specs.Clauses.{has_literal}
use Rattle.ja_base.specs.Runs.{IsInitial}
use Rattle.ja_base.specs.Invariants.{latch_value}
use Rattle.aig_model.specs.declared.netlist.Latch.{Latch}
use Rattle.aig_model.specs.Netlist.{Netlist, IsSound, circuit, definitions, gate_var, latch_of}
use Rattle.aig_model.proofs.Places.{get_left, get_right, get_map, map_cases, one_place}
use Rattle.refute_check.specs.Refuted.{has_both_signs}
use Rattle.ja_project.specs.Latches.{is_foreign, is_over_latch}
use Rattle.ja_project.specs.Start.{reset_sets, agrees_with_reset, falsifying_bit, falsifying_row, starts, IsFalsifiedAtStart}

-- a test that nothing passes
pub none_passes : {X : Type 0} (p : X → Bool) (xs : List X) → list_any p xs ≡ false → All (λ x. p x ≡ false) xs
none_passes p xs none k d h = false_from_ne_true (p (get_or xs k d))
    (λ t. both_ways (list_any p xs) none (list_any_at p xs k d h t))

-- no two latches have one variable
abbrev pub HaveOwnVars : List plain.Latch → Type 0
HaveOwnVars latches = (j k : ℕ) (a b : plain.Latch) → slice_get latches j ≡ Some a → slice_get latches k ≡ Some b
    → a.var ≡ b.var → j ≡ k

place_of_latch : (n : Netlist) (k : ℕ) (latch : Latch) → slice_get n.latches k ≡ Some latch
    → slice_get (definitions n) (length (map variable n.inputs) + k) ≡ Some (variable latch.lit)
place_of_latch n k latch is =
    get_left (map variable n.inputs ++ map (λ (k : Latch). variable k.lit) n.latches) (map gate_var n.gates)
    (length (map variable n.inputs) + k) (variable latch.lit)
    (get_right (map variable n.inputs) (map (λ (k : Latch). variable k.lit) n.latches) k (variable latch.lit)
    (get_map (λ (k : Latch). variable k.lit) n.latches k latch is))

pub own_vars : (n : Netlist) → IsSound n → HaveOwnVars (circuit n).latches
own_vars n sound j k a b at_j at_k same =
    let x = map_cases latch_of n.latches j a at_j in
    let y = map_cases latch_of n.latches k b at_k in
    let one : variable x.0.lit ≡ variable y.0.lit = ap (λ (l : plain.Latch). l.var) x.2 ∙ same
    ∙ sym (ap (λ (l : plain.Latch). l.var) y.2) in
    let places = one_place (definitions n) (length (map variable n.inputs) + j) (length (map variable n.inputs) + k)
    (variable x.0.lit) (variable y.0.lit) sound.once (place_of_latch n j x.0 x.1) (place_of_latch n k y.0 y.1) one in
    omega (arith, places)

-- the latch with the literal's variable says what the literal is
pub latch_value_at : (latches : List plain.Latch) (state : List Bool) (l k : ℕ) (latch : plain.Latch) → HaveOwnVars latches
    → length state ≡ length latches → slice_get latches k ≡ Some latch → variable l ≡ latch.var
    → latch_value latches state l ≡ with_sign l (bit state k)
latch_value_at [] state l k latch own width is var = absurd cc
latch_value_at (x ∷ xs) [] l k latch own width is var = absurd (omega arith)
latch_value_at (x ∷ xs) (b ∷ state) l zero latch own width is var =
    let same : x ≡ latch = cc in
    let here : (variable l == x.var) ≡ true = eq-eqb (variable l) x.var (var ∙ sym (ap (λ (y : plain.Latch). y.var) same)) in
    ap (λ t. cond t (with_sign l b) (latch_value xs state l)) here
latch_value_at (x ∷ xs) (b ∷ state) l (suc k) latch own width is var =
    by_test (variable l == x.var) refl
    (latch_value_at xs state l k latch (λ i j a c at_i at_j same. omega (arith, own (suc i) (suc j) a c at_i at_j same))
    (omega arith) is var)
  where
    by_test : (t : Bool) → t ≡ (variable l == x.var) → latch_value xs state l ≡ with_sign l (bit state k)
        → cond t (with_sign l b) (latch_value xs state l) ≡ with_sign l (bit state k)
    by_test true e h =
        let first : x.var ≡ latch.var = sym (eqb-true (variable l) x.var (sym e)) ∙ var in
        absurd (omega (arith, own 0 (suc k) x latch refl is first))
    by_test false e h = h

-- ---- no initial row falsifies a clause with a literal that agrees with a reset

reset_of : (r : Option Bool) (l : ℕ) → reset_sets r l ≡ true → (b : Bool) × (r ≡ Some b) × (with_sign l b ≡ true)
reset_of None l h = absurd cc
reset_of (Some b) l h = (b, refl, h)

agreeing_is_met : (c : plain.Circuit) (state : List Bool) (l : ℕ) → HaveOwnVars c.latches → IsInitial c state
    → agrees_with_reset c l ≡ true → latch_value c.latches state l ≡ true
agreeing_is_met c state l own initial agrees =
    let test : plain.Latch → Bool = λ k. variable l == k.var && reset_sets k.reset l in
    let found = Any-from_list_any test c.latches agrees in
    let at : slice_get c.latches found.0 ≡ Some found.1 = slice_get_read c.latches (length c.latches) found.0 found.1 refl found.2
    (sym found.3) in
    let both = and_parts (variable l == found.1.var) (reset_sets found.1.reset l) found.4 in
    let reset = reset_of found.1.reset l both.1 in
    latch_value_at c.latches state l found.0 found.1 own initial.width at (eqb-true (variable l) found.1.var both.0)
    ∙ ap (with_sign l) (initial.agrees found.0 found.1 reset.0 at reset.1) ∙ reset.2

pub starts_false : (c : plain.Circuit) (clause : List ℕ) → HaveOwnVars c.latches → IsFalsifiedAtStart c clause
    → starts c clause ≡ false
starts_false c clause own falsified =
    false_from_ne_true (starts c clause) (λ t.
    let found = Any-from_list_any (agrees_with_reset c) clause t in
    let met = agreeing_is_met c falsified.0 found.1 own falsified.1 found.4 in
    falsified.2 (list_any_at (latch_value c.latches falsified.0) clause found.0 found.1 found.2
    (ap (latch_value c.latches falsified.0) found.3 ∙ met)))

-- ---- the row that falsifies a clause

pub falsifying_is_initial : (c : plain.Circuit) (clause : List ℕ) → IsInitial c (falsifying_row c clause)
falsifying_is_initial c clause = record {
  width = length-map c.latches (falsifying_bit clause);
  agrees = λ k l b at reset.
      get_or-map (falsifying_bit clause) c.latches k l false (slice_get_within c.latches k l at)
      ∙ ap (falsifying_bit clause) (get_or_from_slice_get c.latches k l l at)
      ∙ ap (λ r. unwrap_or r (not (has_literal clause (2 * l.var)))) reset;
}

-- a literal that a free latch with its variable makes 0
abbrev IsFalsified : List ℕ → ℕ → Type 0
IsFalsified clause l = with_sign l (not (has_literal clause (2 * variable l))) ≡ false

falsified_by : (r : Option Bool) (clause : List ℕ) (l u : ℕ) → variable l ≡ u → reset_sets r l ≡ false → IsFalsified clause l
    → with_sign l (unwrap_or r (not (has_literal clause (2 * u)))) ≡ false
falsified_by (Some b) clause l u var disagrees free = disagrees
falsified_by None clause l u var disagrees free = ap (λ v. with_sign l (not (has_literal clause (2 * v)))) (sym var) ∙ free

falsified_in : (latches : List plain.Latch) (clause : List ℕ) (l : ℕ)
    → list_any (λ (k : plain.Latch). variable l == k.var && reset_sets k.reset l) latches ≡ false → IsFalsified clause l
    → latch_value latches (map (falsifying_bit clause) latches) l ≡ false
falsified_in [] clause l none free = refl
falsified_in (k ∷ ks) clause l none free =
    let parts = or_parts (variable l == k.var && reset_sets k.reset l)
    (list_any (λ (k : plain.Latch). variable l == k.var && reset_sets k.reset l) ks) none in
    by_test (variable l == k.var) refl parts.0 (falsified_in ks clause l parts.1 free)
  where
    by_test : (t : Bool) → t ≡ (variable l == k.var) → (t && reset_sets k.reset l) ≡ false
        → latch_value ks (map (falsifying_bit clause) ks) l ≡ false
        → cond t (with_sign l (falsifying_bit clause k)) (latch_value ks (map (falsifying_bit clause) ks) l) ≡ false
    by_test true e here later = falsified_by k.reset clause l k.var (eqb-true (variable l) k.var (sym e)) here free
    by_test false e here later = later

is_falsified : (clause : List ℕ) (l : ℕ) → has_literal clause l ≡ true → has_literal clause (negated l) ≡ false
    → IsFalsified clause l
is_falsified clause l there other = by_sign (is_negated l) refl
  where
    by_sign : (b : Bool) → is_negated l ≡ b
        → cond b (not (not (has_literal clause (2 * variable l)))) (not (has_literal clause (2 * variable l))) ≡ false
    by_sign true e =
        let even : negated l ≡ 2 * variable l = grind (arith, nat_tests) in
        ap (λ m. not (not (has_literal clause m))) (sym even) ∙ ap (λ b. not (not b)) other
    by_sign false e =
        let even : l ≡ 2 * variable l = grind (arith, nat_tests) in
        ap (λ m. not (has_literal clause m)) (sym even) ∙ ap not there

-- each literal of a clause that agrees with no reset is 0 in that row
pub falsifying_is_outside : (c : plain.Circuit) (clause : List ℕ) → is_foreign c clause ≡ false → starts c clause ≡ false
    → list_any (latch_value c.latches (falsifying_row c clause)) clause ≡ false
falsifying_is_outside c clause own none =
    let one_sign = none_passes (λ l. has_literal clause (negated l)) clause
    (or_parts (has_both_signs clause) (not (list_all (is_over_latch c) clause)) own).0 in
    let each : All (λ l. latch_value c.latches (falsifying_row c clause) l ≡ false) clause =
    λ k d h. falsified_in c.latches clause (get_or clause k d) (none_passes (agrees_with_reset c) clause none k d h)
    (is_falsified clause (get_or clause k d)
    (list_any_at (λ m. m == get_or clause k d) clause k d h (eq-eqb (get_or clause k d) (get_or clause k d) refl))
    (one_sign k d h)) in
    list_any_none (latch_value c.latches (falsifying_row c clause)) clause each

pub falsified_at_start : (c : plain.Circuit) (clause : List ℕ) → is_foreign c clause ≡ false → starts c clause ≡ false
    → IsFalsifiedAtStart c clause
falsified_at_start c clause own none = (
  falsifying_row c clause,
  falsifying_is_initial c clause,
  both_ways (list_any (latch_value c.latches (falsifying_row c clause)) clause) (falsifying_is_outside c clause own none),
)

-- a row that has at each latch the bit that is made of it
pub made_of_latches : (latches : List Latch) (f : plain.Latch → Bool) (row : List Bool) → length row ≡ length latches
    → ((k : ℕ) (latch : Latch) → slice_get latches k ≡ Some latch → bit row k ≡ f (latch_of latch))
    → row ≡ map f (map latch_of latches)
made_of_latches [] f [] width each = refl
made_of_latches [] f (b ∷ bs) width each = absurd (omega (arith, width))
made_of_latches (x ∷ xs) f [] width each = absurd (omega (arith, width))
made_of_latches (x ∷ xs) f (b ∷ bs) width each =
    ap (λ c. c ∷ bs) (each 0 x refl)
    ∙ ap (λ (r : List Bool). f (latch_of x) ∷ r)
    (made_of_latches xs f bs (omega (arith, width)) (λ k latch is. each (suc k) latch is))
