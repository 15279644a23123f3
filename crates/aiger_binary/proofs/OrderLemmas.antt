-- Variables that are numbered in order are defined once each, and gates above their right sides have no cycle.
use Rattle.std.proofs.Common.{◌≡◌, ℕ, zero, suc, ◌+◌, ◌*◌, ◌<◌, ◌≤◌, true, false, eqb, List, [], ◌∷◌, ◌++◌, length, map, refl, sym, ap, subst, ◌∙◌, inl, inr, arith}
use Rattle.std.specs.Prelude.{slice_index}
use Rattle.std.specs.List.{AllByRecursion, range_with_len, list_any}
use Rattle.std.proofs.lemmas.Bool.{cases_eq}
use Rattle.std.proofs.lemmas.Bool.Decides.{nat_tests}
use Rattle.std.proofs.lemmas.List.FromFn.{length-range_with_len, get_or-range_with_len}
use Rattle.std.proofs.lemmas.Option.{same_Some}
use Rattle.ja_base.specs.Literals.{variable}
use Rattle.aig_model.specs.declared.netlist.Latch.{Latch}
use Rattle.aig_model.specs.declared.netlist.AndGate.{AndGate}
use Rattle.aig_model.specs.declared.netlist.Parts.{Parts}
use Rattle.aig_model.specs.Netlist.{IsNew, gate_var, definitions}
use Rattle.aig_model.specs.Refusals.{netlist_of, uses, AreInRange, Leads, IsPath, AreOnce, AreDefined, MakesDesign}
use Rattle.aig_model.proofs.Uses.{Has-from_Contains}
use Rattle.aiger_lines.specs.Lines.{IsUsed}
use Rattle.aiger_lines.proofs.ListLemmas.{all_at, all_from_at, all_mapped}
use Rattle.aiger_binary.specs.Grammar.{AreNumbered}

-- ---- items that are numbered

-- the same by recursion, from this literal on
abbrev pub AreCounted : {X : Type 0} → (X → ℕ) → ℕ → List X → Type 0
AreCounted literal_of l [] = Unit {0}
AreCounted literal_of l (x ∷ xs) = (literal_of x ≡ l) × AreCounted literal_of (l + 2) xs

module _ {X : Type 0} (literal_of : X → ℕ) where
  pub numbered_counted : (first : ℕ) (xs : List X) → AreNumbered literal_of first xs → AreCounted literal_of (2 * first) xs
  numbered_counted first [] h = tt
  numbered_counted first (x ∷ xs) h =
      let one : literal_of x ≡ 2 * first = h 0 x refl ∙ omega arith in
      let others : AreNumbered literal_of (first + 1) xs = λ i y e. h (suc i) y e ∙ omega arith in
      let next : 2 * (first + 1) ≡ 2 * first + 2 = omega arith in
      (one, subst (λ (l : ℕ). AreCounted literal_of l xs) next (numbered_counted (first + 1) xs others))

  pub counted_numbered : (l first : ℕ) (xs : List X) → l ≡ 2 * first → AreCounted literal_of l xs
      → AreNumbered literal_of first xs
  counted_numbered l first [] e h i x at = absurd cc
  counted_numbered l first (y ∷ ys) e h zero x at = ap literal_of (sym (same_Some y x at)) ∙ h.0 ∙ omega arith
  counted_numbered l first (y ∷ ys) e h (suc i) x at = counted_numbered (l + 2) (first + 1) ys (omega arith) h.1 i x at
      ∙ omega arith

  -- their variables
  pub counted_range : (l first : ℕ) (xs : List X) → l ≡ 2 * first → AreCounted literal_of l xs
      → map (λ x. variable (literal_of x)) xs ≡ range_with_len first (length xs)
  counted_range l first [] e h = refl
  counted_range l first (x ∷ xs) e h =
      let one : variable (literal_of x) ≡ first = omega (arith, h.0) in
      let others = counted_range (l + 2) (first + 1) xs (omega arith) h.1 in
      rw (one, others) refl

  pub counted_new : (vars l first : ℕ) (xs : List X) → l ≡ 2 * first → 0 < first → first + length xs ≤ vars + 1
      → AreCounted literal_of l xs → AllByRecursion (λ x. IsNew vars (literal_of x)) xs
  counted_new vars l first [] e pos most h = tt
  counted_new vars l first (x ∷ xs) e pos most h = (
    record { even = omega (arith, h.0); above = omega (arith, h.0); within = omega (arith, h.0) },
    counted_new vars (l + 2) (first + 1) xs (omega arith) (omega arith) (omega arith) h.1,
  )

-- inputs are their numbers
pub counted_inputs : (first : ℕ) (ls : List ℕ) → AreCounted (λ l. l) (2 * first) ls
    → ls ≡ map (λ v. 2 * v) (range_with_len first (length ls))
counted_inputs first [] h = refl
counted_inputs first (l ∷ ls) h =
    let next : 2 * first + 2 ≡ 2 * (first + 1) = omega arith in
    rw (h.0, ← counted_inputs (first + 1) ls (subst (λ (k : ℕ). AreCounted (λ l. l) k ls) next h.1)) refl

pub inputs_counted : (first n : ℕ) → AreCounted (λ l. l) (2 * first) (map (λ v. 2 * v) (range_with_len first n))
inputs_counted first zero = tt
inputs_counted first (suc n) =
    let next : 2 * (first + 1) ≡ 2 * first + 2 = omega arith in (
      refl,
      subst (λ (k : ℕ). AreCounted (λ l. l) k (map (λ v. 2 * v) (range_with_len (first + 1) n))) next
          (inputs_counted (first + 1) n),
    )

range-append : (a m n : ℕ) → range_with_len a m ++ range_with_len (a + m) n ≡ range_with_len a (m + n)
range-append a zero n =
    let start : a + 0 ≡ a = omega arith in
    let count : 0 + n ≡ n = omega arith in
    rw (start, count) refl
range-append a (suc m) n =
    let start : a + suc m ≡ (a + 1) + m = omega arith in
    let count : suc m + n ≡ suc (m + n) = omega arith in
    rw (start, count) (ap (λ (k : List ℕ). a ∷ k) (range-append (a + 1) m n))

-- ---- each variable is defined once

-- the variables of inputs, latches and gates are those from 1 on
pub AreAll : ℕ → Parts → Type 0
AreAll n p = definitions (netlist_of p) ≡ range_with_len 1 n

pub are_all : (i l g : ℕ) (p : Parts) → map variable p.inputs ≡ range_with_len 1 i
    → map (λ (k : Latch). variable k.lit) p.latches ≡ range_with_len (i + 1) l
    → map gate_var p.gates ≡ range_with_len (i + l + 1) g → AreAll (i + l + g) p
unfolding AreAll
are_all i l g p inputs latches gates =
    let second : i + 1 ≡ 1 + i = omega arith in
    let third : i + l + 1 ≡ 1 + (i + l) = omega arith in
    rw (inputs, latches, gates, second, third, range-append 1 i l) (range-append 1 (i + l) g)

pub all_once : (n : ℕ) (p : Parts) → AreAll n p → AreOnce p
unfolding AreAll
all_once n p e v twice =
    let within : twice.other < n = omega (arith, ap length e, length-range_with_len 1 n, twice.within) in
    let one = ap (λ (k : List ℕ). slice_index k twice.one) e
    ∙ get_or-range_with_len 1 n twice.one 0 (omega (arith, twice.apart)) in
    let other = ap (λ (k : List ℕ). slice_index k twice.other) e ∙ get_or-range_with_len 1 n twice.other 0 within in
    omega (arith, one, other, twice.one_is, twice.other_is, twice.apart)

any_range : (a n v : ℕ) → a ≤ v → v < a + n → list_any (λ u. eqb u v) (range_with_len a n) ≡ true
any_range a zero v ge lt = absurd (omega arith)
any_range a (suc n) v ge lt =
    elim (cases_eq a v) [
      | inl same ↦ let first : eqb a v ≡ true = grind (arith, nat_tests) in rw first refl
      | inr ne ↦
          let first : eqb a v ≡ false = grind (arith, nat_tests) in
          rw (first, any_range (a + 1) n v (omega arith) (omega arith)) refl
    ]

used_within : (p : Parts) → AreInRange p → AllByRecursion (λ v. v ≤ p.vars) (map variable (uses p))
used_within p range =
    let used = all_from_at (IsUsed p.vars) (uses p) range.used in
    all_mapped variable (IsUsed p.vars) (λ v. v ≤ p.vars) (λ l h. omega arith) (uses p) used

pub all_defined : (p : Parts) → AreInRange p → AreAll p.vars p → AreDefined p
unfolding AreAll
all_defined p range e v u =
    let has = Has-from_Contains (map variable (uses p)) v u.used in
    let within : v ≤ p.vars = all_at (λ (w : ℕ). w ≤ p.vars) (map variable (uses p)) (used_within p range) has.0 v has.1 in
    let there : list_any (λ u. eqb u v) (definitions (netlist_of p)) ≡ true = rw e
    (any_range 1 p.vars v (omega (arith, u.above)) (omega arith)) in
    absurd (cc (there, u.undefined))

-- ---- no gate depends on itself

-- a gate's variable is above those of its right sides
pub record IsAbove (g : AndGate) : Type 0 where
  pub rhs0 : variable g.rhs0 < gate_var g
  pub rhs1 : variable g.rhs1 < gate_var g

leads_down : (gates : List AndGate) → AllByRecursion IsAbove gates → (u w : ℕ) → Leads gates u w → w < u
leads_down gates above u w h =
    let gate = all_at IsAbove gates above h.at h.gate h.is in
    elim h.to [
      | inl e ↦ omega (arith, gate.rhs0, h.from)
      | inr e ↦ omega (arith, gate.rhs1, h.from)
    ]

-- along a path the variables fall
path_falls : (gates : List AndGate) → AllByRecursion IsAbove gates → (path : List ℕ) → IsPath gates path → (i j : ℕ) → i < j
    → j < length path → slice_index path j < slice_index path i
path_falls gates above [] h i j lt within = absurd (omega arith)
path_falls gates above (u ∷ []) h i j lt within = absurd (omega arith)
path_falls gates above (u ∷ w ∷ path) h i zero lt within = absurd (omega arith)
path_falls gates above (u ∷ w ∷ path) h zero (suc zero) lt within = leads_down gates above u w h.0
path_falls gates above (u ∷ w ∷ path) h zero (suc (suc j)) lt within =
    let first = leads_down gates above u w h.0 in
    let others = path_falls gates above (w ∷ path) h.1 0 (suc j) (omega arith) (omega arith) in
    omega (arith, first, others)
path_falls gates above (u ∷ w ∷ path) h (suc i) (suc j) lt within = path_falls gates above (w ∷ path) h.1 i j (omega arith)
    (omega arith)

pub makes_design : (p : Parts) → AreInRange p → AreAll p.vars p → AllByRecursion IsAbove p.gates → MakesDesign p
makes_design p range all above = record {
  once = all_once p.vars p all;
  defined = all_defined p range all;
  acyclic = λ v c.
      let falls = path_falls p.gates above (v ∷ c.path) c.is_path c.one c.other c.apart c.within in
      omega (arith, falls, c.meets);
}
