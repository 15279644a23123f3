-- Clauses of literals that are 0 in a row: the latch row is in the cube that they exclude.
use Rattle.std.proofs.Common.{◌≡◌, ℕ, suc, zero, ◌%◌, ◌==◌, ◌&&◌, ◌||◌, Bool, true, false, not, cond, List, [], ◌∷◌, ◌++◌, length, slice_get, Some, refl, sym, ap, ◌∙◌, subst, arith, ⊎_elim, inl, inr, ◌⊎◌}
use Rattle.std.specs.Prelude.{Contains}
use Rattle.std.specs.List.{list_any, list_all}
use Rattle.std.proofs.lemmas.Bool.{false≢true, false_from_ne_true, eq-eqb, cases_eq}
use Rattle.std.proofs.lemmas.Bool.Decides.{nat_tests}
use Rattle.std.proofs.lemmas.List.{length-map}
use Rattle.std.proofs.lemmas.List.Elements.{Contains-push_cases}
use Rattle.std.proofs.lemmas.Option.{slice_get_read, slice_get_within, get_or_from_slice_get}
use Rattle.ja_base.specs.Literals.{bit, variable, negated, is_negated, with_sign, value}
use Rattle.ja_base.specs.Clauses.{has_literal}
use Rattle.ja_base.specs.Circuit as plain
use Rattle.ja_base.specs.Invariants.{latch_value}
use Rattle.ja_base.specs.Valuation.{latch_row}
use Rattle.ja_base.proofs.ClauseLemmas.{has_literal_decides}
use Rattle.ja_base.proofs.LiteralLemmas.{value_negated, variable_negated}
use Rattle.aig_model.specs.declared.netlist.Latch.{Latch}
use Rattle.aig_model.specs.Netlist.{Netlist, IsSound, circuit, latch_of}
use Rattle.aig_model.proofs.Places.{get_map, map_cases}
use Rattle.refute_check.specs.Refuted.{has_both_signs}
use Rattle.ja_project.specs.Latches.{is_foreign, is_over_latch}
use Rattle.ja_project.proofs.ValueLemmas.{now_value}
use Rattle.ic3_general.specs.Cubes.{IsOutside, unmet_literal, unmet_literals}
use Rattle.ic3_general.specs.Dropping.{IsAmongUnmet, HasUnmet}
use Rattle.ja_project.proofs.OverLemmas.{HasLatch-from_test}

-- ---- lists of literals

and_both : (a b : Bool) → a ≡ true → b ≡ true → (a && b) ≡ true
and_both true b e f = f
and_both false b e f = e

or_none : (a b : Bool) → a ≡ false → b ≡ false → (a || b) ≡ false
or_none true b e f = e
or_none false b e f = f

pub all_pass : (p : ℕ → Bool) (xs : List ℕ) → ((l : ℕ) → Contains xs l → p l ≡ true) → list_all p xs ≡ true
all_pass p [] each = refl
all_pass p (x ∷ xs) each =
    and_both (p x) (list_all p xs) (each x (0, omega arith, refl))
    (all_pass p xs (λ l c. each l (suc c.0, omega (arith, c.1), c.2)))

pub none_pass : (p : ℕ → Bool) (xs : List ℕ) → ((l : ℕ) → Contains xs l → p l ≡ false) → list_any p xs ≡ false
none_pass p [] each = refl
none_pass p (x ∷ xs) each =
    or_none (p x) (list_any p xs) (each x (0, omega arith, refl))
    (none_pass p xs (λ l c. each l (suc c.0, omega (arith, c.1), c.2)))

pub passes_none : (p : ℕ → Bool) (xs : List ℕ) → list_any p xs ≡ false → (l : ℕ) → Contains xs l → p l ≡ false
passes_none p [] none l c = absurd (omega (arith, c.1))
passes_none p (x ∷ xs) none l (zero, within, is) = subst (λ m. p m ≡ false) is (left (p x) (list_any p xs) none)
  where
    left : (a b : Bool) → (a || b) ≡ false → a ≡ false
    left true b e = e
    left false b e = refl
passes_none p (x ∷ xs) none l (suc k, within, is) =
    passes_none p xs (right (p x) (list_any p xs) none) l (k, omega (arith, within), is)
  where
    right : (a b : Bool) → (a || b) ≡ false → b ≡ false
    right true b e = absurd (false≢true (sym e))
    right false b e = e

some_passes : {X : Type 0} (p : X → Bool) (xs : List X) (k : ℕ) (x : X) → slice_get xs k ≡ Some x → p x ≡ true
    → list_any p xs ≡ true
some_passes p [] k x is e = absurd cc
some_passes p (y ∷ ys) zero x is e = let same : y ≡ x =
    cc in subst (λ z. (p z || list_any p ys) ≡ true) (sym same) (here (p x) (list_any p ys) e)
  where
    here : (a b : Bool) → a ≡ true → (a || b) ≡ true
    here true b e = refl
    here false b e = absurd (false≢true e)
some_passes p (y ∷ ys) (suc k) x is e = later (p y) (list_any p ys) (some_passes p ys k x is e)
  where
    later : (a b : Bool) → b ≡ true → (a || b) ≡ true
    later true b e = refl
    later false b e = e

-- ---- the literals of a row

sign_of_even : (l : ℕ) (b : Bool) → l % 2 ≡ 0 → with_sign l b ≡ b
sign_of_even l b even = by_sign (is_negated l) (not_odd l even)
  where
    not_odd : (l : ℕ) → l % 2 ≡ 0 → is_negated l ≡ false
    not_odd l even = grind (arith, nat_tests)

    by_sign : (n : Bool) → n ≡ false → cond n (not b) b ≡ b
    by_sign true e = absurd (false≢true (sym e))
    by_sign false e = refl

-- of two literals over one variable with different values each is the negation of the other
other_sign : (row : List Bool) (a b : ℕ) → variable a ≡ variable b → value row a ≡ false → value row b ≡ true → a ≡ negated b
other_sign row a b var zero_at one_at =
    ⊎_elim (λ same. absurd (false≢true (sym zero_at ∙ ap (value row) same ∙ one_at))) (λ other. other) (cases a b var)
  where
    by_sign : (a b : ℕ) → variable a ≡ variable b → (a % 2 ≡ b % 2 → ⊥) → a ≡ negated b
    by_sign a b var other = grind (arith, nat_tests)

    cases : (a b : ℕ) → variable a ≡ variable b → (a ≡ b) ⊎ (a ≡ negated b)
    cases a b var = ⊎_elim (λ same. inl (omega arith)) (λ other. inr (by_sign a b var other)) (cases_eq (a % 2) (b % 2))

-- a latch whose literal of the row is this one
record IsUnmet (n : Netlist) (row : List Bool) (l : ℕ) : Type 0 where
  place : ℕ
  latch : Latch
  latch_is : slice_get n.latches place ≡ Some latch
  literal : unmet_literal row latch ≡ l

module _ (n : Netlist) (sound : IsSound n) (row : List Bool) where
  unmet_var : (latch : Latch) → variable (unmet_literal row latch) ≡ variable latch.lit
  unmet_var latch = by_bit (bit row (variable latch.lit))
    where
      by_bit : (b : Bool) → variable (cond b (negated latch.lit) latch.lit) ≡ variable latch.lit
      by_bit true = variable_negated latch.lit
      by_bit false = refl

  unmet_value : (k : ℕ) (latch : Latch) → slice_get n.latches k ≡ Some latch → value row (unmet_literal row latch) ≡ false
  unmet_value k latch is = by_bit (bit row (variable latch.lit)) refl
    where
      plainly : value row latch.lit ≡ bit row (variable latch.lit)
      plainly = sign_of_even latch.lit (bit row (variable latch.lit)) (sound.latches k latch is).lit.even

      by_bit : (b : Bool) → bit row (variable latch.lit) ≡ b → value row (cond b (negated latch.lit) latch.lit) ≡ false
      by_bit true e = value_negated row latch.lit ∙ ap not (plainly ∙ e)
      by_bit false e = plainly ∙ e

  from_literals : (l : ℕ) → Contains (unmet_literals n row) l → IsUnmet n row l
  from_literals l c =
      let at = slice_get_read (unmet_literals n row) (length (unmet_literals n row)) c.0 l refl c.1 (sym c.2) in
      let m = map_cases (unmet_literal row) n.latches c.0 l at in
      record { place = c.0; latch = m.0; latch_is = m.1; literal = m.2 }

  pub to_literals : (k : ℕ) (latch : Latch) → slice_get n.latches k ≡ Some latch
      → Contains (unmet_literals n row) (unmet_literal row latch)
  to_literals k latch is =
      let l = unmet_literal row latch in
      let at = get_map (unmet_literal row) n.latches k latch is in
      (k, slice_get_within (unmet_literals n row) k l at, get_or_from_slice_get (unmet_literals n row) k l l at)

  -- one literal more
  pub among_pushed : (lits : List ℕ) (k : ℕ) (latch : Latch) → slice_get n.latches k ≡ Some latch → IsAmongUnmet n row lits
      → IsAmongUnmet n row (lits ++ unmet_literal row latch ∷ [])
  among_pushed lits k latch is among l c =
      ⊎_elim (λ old. among l old) (λ same. subst (Contains (unmet_literals n row)) same (to_literals k latch is))
      (Contains-push_cases lits (unmet_literal row latch) l c)

  -- each literal over a latch that is 1 has its negation among them
  pub has_unmet : HasUnmet (circuit n) row (unmet_literals n row)
  has_unmet l over one =
      let h = HasLatch-from_test n l over in
      let m = unmet_literal row h.latch in
      let var : variable m ≡ variable l = unmet_var h.latch ∙ h.var_is in
      subst (Contains (unmet_literals n row)) (other_sign row m l var (unmet_value h.place h.latch h.latch_is) one)
      (to_literals h.place h.latch h.latch_is)

  module _ (clause : List ℕ) (among : IsAmongUnmet n row clause) where
    literal_of : (l : ℕ) → Contains clause l → IsUnmet n row l
    literal_of l c = from_literals l (among l c)

    value_of : (l : ℕ) → Contains clause l → value row l ≡ false
    value_of l c = let u = literal_of l c in subst (λ m. value row m ≡ false) u.literal (unmet_value u.place u.latch u.latch_is)

    is_over : (l : ℕ) → Contains clause l → is_over_latch (circuit n) l ≡ true
    is_over l c =
        let u = literal_of l c in
        let var : variable l ≡ variable u.latch.lit = ap variable (sym u.literal) ∙ unmet_var u.latch in
        some_passes (λ (k : plain.Latch). variable l == k.var) (circuit n).latches u.place (latch_of u.latch)
        (get_map latch_of n.latches u.place u.latch u.latch_is) (eq-eqb (variable l) (variable u.latch.lit) var)

    one_sign : (l : ℕ) → Contains clause l → has_literal clause (negated l) ≡ false
    one_sign l c = false_from_ne_true (has_literal clause (negated l)) (λ t.
        let other = value_of (negated l) ((has_literal_decides clause (negated l)).0 t) in
        let e : true ≡ false = sym (value_negated row l ∙ ap not (value_of l c)) ∙ other in
        false≢true (sym e))

    pub cube_is_own : is_foreign (circuit n) clause ≡ false
    cube_is_own =
        or_none (has_both_signs clause) (not (list_all (is_over_latch (circuit n)) clause))
        (none_pass (λ l. has_literal clause (negated l)) clause one_sign)
        (ap not (all_pass (is_over_latch (circuit n)) clause is_over))

    pub cube_has_row : IsOutside (circuit n) clause (latch_row (circuit n) row)
    cube_has_row = record {
      width = length-map (circuit n).latches (λ (l : plain.Latch). bit row l.var);
      unmet = none_pass (latch_value (circuit n).latches (latch_row (circuit n) row)) clause
          (λ l c. now_value (circuit n).latches row l (is_over l c) ∙ value_of l c);
    }
