-- The stimuli of a report, one for each property that fails, and the failures that they were taken from.
use Rattle.std.proofs.Common.{◌≡◌, ℕ, zero, suc, ◌+◌, ◌<◌, eqb, eqb-true, Bool, true, false, cond, Option, Some, List, [], ◌∷◌, length, map, slice_get, get_or, drop, refl, sym, ap, subst, ◌∙◌, arith}
use Rattle.std.specs.Prelude.{Contains}
use Rattle.std.specs.List.{filter}
use Rattle.std.proofs.lemmas.Bool.{eq-eqb, false≢true}
use Rattle.ja_base.specs.Runs.{Trace}
use Rattle.ja_base.specs.Failures.{Failure, stimuli_of}
use Rattle.store_core.specs.declared.mark.Mark.{Mark}
use Rattle.store_core.specs.declared.mark.Mark.TheVariants.{Proved, Fails, Budget, Cancelled}
use Rattle.store_core.specs.MarkKinds.{fails, is_failing}
use Rattle.report.specs.declared.parts.PropStim.{PropStim}
use Rattle.report.specs.Findings.{failing_from}

abbrev pub props_of : List PropStim → List ℕ
props_of xs = map (λ (x : PropStim). x.prop) xs

abbrev pub as_failures : List PropStim → List Failure
as_failures xs = map (λ (x : PropStim). record { property = x.prop; stimulus = x.stim }) xs

head_is : (x y : ℕ) (xs ys : List ℕ) → x ∷ xs ≡ y ∷ ys → x ≡ y
head_is x y xs ys e = ap (λ (l : List ℕ). get_or l 0 x) e

tail_is : (x y : ℕ) (xs ys : List ℕ) → x ∷ xs ≡ y ∷ ys → xs ≡ ys
tail_is x y xs ys e = ap (λ (l : List ℕ). drop 1 l) e

not_nil : (y : ℕ) (ys : List ℕ) → [] ≡ y ∷ ys → ⊥
not_nil y ys e = let same : 0 ≡ length (y ∷ ys) = ap length e in omega (arith, same)

eqb_other : (a b : ℕ) → a < b → eqb b a ≡ false
eqb_other a b lt = by_test (eqb b a) refl
  where
    by_test : (t : Bool) → t ≡ eqb b a → eqb b a ≡ false
    by_test false e = sym e
    by_test true e = absurd (omega (arith, lt, eqb-true b a (sym e)))

-- the stimuli of a property, where the first is of another one
skips : (p : ℕ) (x : PropStim) (xs : List PropStim) → p < x.prop
    → stimuli_of p (as_failures (x ∷ xs)) ≡ stimuli_of p (as_failures xs)
skips p x xs lt = ap
    (λ (b : Bool). map (λ (f : Failure). f.stimulus) (cond b
    (record { property = x.prop; stimulus = x.stim } ∷ filter (λ (f : Failure). eqb f.property p) (as_failures xs))
    (filter (λ (f : Failure). eqb f.property p) (as_failures xs))))
    (eqb_other p x.prop lt)

takes : (p : ℕ) (x : PropStim) (xs : List PropStim) → x.prop ≡ p
    → stimuli_of p (as_failures (x ∷ xs)) ≡ x.stim ∷ stimuli_of p (as_failures xs)
takes p x xs is = ap
    (λ (b : Bool). map (λ (f : Failure). f.stimulus) (cond b
    (record { property = x.prop; stimulus = x.stim } ∷ filter (λ (f : Failure). eqb f.property p) (as_failures xs))
    (filter (λ (f : Failure). eqb f.property p) (as_failures xs))))
    (eq-eqb x.prop p is)

-- no property before the first has a stimulus
none_below : (p n : ℕ) (ms : List Mark) (xs : List PropStim) → p < n → props_of xs ≡ failing_from n ms
    → stimuli_of p (as_failures xs) ≡ []
none_below p n [] [] lt e = refl
none_below p n [] (x ∷ xs) lt e = absurd (not_nil x.prop (props_of xs) (sym e))
none_below p n (Proved ∷ ms) xs lt e = none_below p (n + 1) ms xs (omega (arith, lt)) e
none_below p n (Budget k ∷ ms) xs lt e = none_below p (n + 1) ms xs (omega (arith, lt)) e
none_below p n (Cancelled ∷ ms) xs lt e = none_below p (n + 1) ms xs (omega (arith, lt)) e
none_below p n (Fails ∷ ms) [] lt e = absurd (not_nil n (failing_from (n + 1) ms) e)
none_below p n (Fails ∷ ms) (x ∷ xs) lt e =
    let is : x.prop ≡ n = head_is x.prop n (props_of xs) (failing_from (n + 1) ms) e in
    let later = none_below p (n + 1) ms xs (omega (arith, lt)) (tail_is x.prop n (props_of xs) (failing_from (n + 1) ms) e) in
    skips p x xs (omega (arith, lt, is)) ∙ later

-- the list has one stimulus of the property, and no other
pub record HasOne (p : ℕ) (xs : List PropStim) : Type 0 where
  pub one : PropStim
  pub in_list : Contains xs one
  pub prop_is : one.prop ≡ p
  pub only : stimuli_of p (as_failures xs) ≡ one.stim ∷ []

behind : (p : ℕ) (x : PropStim) (xs : List PropStim) → x.prop < p → HasOne p xs → HasOne p (x ∷ xs)
behind p x xs lt h = record {
  one = h.one;
  in_list = (suc h.in_list.0, omega (arith, h.in_list.1), h.in_list.2);
  prop_is = h.prop_is;
  only = others ∙ h.only;
}
  where
    differs : eqb x.prop p ≡ false
    differs = by_test (eqb x.prop p) refl
      where
        by_test : (t : Bool) → t ≡ eqb x.prop p → eqb x.prop p ≡ false
        by_test false e = sym e
        by_test true e = absurd (omega (arith, lt, eqb-true x.prop p (sym e)))

    others : stimuli_of p (as_failures (x ∷ xs)) ≡ stimuli_of p (as_failures xs)
    others = ap
        (λ (b : Bool). map (λ (f : Failure). f.stimulus) (cond b
        (record { property = x.prop; stimulus = x.stim } ∷ filter (λ (f : Failure). eqb f.property p) (as_failures xs))
        (filter (λ (f : Failure). eqb f.property p) (as_failures xs))))
        differs

one_further : (n k : ℕ) (xs : List PropStim) → HasOne (n + 1 + k) xs → HasOne (n + suc k) xs
one_further n k xs h = let e : n + 1 + k ≡ n + suc k = omega arith in subst (λ p. HasOne p xs) e h

other_mark : (m : Mark) → Some m ≡ Some Fails → fails m ≡ false → ⊥
other_mark m e is = false≢true (sym is ∙ ap (λ (o : Option Mark). is_failing o) e)

-- a property that fails has its stimulus
pub has_one : (k n : ℕ) (ms : List Mark) (xs : List PropStim) → props_of xs ≡ failing_from n ms
    → slice_get ms k ≡ Some Fails → HasOne (n + k) xs
has_one k n [] xs e h = absurd cc
has_one zero n (Proved ∷ ms) xs e h = absurd (other_mark Proved h refl)
has_one zero n (Budget b ∷ ms) xs e h = absurd (other_mark (Budget b) h refl)
has_one zero n (Cancelled ∷ ms) xs e h = absurd (other_mark Cancelled h refl)
has_one zero n (Fails ∷ ms) [] e h = absurd (not_nil n (failing_from (n + 1) ms) e)
has_one zero n (Fails ∷ ms) (x ∷ xs) e h =
    let is : x.prop ≡ n = head_is x.prop n (props_of xs) (failing_from (n + 1) ms) e in
    let same : x.prop ≡ n + 0 = omega (arith, is) in
    let none = none_below (n + 0) (n + 1) ms xs (omega arith) (tail_is x.prop n (props_of xs) (failing_from (n + 1) ms) e) in
    record {
      one = x;
      in_list = (0, omega arith, refl);
      prop_is = same;
      only = takes (n + 0) x xs same ∙ ap (λ (l : List Trace). x.stim ∷ l) none;
    }
has_one (suc k) n (Proved ∷ ms) xs e h = one_further n k xs (has_one k (n + 1) ms xs e h)
has_one (suc k) n (Budget b ∷ ms) xs e h = one_further n k xs (has_one k (n + 1) ms xs e h)
has_one (suc k) n (Cancelled ∷ ms) xs e h = one_further n k xs (has_one k (n + 1) ms xs e h)
has_one (suc k) n (Fails ∷ ms) [] e h = absurd (not_nil n (failing_from (n + 1) ms) e)
has_one (suc k) n (Fails ∷ ms) (x ∷ xs) e h =
    let is : x.prop ≡ n = head_is x.prop n (props_of xs) (failing_from (n + 1) ms) e in
    let rest = tail_is x.prop n (props_of xs) (failing_from (n + 1) ms) e in
    behind (n + suc k) x xs (omega (arith, is)) (one_further n k xs (has_one k (n + 1) ms xs rest h))

-- the stimulus of a failure is one of those of its property
pub stimulus_in : (failures : List Failure) (f : Failure) → Contains failures f
    → Contains (stimuli_of f.property failures) f.stimulus
stimulus_in [] f h = absurd (omega (arith, h.1))
stimulus_in (g ∷ gs) f h = by_place h.0 h.1 h.2 (λ k lt is. stimulus_in gs f (k, lt, is))
  where
    more : (b : Bool) → Contains (stimuli_of f.property gs) f.stimulus
        → Contains (map (λ (x : Failure). x.stimulus) (cond b (g ∷ filter (λ (x : Failure). eqb x.property f.property) gs)
        (filter (λ (x : Failure). eqb x.property f.property) gs))) f.stimulus
    more true later = (suc later.0, omega (arith, later.1), later.2)
    more false later = later

    here : (b : Bool) → b ≡ true → g ≡ f
        → Contains (map (λ (x : Failure). x.stimulus) (cond b (g ∷ filter (λ (x : Failure). eqb x.property f.property) gs)
        (filter (λ (x : Failure). eqb x.property f.property) gs))) f.stimulus
    here true e is = (0, omega arith, ap (λ (x : Failure). x.stimulus) is)
    here false e is = absurd (false≢true e)

    by_place : (k : ℕ) → k < length (g ∷ gs) → get_or (g ∷ gs) k f ≡ f
        → ((j : ℕ) → j < length gs → get_or gs j f ≡ f → Contains (stimuli_of f.property gs) f.stimulus)
        → Contains (stimuli_of f.property (g ∷ gs)) f.stimulus
    by_place zero lt is later = here (eqb g.property f.property)
        (eq-eqb g.property f.property (ap (λ (x : Failure). x.property) is)) is
    by_place (suc k) lt is later = more (eqb g.property f.property) (later k (omega (arith, lt)) is)
