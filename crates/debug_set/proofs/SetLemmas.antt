-- The debugging set of the first n properties, and one property more; and what is broken first.
use Rattle.std.proofs.Common.{◌≡◌, ℕ, zero, suc, ◌+◌, ◌<◌, ◌≤◌, ◌&&◌, ◌↔◌, ⊎_elim, Bool, true, false, List, [], ◌∷◌, ◌++◌, length, sym, ap, subst, ◌∙◌, arith, below_more, get_or}
use Rattle.std.specs.Prelude.{Contains, if◌then◌else◌}
use Rattle.std.specs.List.Sorted.{IsStrictlyIncreasing}
use Rattle.std.proofs.lemmas.Bool.{cases_lt, false≢true, and_parts, and_from}
use Rattle.std.proofs.lemmas.List.{get_or_past, get_or_default, get_or_append_left, length-append, append-nil}
use Rattle.std.proofs.Math.Seq.{get_or-append_seam}
use Rattle.std.proofs.lemmas.List.Elements.{Contains-append_left, Contains-append_cases, Contains-push}
use Rattle.ja_base.specs.Literals.{bit}
use Rattle.ja_base.specs.Sets.{IsDebuggingSet}

-- the debugging set of the first n properties
pub record IsSetBelow (assumed fails : List Bool) (n : ℕ) (set : List ℕ) : Type 0 where
  pub ascends : IsStrictlyIncreasing set
  pub members : (p : ℕ) → Contains set p ↔ ((p < n) × (bit assumed p ≡ true) × (bit fails p ≡ true))

IsStrictlyIncreasing-push : (xs : List ℕ) (n : ℕ) → IsStrictlyIncreasing xs → ((k : ℕ) → k < length xs → get_or xs k 0 < n)
    → IsStrictlyIncreasing (xs ++ n ∷ [])
IsStrictlyIncreasing-push xs n up low k h = ⊎_elim inside last (cases_lt (k + 1) (length xs))
  where
    before : k < length xs → get_or (xs ++ n ∷ []) k 0 ≡ get_or xs k 0
    before lt = get_or_append_left xs (n ∷ []) 0 k lt

    inside : k + 1 < length xs → get_or (xs ++ n ∷ []) k 0 < get_or (xs ++ n ∷ []) (k + 1) 0
    inside lt = omega (arith, up k lt, before (omega (arith, lt)), get_or_append_left xs (n ∷ []) 0 (k + 1) lt)

    last : length xs ≤ k + 1 → get_or (xs ++ n ∷ []) k 0 < get_or (xs ++ n ∷ []) (k + 1) 0
    last le =
        let end : k + 1 ≡ length xs = omega (arith, le, h, length-append xs (n ∷ [])) in
        let is : get_or (xs ++ n ∷ []) (k + 1) 0 ≡ n = ap (λ j. get_or (xs ++ n ∷ []) j 0) end ∙ get_or-append_seam xs n [] 0 in
        omega (arith, low k (omega (arith, end)), before (omega (arith, end)), is)

only_one : (n p : ℕ) → Contains (n ∷ []) p → p ≡ n
only_one n p (zero, h, is) = sym is
only_one n p (suc k, h, is) = absurd (omega (arith, h))

pub nothing_below : (assumed fails : List Bool) → IsSetBelow assumed fails 0 []
nothing_below assumed fails = record {
  ascends = λ k h. absurd (omega (arith, h));
  members = λ p. (λ h. absurd (omega (arith, h.1)), λ h. absurd (omega (arith, h.0)));
}

with_next : (assumed fails : List Bool) (n : ℕ) (set : List ℕ) → bit assumed n ≡ true → bit fails n ≡ true
    → IsSetBelow assumed fails n set → IsSetBelow assumed fails (n + 1) (set ++ n ∷ [])
with_next assumed fails n set held failing s = record {
  ascends = IsStrictlyIncreasing-push set n s.ascends (λ k h. ((s.members (get_or set k 0)).0 (k, h, same k h)).0);
  members = λ p. (λ h. ⊎_elim (old p) (λ one. new p (only_one n p one)) (Contains-append_cases set (n ∷ []) p h), back p);
}
  where
    same : (k : ℕ) → k < length set → get_or set k (get_or set k 0) ≡ get_or set k 0
    same k h = get_or_default set k (get_or set k 0) 0 h

    old : (p : ℕ) → Contains set p → (p < n + 1) × (bit assumed p ≡ true) × (bit fails p ≡ true)
    old p h = let is = (s.members p).0 h in (omega (arith, is.0), is.1, is.2)

    new : (p : ℕ) → p ≡ n → (p < n + 1) × (bit assumed p ≡ true) × (bit fails p ≡ true)
    new p is = (omega (arith, is), ap (bit assumed) is ∙ held, ap (bit fails) is ∙ failing)

    back : (p : ℕ) → (p < n + 1) × (bit assumed p ≡ true) × (bit fails p ≡ true) → Contains (set ++ n ∷ []) p
    back p h = below_more (λ k. (bit assumed k ≡ true) × (bit fails k ≡ true) → Contains (set ++ n ∷ []) k) n
        (λ k lt is. Contains-append_left set (n ∷ []) k ((s.members k).1 (lt, is.0, is.1))) (λ is. Contains-push set n)
        p h.0 (h.1, h.2)

without_next : (assumed fails : List Bool) (n : ℕ) (set : List ℕ) → (bit assumed n && bit fails n) ≡ false
    → IsSetBelow assumed fails n set → IsSetBelow assumed fails (n + 1) set
without_next assumed fails n set out s = record {
  ascends = s.ascends;
  members = λ p. (
    λ h. let is = (s.members p).0 h in (omega (arith, is.0), is.1, is.2),
    λ h. below_more
        (λ k. (bit assumed k ≡ true) × (bit fails k ≡ true) → Contains set k) n (λ k lt is. (s.members k).1 (lt, is.0, is.1))
        not_here p h.0 (h.1, h.2),
  );
}
  where
    not_here : (bit assumed n ≡ true) × (bit fails n ≡ true) → Contains set n
    not_here h = absurd (false≢true (sym out ∙ and_from (bit assumed n) (bit fails n) h.0 h.1))

pub next_of_set : (assumed fails : List Bool) (n : ℕ) (old new : List ℕ) (is_in : Bool) → is_in ≡ (bit assumed n && bit fails n)
    → new ≡ old ++ (if is_in then n ∷ [] else []) → IsSetBelow assumed fails n old → IsSetBelow assumed fails (n + 1) new
next_of_set assumed fails n old new true is grown s =
    let both = and_parts (bit assumed n) (bit fails n) (sym is) in
    subst (IsSetBelow assumed fails (n + 1)) (sym grown) (with_next assumed fails n old both.0 both.1 s)
next_of_set assumed fails n old new false is grown s =
    subst (IsSetBelow assumed fails (n + 1)) (sym (grown ∙ append-nil old)) (without_next assumed fails n old (sym is) s)

pub set_of_all : (assumed fails : List Bool) (set : List ℕ) → IsSetBelow assumed fails (length assumed) set
    → IsDebuggingSet assumed fails set
set_of_all assumed fails set s = record {
  ascends = s.ascends;
  members = λ p. (λ h. let is = (s.members p).0 h in (is.1, is.2), λ h. (s.members p).1 (within p h.0, h.0, h.1));
}
  where
    within : (p : ℕ) → bit assumed p ≡ true → p < length assumed
    within p held = ⊎_elim (λ lt. lt) (λ past. absurd (false≢true (sym (get_or_past assumed p false past) ∙ held)))
        (cases_lt p (length assumed))
