-- The clause of some literals: it ascends, it has these literals, and it holds where one of them does.
use Rattle.std.proofs.Common.{◌≡◌, ℕ, ◌<◌, ◌||◌, eqb, ltb, Bool, true, false, cond, List, [], ◌∷◌, refl, sym, ap, ◌∙◌, arith, eqb-true}
use Rattle.std.specs.List.{AllByRecursion, list_any}
use Rattle.std.proofs.lemmas.Bool.Decides.{nat_tests}
use Rattle.ja_base.specs.Clauses.{IsSetOf}
use Rattle.ja_base.proofs.ClauseLemmas.{IsAbove, IsAbove-lower, Ascends, Ascends-from_increasing, has_literal_decides}
use Rattle.ja_project.specs.CodedClauses.{with_literal, clause_of}
use Rattle.ja_base.proofs.SetLemmas.{IsPart, same_members}

or_twice : (a b : Bool) → (a || b) ≡ (a || (a || b))
or_twice true b = refl
or_twice false b = refl

or_swap : (a b c : Bool) → (a || (b || c)) ≡ (b || (a || c))
or_swap true true c = refl
or_swap true false c = refl
or_swap false b c = refl

-- a literal more
module _ (p : ℕ → Bool) where
  any_cases : (t s : Bool) (l m : ℕ) (ms : List ℕ) → t ≡ eqb l m → list_any p (with_literal l ms) ≡ (p l || list_any p ms)
      → list_any p (cond t (m ∷ ms) (cond s (l ∷ m ∷ ms) (m ∷ with_literal l ms))) ≡ (p l || (p m || list_any p ms))
  any_cases true s l m ms e ih =
      let same : l ≡ m = eqb-true l m (sym e) in
      or_twice (p m) (list_any p ms) ∙ ap (λ (k : ℕ). p k || (p m || list_any p ms)) (sym same)
  any_cases false true l m ms e ih = refl
  any_cases false false l m ms e ih = ap (λ (b : Bool). p m || b) ih ∙ or_swap (p m) (p l) (list_any p ms)

  any_with : (l : ℕ) (clause : List ℕ) → list_any p (with_literal l clause) ≡ (p l || list_any p clause)
  any_with l [] = refl
  any_with l (m ∷ ms) = any_cases (eqb l m) (ltb l m) l m ms refl (any_with l ms)

  pub any_clause : (lits : List ℕ) → list_any p (clause_of lits) ≡ list_any p lits
  any_clause [] = refl
  any_clause (l ∷ ls) = any_with l (clause_of ls) ∙ ap (λ (b : Bool). p l || b) (any_clause ls)

IsAbove-with : (x l : ℕ) (clause : List ℕ) → x < l → IsAbove x clause → IsAbove x (with_literal l clause)
IsAbove-with x l [] below h = (below, tt)
IsAbove-with x l (m ∷ ms) below h = by_test (eqb l m) (ltb l m) (IsAbove-with x l ms below h.1)
  where
    by_test : (t s : Bool) → IsAbove x (with_literal l ms)
        → IsAbove x (cond t (m ∷ ms) (cond s (l ∷ m ∷ ms) (m ∷ with_literal l ms)))
    by_test true s later = h
    by_test false true later = (below, h)
    by_test false false later = (h.0, later)

Ascends-with : (l : ℕ) (clause : List ℕ) → Ascends clause → Ascends (with_literal l clause)
Ascends-with l [] h = (tt, tt)
Ascends-with l (m ∷ ms) h = by_test (eqb l m) (ltb l m) refl refl (Ascends-with l ms h.1)
  where
    by_test : (t s : Bool) → t ≡ eqb l m → s ≡ ltb l m → Ascends (with_literal l ms)
        → Ascends (cond t (m ∷ ms) (cond s (l ∷ m ∷ ms) (m ∷ with_literal l ms)))
    by_test true s e f later = h
    by_test false true e f later = let below : l < m = grind
        (arith, nat_tests) in ((below, IsAbove-lower l m ms (omega arith) h.0), h)
    by_test false false e f later = let above : m < l = grind (arith, nat_tests) in (IsAbove-with m l ms above h.0, later)

Ascends-clause : (lits : List ℕ) → Ascends (clause_of lits)
Ascends-clause [] = tt
Ascends-clause (l ∷ ls) = Ascends-with l (clause_of ls) (Ascends-clause ls)

clause_part : (lits : List ℕ) → IsPart (clause_of lits) lits
clause_part lits l c =
    (has_literal_decides lits l).0 (sym (any_clause (λ m. eqb m l) lits) ∙ (has_literal_decides (clause_of lits) l).1 c)

part_clause : (lits : List ℕ) → IsPart lits (clause_of lits)
part_clause lits l c =
    (has_literal_decides (clause_of lits) l).0 (any_clause (λ m. eqb m l) lits ∙ (has_literal_decides lits l).1 c)

-- a clause that has exactly these literals is theirs
pub clause_is : (lits clause : List ℕ) → IsSetOf lits clause → clause ≡ clause_of lits
clause_is lits clause set =
    same_members clause (clause_of lits) (Ascends-from_increasing clause set.ascends) (Ascends-clause lits)
    (λ l c. part_clause lits l ((set.members l).0 c)) (λ l c. (set.members l).1 (clause_part lits l c))

-- what holds of each literal holds of each one of the clause
module _ (P : ℕ → Type 0) where
  each_with : (l : ℕ) (clause : List ℕ) → P l → AllByRecursion P clause → AllByRecursion P (with_literal l clause)
  each_with l [] here h = (here, tt)
  each_with l (m ∷ ms) here h = by_test (eqb l m) (ltb l m) (each_with l ms here h.1)
    where
      by_test : (t s : Bool) → AllByRecursion P (with_literal l ms)
          → AllByRecursion P (cond t (m ∷ ms) (cond s (l ∷ m ∷ ms) (m ∷ with_literal l ms)))
      by_test true s later = h
      by_test false true later = (here, h)
      by_test false false later = (h.0, later)

  pub each_of_clause : (lits : List ℕ) → AllByRecursion P lits → AllByRecursion P (clause_of lits)
  each_of_clause [] h = tt
  each_of_clause (l ∷ ls) h = each_with l (clause_of ls) h.0 (each_of_clause ls h.1)
