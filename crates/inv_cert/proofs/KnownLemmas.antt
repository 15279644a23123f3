-- A set of clauses beside a list, one clause further.
use Rattle.std.proofs.Common.{◌≡◌, ℕ, ◌+◌, ◌<◌, ◌≤◌, ◌||◌, Bool, true, false, not, cond, List, [], ◌∷◌, ◌++◌, length, get_or, take, refl, sym, ap, ◌∙◌, subst}
use Rattle.std.specs.Prelude.{bytes_eq}
use Rattle.std.specs.Borrow.{Bor}
use Rattle.std.specs.List.{list_any}
use Rattle.std.specs.Ordering.{eq_by_cmp}
use Rattle.std.proofs.lemmas.Bool.{not-true, not-false}
use Rattle.std.specs.BTreeSet.{BTreeSet, Updates, IsEmpty, contains}
use Rattle.std.proofs.lemmas.List.{take_more, take_all, append_cancel_left, append-nil}
use Rattle.std.proofs.lemmas.List.Folds.{list_any-append}
use Rattle.std.proofs.lemmas.Map.Text.{is_eq-slice_cmp}
use Rattle.std.proofs.lemmas.Slice.Eq.{bytes_eq-Decides}
use Rattle.ja_base.specs.ClauseSets.{has_clause, fresh, joined}
use Rattle.inv_cert.specs.Known.{Knows, clause_cmp}
use Rattle.ja_base.proofs.JoinLemmas.{with_clause, joined_is_fresh}

pub Knows-none : (set : BTreeSet (Bor (List ℕ))) → IsEmpty set → Knows [] set
Knows-none set empty clause = ap (list_any (λ k. eq_by_cmp clause_cmp clause k)) empty

has_clause-push : (clauses : List (List ℕ)) (c q : List ℕ)
    → has_clause (clauses ++ c ∷ []) q ≡ cond (bytes_eq c q) true (has_clause clauses q)
has_clause-push clauses c q = list_any-append (λ k. bytes_eq k q) clauses (c ∷ []) ∙ by_test (has_clause clauses q) (bytes_eq c q)
  where
    by_test : (a b : Bool) → (a || (b || false)) ≡ cond b true a
    by_test true true = refl
    by_test true false = refl
    by_test false true = refl
    by_test false false = refl

-- a clause is put to both
pub Knows-push : (clauses : List (List ℕ)) (old new : BTreeSet (Bor (List ℕ))) (c : Bor (List ℕ)) → Knows clauses old
    → Updates clause_cmp old new c true → Knows (clauses ++ c.now ∷ []) new
Knows-push clauses old new c knows updates q =
    updates.0 q ∙ ap (λ b. cond b true (contains clause_cmp old q)) (is_eq-slice_cmp c.now q.now)
    ∙ ap (cond (bytes_eq c.now q.now) true) (knows q) ∙ sym (has_clause-push clauses c.now q.now)

-- a clause that both have already is put to the set
pub Knows-again : (clauses : List (List ℕ)) (old new : BTreeSet (Bor (List ℕ))) (c : Bor (List ℕ)) → Knows clauses old
    → Updates clause_cmp old new c true → has_clause clauses c.now ≡ true → Knows clauses new
Knows-again clauses old new c knows updates there q =
    updates.0 q ∙ ap (λ b. cond b true (contains clause_cmp old q)) (is_eq-slice_cmp c.now q.now)
    ∙ ap (cond (bytes_eq c.now q.now) true) (knows q) ∙ by_test (bytes_eq c.now q.now) refl
  where
    by_test : (b : Bool) → b ≡ bytes_eq c.now q.now → cond b true (has_clause clauses q.now) ≡ has_clause clauses q.now
    by_test true e = sym (ap (has_clause clauses) (sym ((bytes_eq-Decides c.now q.now).0 (sym e))) ∙ there)
    by_test false e = refl

-- ---- the list, one clause further

joined-push : (a b : List (List ℕ)) (c : List ℕ) → joined a (b ++ c ∷ []) ≡ with_clause (joined a b) c
joined-push a [] c = refl
joined-push a (x ∷ xs) c = joined-push (with_clause a x) xs c

-- a clause of a list as a loop reads it: at this place, through this reference
pub record IsRead (clauses : List (List ℕ)) (at : ℕ) (c : Bor (List ℕ)) (clause : List ℕ) : Type 0 where
  pub within : at < length clauses
  pub is : clause ≡ get_or clauses at clause
  pub through : c.now ≡ clause

pub IsRead-same : (items clauses : List (List ℕ)) (at : ℕ) (c : Bor (List ℕ)) (clause : List ℕ) → items ≡ clauses
    → at < length items → clause ≡ get_or items at clause → c.now ≡ clause → IsRead clauses at c clause
IsRead-same items clauses at c clause same within is through =
    subst (λ list. IsRead list at c clause) same (record { within = within; is = is; through = through })

first_read : (clauses : List (List ℕ)) (at : ℕ) (c : Bor (List ℕ)) (clause : List ℕ) → IsRead clauses at c clause
    → take (at + 1) clauses ≡ take at clauses ++ c.now ∷ []
first_read clauses at c clause r =
    take_more clauses at clause r.within ∙ ap (λ x. take at clauses ++ x ∷ []) (sym r.is ∙ sym r.through)

pub Knows-more : (clauses : List (List ℕ)) (at : ℕ) (old new : BTreeSet (Bor (List ℕ))) (c : Bor (List ℕ)) (clause : List ℕ)
    → IsRead clauses at c clause → Knows (take at clauses) old → Updates clause_cmp old new c true
    → Knows (take (at + 1) clauses) new
Knows-more clauses at old new c clause r knows updates =
    subst (λ list. Knows list new) (sym (first_read clauses at c clause r)) (Knows-push (take at clauses) old new c knows updates)

-- the first clauses of the second list are joined to the first, and the set has what came of it
pub record IsJoinedTo (first second : List (List ℕ)) (at : ℕ) (both : List (List ℕ))
    (set : BTreeSet (Bor (List ℕ))) : Type 0 where
  pub is : both ≡ joined first (take at second)
  pub known : Knows both set

module _ (first second : List (List ℕ)) (at : ℕ) (both : List (List ℕ)) (old new : BTreeSet (Bor (List ℕ)))
    (c : Bor (List ℕ)) (clause : List ℕ) (r : IsRead second at c clause) (h : IsJoinedTo first second at both old)
    (updates : Updates clause_cmp old new c true) (added : Bool) (is_new : added ≡ not (contains clause_cmp old c)) where
  with_read : with_clause both c.now ≡ joined first (take (at + 1) second)
  with_read =
      ap (λ list. with_clause list c.now) h.is ∙ sym (joined-push first (take at second) c.now)
      ∙ ap (joined first) (sym (first_read second at c clause r))

  pub IsJoinedTo-new : added ≡ true → IsJoinedTo first second (at + 1) (both ++ c.now ∷ []) new
  IsJoinedTo-new fresh =
      let unknown : has_clause both c.now ≡ false = sym (h.known c) ∙ not-true (contains clause_cmp old c) (sym is_new ∙ fresh) in
      record {
        is = sym (ap (λ b. cond b both (both ++ c.now ∷ [])) unknown) ∙ with_read;
        known = Knows-push both old new c h.known updates;
      }

  pub IsJoinedTo-again : added ≡ false → IsJoinedTo first second (at + 1) both new
  IsJoinedTo-again again =
      let there : has_clause both c.now ≡ true = sym (h.known c) ∙ not-false (contains clause_cmp old c) (sym is_new ∙ again) in
      record {
        is = sym (ap (λ b. cond b both (both ++ c.now ∷ [])) there) ∙ with_read;
        known = Knows-again both old new c h.known updates there;
      }

pub IsJoinedTo-none : (first second added : List (List ℕ)) (set : BTreeSet (Bor (List ℕ))) → added ≡ [] → Knows first set
    → IsJoinedTo first second 0 (first ++ added) set
IsJoinedTo-none first second added set none knows =
    let same : first ++ added ≡ first = ap (λ list. first ++ list) none ∙ append-nil first in
    record { is = same; known = subst (λ list. Knows list set) (sym same) knows }

-- the clauses that came to the first list are the fresh ones
pub fresh_at_end : (first second added : List (List ℕ)) (at : ℕ) (set : BTreeSet (Bor (List ℕ))) → length second ≤ at
    → IsJoinedTo first second at (first ++ added) set → added ≡ fresh first second
fresh_at_end first second added at set end h =
    append_cancel_left first added (fresh first second)
    (h.is ∙ ap (joined first) (take_all at second end) ∙ joined_is_fresh first second)
