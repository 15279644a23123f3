-- Two lists of clauses that became one: it has the clauses of both, and is the first with the fresh ones of the second behind it.
use Rattle.std.proofs.Common.{◌≡◌, ◌≢◌, ℕ, Bool, true, false, cond, List, [], ◌∷◌, ◌++◌, get_or, refl, sym, ◌∙◌, ap, subst}
use Rattle.std.specs.Prelude.{All, Contains, bytes_eq}
use Rattle.std.specs.Bool.{Decides}
use Rattle.std.specs.List.{list_any}
use Rattle.std.proofs.lemmas.Bool.{both_ways}
use Rattle.std.proofs.lemmas.Bool.Decides.{Decides-by_or}
use Rattle.std.proofs.lemmas.List.{append-nil, append_assoc}
use Rattle.std.proofs.lemmas.List.Elements.{All-nil, All-cons, All-head, All-tail, All-append, All-push, Contains-get_or, Contains-push, Contains-append_left, Contains-append_right, Decides-contains}
use Rattle.std.proofs.lemmas.List.Quantifiers.{all_pairs_push}
use Rattle.std.proofs.lemmas.Slice.Eq.{bytes_eq-Decides}
use Rattle.ja_base.specs.ClauseSets.{AreDistinct, has_clause, joined, fresh}

pub has_clause_decides : (clauses : List (List ℕ)) (clause : List ℕ)
    → Decides (has_clause clauses clause) (Contains clauses clause)
has_clause_decides clauses clause =
    Decides-contains clauses clause (has_clause clauses clause)
    (Decides-by_or (λ c. bytes_eq c clause) (λ c. c ≡ clause) (list_any (λ c. bytes_eq c clause)) (λ c. bytes_eq-Decides c clause)
    refl (λ _ _. refl) clauses)

-- what a list has once a clause is put to it that it may have already
abbrev pub with_clause : List (List ℕ) → List ℕ → List (List ℕ)
with_clause clauses c = cond (has_clause clauses c) clauses (clauses ++ c ∷ [])

kept_with : (b : Bool) (clauses : List (List ℕ)) (c x : List ℕ) → Contains clauses x
    → Contains (cond b clauses (clauses ++ c ∷ [])) x
kept_with true clauses c x h = h
kept_with false clauses c x h = Contains-append_left clauses (c ∷ []) x h

there_with : (b : Bool) (clauses : List (List ℕ)) (c : List ℕ) → (b ≡ true → Contains clauses c)
    → Contains (cond b clauses (clauses ++ c ∷ [])) c
there_with true clauses c h = h refl
there_with false clauses c h = Contains-push clauses c

pub kept_by_joined : (a b : List (List ℕ)) (x : List ℕ) → Contains a x → Contains (joined a b) x
kept_by_joined a [] x h = h
kept_by_joined a (c ∷ cs) x h = kept_by_joined (with_clause a c) cs x (kept_with (has_clause a c) a c x h)

pub joined_has_first : (a b : List (List ℕ)) → All (Contains (joined a b)) a
joined_has_first a b k d h = kept_by_joined a b (get_or a k d) (Contains-get_or a k d h)

pub joined_has_second : (a b : List (List ℕ)) → All (Contains (joined a b)) b
joined_has_second a [] = All-nil (Contains a)
joined_has_second a (c ∷ cs) =
    All-cons (Contains (joined (with_clause a c) cs)) c cs
    (kept_by_joined (with_clause a c) cs c (there_with (has_clause a c) a c (has_clause_decides a c).0))
    (joined_has_second (with_clause a c) cs)

pub joined_has_both : (a b : List (List ℕ)) → All (Contains (joined a b)) (a ++ b)
joined_has_both a b = All-append (Contains (joined a b)) a b (joined_has_first a b) (joined_has_second a b)

all_with : (P : List ℕ → Type 0) (b : Bool) (clauses : List (List ℕ)) (c : List ℕ) → All P clauses → P c
    → All P (cond b clauses (clauses ++ c ∷ []))
all_with P true clauses c all here = all
all_with P false clauses c all here = All-push P clauses c all here

-- what holds of each clause of both
pub All-joined : (P : List ℕ → Type 0) (a b : List (List ℕ)) → All P a → All P b → All P (joined a b)
All-joined P a [] all_a all_b = all_a
All-joined P a (c ∷ cs) all_a all_b =
    All-joined P (with_clause a c) cs (all_with P (has_clause a c) a c all_a (All-head P c cs all_b)) (All-tail P c cs all_b)

pub first_is_part : {X : Type 0} (a b : List X) → All (Contains (a ++ b)) a
first_is_part a b k d h = Contains-append_left a b (get_or a k d) (Contains-get_or a k d h)

pub second_is_part : {X : Type 0} (a b : List X) → All (Contains (a ++ b)) b
second_is_part a b k d h = Contains-append_right a b (get_or b k d) (Contains-get_or b k d h)

pub joined_has_no_other : (a b : List (List ℕ)) → All (Contains (a ++ b)) (joined a b)
joined_has_no_other a b = All-joined (Contains (a ++ b)) a b (first_is_part a b) (second_is_part a b)

distinct_with : (b : Bool) (clauses : List (List ℕ)) (c : List ℕ) → b ≡ has_clause clauses c → AreDistinct clauses
    → AreDistinct (cond b clauses (clauses ++ c ∷ []))
distinct_with true clauses c e distinct = distinct
distinct_with false clauses c e distinct =
    all_pairs_push (λ x y. x ≢ y) clauses c distinct (λ k d h same.
    both_ways (has_clause clauses c) (sym e)
    ((has_clause_decides clauses c).1 (subst (Contains clauses) same (Contains-get_or clauses k d h))))

pub AreDistinct-joined : (a b : List (List ℕ)) → AreDistinct a → AreDistinct (joined a b)
AreDistinct-joined a [] distinct = distinct
AreDistinct-joined a (c ∷ cs) distinct =
    AreDistinct-joined (with_clause a c) cs (distinct_with (has_clause a c) a c refl distinct)

-- ---- the fresh clauses

joined_by : (b : Bool) (a : List (List ℕ)) (c : List ℕ) (cs : List (List ℕ)) → joined a cs ≡ a ++ fresh a cs
    → joined (a ++ c ∷ []) cs ≡ a ++ c ∷ [] ++ fresh (a ++ c ∷ []) cs
    → joined (cond b a (a ++ c ∷ [])) cs ≡ a ++ cond b (fresh a cs) (c ∷ fresh (a ++ c ∷ []) cs)
joined_by true a c cs had new = had
joined_by false a c cs had new = new ∙ append_assoc a (c ∷ []) (fresh (a ++ c ∷ []) cs)

pub joined_is_fresh : (a b : List (List ℕ)) → joined a b ≡ a ++ fresh a b
joined_is_fresh a [] = sym (append-nil a)
joined_is_fresh a (c ∷ cs) = joined_by (has_clause a c) a c cs (joined_is_fresh a cs) (joined_is_fresh (a ++ c ∷ []) cs)

fresh_by : (b : Bool) (a : List (List ℕ)) (c : List ℕ) (cs : List (List ℕ)) → has_clause a c ≡ b
    → fresh a (fresh a cs) ≡ fresh a cs
    → fresh (a ++ c ∷ []) (fresh (a ++ c ∷ []) cs) ≡ fresh (a ++ c ∷ []) cs
    → fresh a (cond b (fresh a cs) (c ∷ fresh (a ++ c ∷ []) cs)) ≡ cond b (fresh a cs) (c ∷ fresh (a ++ c ∷ []) cs)
fresh_by true a c cs e had new = had
fresh_by false a c cs e had new =
    ap (λ b. cond b (fresh a (fresh (a ++ c ∷ []) cs)) (c ∷ fresh (a ++ c ∷ []) (fresh (a ++ c ∷ []) cs))) e
    ∙ ap (λ (new : List (List ℕ)). c ∷ new) new

-- of clauses that are all fresh all are fresh
pub fresh_again : (a b : List (List ℕ)) → fresh a (fresh a b) ≡ fresh a b
fresh_again a [] = refl
fresh_again a (c ∷ cs) = fresh_by (has_clause a c) a c cs refl (fresh_again a cs) (fresh_again (a ++ c ∷ []) cs)
