-- Numbered clauses as they come and go.
use Rattle.std.proofs.Common.{◌≡◌, ℕ, ◌+◌, ◌-◌, ◌<◌, ◌≤◌, ◌&&◌, Bool, true, false, not, cond, nat_lt, List, [], ◌∷◌, ◌++◌, length, get_or, take, drop, Some, None, Result, Ok, Err, OnOk, OnErr, refl, sym, subst, ◌∙◌, ap, arith, take-append-drop}
use Rattle.std.specs.List.{All, list_all}
use Rattle.std.proofs.Math.Seq.{get_or-append_seam}
use Rattle.std.proofs.lemmas.Bool.Decides.{Decides-ltb, Decides-by_and}
use Rattle.std.proofs.lemmas.List.{get_or_append_left, map-append, length-append, length-take, take_at}
use Rattle.std.proofs.lemmas.List.Elements.{All-head, All-tail, All-push, All-take, All-weaker, All-same}
use Rattle.ja_base.specs.Literals.{variable, value, SatisfiedBy, AllSatisfiedBy}
use Rattle.ja_base.specs.Clauses.{IsBelow}
use Rattle.refute_check.specs.Refuted.{has_both_signs}
use Rattle.refute_check.specs.Lines.{is_fit, outcome, assumed, unknown, refusal}
use Rattle.refute_check.specs.Checked.{Numbering, Adds, Follows, clauses_at}
use Rattle.refute_check.proofs.Sound.{accepted_follows}

-- the clauses at places of the front do not change with what comes after
pub clauses_at_more : (xs ys : List (List ℕ)) (places : List ℕ) → All (λ k. k < length xs) places
    → clauses_at (xs ++ ys) places ≡ clauses_at xs places
clauses_at_more xs ys [] h = refl
clauses_at_more xs ys (k ∷ ks) h =
    let here : get_or (xs ++ ys) k [] ≡ get_or xs k [] =
    get_or_append_left xs ys [] k (All-head (λ n. n < length xs) k ks h) in
    ap (λ c. c ∷ clauses_at (xs ++ ys) ks) here
    ∙ ap (λ cs. get_or xs k [] ∷ cs) (clauses_at_more xs ys ks (All-tail (λ n. n < length xs) k ks h))

pub clauses_at_take : (xs : List (List ℕ)) (n : ℕ) (places : List ℕ) → n ≤ length xs → All (λ k. k < n) places
    → clauses_at (take n xs) places ≡ clauses_at xs places
clauses_at_take xs n places fits h =
    let width : length (take n xs) ≡ n = omega (arith, length-take n xs) in
    let below : All (λ k. k < length (take n xs)) places =
    All-weaker (λ k. k < n) (λ k. k < length (take n xs)) (λ k less. omega arith) places h in
    sym (clauses_at_more (take n xs) (drop n xs) places below)
    ∙ ap (λ v. clauses_at v places) (take-append-drop n xs)

pub clauses_at_push : (xs : List (List ℕ)) (c : List ℕ) (places : List ℕ) → All (λ k. k < length xs) places
    → clauses_at (xs ++ c ∷ []) (places ++ length xs ∷ []) ≡ clauses_at xs places ++ c ∷ []
clauses_at_push xs c places h =
    map-append (λ k. get_or (xs ++ c ∷ []) k []) places (length xs ∷ [])
    ∙ ap (λ v. v ++ get_or (xs ++ c ∷ []) (length xs) [] ∷ []) (clauses_at_more xs (c ∷ []) places h)
    ∙ ap (λ v. clauses_at xs places ++ v ∷ []) (get_or-append_seam xs c [] [])

pub fit_below : (vars : ℕ) (clause : List ℕ) → is_fit vars clause ≡ true → IsBelow vars clause
fit_below vars clause e =
    (Decides-by_and (λ l. nat_lt (variable l) vars) (λ l. variable l < vars) (list_all (λ l. nat_lt (variable l) vars))
    (λ l. Decides-ltb (variable l) vars) refl (λ _ _. refl) clause).0
    (left (list_all (λ l. nat_lt (variable l) vars) clause) (not (has_both_signs clause)) e)
  where
    left : (a b : Bool) → (a && b) ≡ true → a ≡ true
    left true b e = refl
    left false b e = e

pub accepted_below : (vars : ℕ) (clauses : List (List ℕ)) (clause hints : List ℕ)
    → refusal vars clauses clause hints ≡ None → IsBelow vars clause
accepted_below vars clauses clause hints e = fit_below vars clause (go (is_fit vars clause) e)
  where
    go : (b : Bool) → cond b (outcome clauses hints (assumed clause (unknown vars)) 0).1 (Some 0) ≡ None → b ≡ true
    go true e = refl
    go false e = cc

-- what a checker keeps of its list
pub record IsKept (vars : ℕ) (clauses : Numbering) : Type 0 where
  pub below : All (IsBelow vars) clauses.list
  pub follow : Follows clauses.added clauses.list

pub kept_by_line : (vars : ℕ) (before after : Numbering) (clause hints : List ℕ)
    → after ≡ record before { list = before.list ++ clause ∷ []; spare = before.spare - 1 }
    → refusal vars before.list clause hints ≡ None → IsKept vars before → IsKept vars after
kept_by_line vars before after clause hints e accepted h =
    let P : Numbering → Type 0 = IsKept vars in
    subst P (sym e) (record {
      below = All-push (IsBelow vars) before.list clause h.below (accepted_below vars before.list clause hints accepted);
      follow = λ v all.
          All-push (SatisfiedBy (value v)) before.list clause (h.follow v all)
          (accepted_follows vars before.list clause hints accepted v (h.follow v all));
    })

pub kept_by_cut : (vars : ℕ) (before after : Numbering)
    → after ≡ record before {
      list = take before.kept before.list;
      spare = before.spare + (length before.list - before.kept);
    }
    → IsKept vars before → IsKept vars after
kept_by_cut vars before after e h =
    let P : Numbering → Type 0 = IsKept vars in
    subst P (sym e) (record {
      below = All-take (IsBelow vars) before.kept before.list h.below;
      follow = λ v all. All-take (SatisfiedBy (value v)) before.kept before.list (h.follow v all);
    })

All-front : {X : Type 0} (P : X → Type 0) (xs ys : List X) → All P (xs ++ ys) → All P xs
All-front P xs ys h =
    All-same P xs (take (length xs) (xs ++ ys)) (sym (take_at xs ys (length xs) refl))
    (All-take P (length xs) (xs ++ ys) h)

All-last : {X : Type 0} (P : X → Type 0) (xs : List X) (y : X) → All P (xs ++ y ∷ []) → P y
All-last P xs y h =
    let less : length xs < length (xs ++ y ∷ []) = omega (arith, length-append xs (y ∷ [])) in
    subst P (get_or-append_seam xs y [] y) (h (length xs) y less)

pub kept_by_add : (vars : ℕ) (before after : Numbering) (clause : List ℕ) → Adds before clause after
    → IsBelow vars clause → IsKept vars before → IsKept vars after
kept_by_add vars before after clause adds small h = record {
  below = All-same (IsBelow vars) after.list (before.list ++ clause ∷ []) adds.list
      (All-push (IsBelow vars) before.list clause h.below small);
  follow = λ v all.
      let both : AllSatisfiedBy (value v) (before.added ++ clause ∷ []) =
      All-same (SatisfiedBy (value v)) (before.added ++ clause ∷ []) after.added (sym adds.added) all in
      All-same (SatisfiedBy (value v)) after.list (before.list ++ clause ∷ []) adds.list
      (All-push (SatisfiedBy (value v)) before.list clause
      (h.follow v (All-front (SatisfiedBy (value v)) before.added (clause ∷ []) both))
      (All-last (SatisfiedBy (value v)) before.added clause both));
}

-- the same for a call that may find no memory
pub kept_by_try : {E : Type 0} (r : Result ℕ E) (vars : ℕ) (before after : Numbering) (clause : List ℕ)
    → OnOk r (Adds before clause after) → OnErr r (after ≡ before) → IsBelow vars clause → IsKept vars before
    → IsKept vars after
kept_by_try (Ok n) vars before after clause ok err small h = kept_by_add vars before after clause ok small h
kept_by_try (Err e) vars before after clause ok err small h =
    let P : Numbering → Type 0 = IsKept vars in subst P (sym err) h

pub same_numbering : (l m ad ae : List (List ℕ)) (s t k n : ℕ) → l ≡ m → s ≡ t → ad ≡ ae → k ≡ n
    → let a : Numbering = record { list = l; spare = s; added = ad; kept = k } in
    let b : Numbering = record { list = m; spare = t; added = ae; kept = n } in a ≡ b
same_numbering l m ad ae s t k n e f g h = cc
