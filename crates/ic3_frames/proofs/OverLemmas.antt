-- Each clause over some variables has the literals of one of the listed clauses.
use Rattle.std.proofs.Common.{◌≡◌, ℕ, suc, zero, eqb, ◌&&◌, Bool, true, false, cond, List, [], ◌∷◌, ◌++◌, get_or, map, ◌⊎◌, inl, inr, ⊎_elim, refl, sym, ap, ◌∙◌, subst, arith}
use Rattle.std.specs.Prelude.{Contains}
use Rattle.std.proofs.lemmas.Bool.{or_left, or_right, eq-eqb, false_from_ne_true}
use Rattle.std.proofs.lemmas.Bool.Decides.{nat_tests}
use Rattle.std.proofs.lemmas.List.{length-map, get_or-map}
use Rattle.std.proofs.lemmas.List.Elements.{Contains-append_left, Contains-append_right, Contains-get_or}
use Rattle.ja_base.specs.Literals.{variable, is_negated, negated, literal_of}
use Rattle.ja_base.specs.Clauses.{is_part, has_literal}
use Rattle.ja_base.proofs.ClauseLemmas.{is_part_decides, has_literal_decides}
use Rattle.ic3_frames.specs.Sums.{IsOver, clauses_over}

-- the listed clause with the literals of this one
abbrev pub listed : List ℕ → List ℕ → List ℕ
listed [] clause = []
listed (v ∷ vs) clause =
    cond (has_literal clause (literal_of v false)) (literal_of v false ∷ listed vs clause)
    (cond (has_literal clause (literal_of v true)) (literal_of v true ∷ listed vs clause) (listed vs clause))

mapped : (f : List ℕ → List ℕ) (xs : List (List ℕ)) (x : List ℕ) → Contains xs x → Contains (map f xs) (f x)
mapped f xs x h = (h.0, omega (arith, h.1, length-map xs f), get_or-map f xs h.0 x (f x) h.1 ∙ ap f h.2)

pub listed_is_one : (vars clause : List ℕ) → Contains (clauses_over vars) (listed vars clause)
listed_is_one [] clause = (0, omega arith, refl)
listed_is_one (v ∷ vs) clause =
    by_test (has_literal clause (literal_of v false)) (has_literal clause (literal_of v true)) (listed_is_one vs clause)
  where
    by_test : (a b : Bool) → Contains (clauses_over vs) (listed vs clause)
        → Contains (clauses_over (v ∷ vs))
        (cond a (literal_of v false ∷ listed vs clause) (cond b (literal_of v true ∷ listed vs clause) (listed vs clause)))
    by_test true b h =
        let all = clauses_over vs in
        let pos = map (λ (c : List ℕ). literal_of v false ∷ c) all in
        let neg = map (λ (c : List ℕ). literal_of v true ∷ c) all in
        let x : List ℕ = literal_of v false ∷ listed vs clause in
        Contains-append_left (all ++ pos) neg x
        (Contains-append_right all pos x (mapped (λ (c : List ℕ). literal_of v false ∷ c) all (listed vs clause) h))
    by_test false true h =
        let all = clauses_over vs in
        let pos = map (λ (c : List ℕ). literal_of v false ∷ c) all in
        let neg = map (λ (c : List ℕ). literal_of v true ∷ c) all in
        Contains-append_right (all ++ pos) neg (literal_of v true ∷ listed vs clause)
        (mapped (λ (c : List ℕ). literal_of v true ∷ c) all (listed vs clause) h)
    by_test false false h =
        let all = clauses_over vs in
        let pos = map (λ (c : List ℕ). literal_of v false ∷ c) all in
        let neg = map (λ (c : List ℕ). literal_of v true ∷ c) all in
        Contains-append_left (all ++ pos) neg (listed vs clause) (Contains-append_left all pos (listed vs clause) h)

and_both : (a b : Bool) → a ≡ true → b ≡ true → (a && b) ≡ true
and_both true b e f = f
and_both false b e f = e

pub listed_is_part : (vars clause : List ℕ) → is_part (listed vars clause) clause ≡ true
listed_is_part [] clause = refl
listed_is_part (v ∷ vs) clause =
    by_test (has_literal clause (literal_of v false)) refl (has_literal clause (literal_of v true)) refl (listed_is_part vs clause)
  where
    by_test : (a : Bool) → has_literal clause (literal_of v false) ≡ a → (b : Bool) → has_literal clause (literal_of v true) ≡ b
        → is_part (listed vs clause) clause ≡ true
        → is_part (cond a (literal_of v false ∷ listed vs clause) (cond b (literal_of v true ∷ listed vs clause) (listed vs clause))) clause ≡ true
    by_test true e b f h = and_both (has_literal clause (literal_of v false)) (is_part (listed vs clause) clause) e h
    by_test false e true f h = and_both (has_literal clause (literal_of v true)) (is_part (listed vs clause) clause) f h
    by_test false e false f h = h

even_is : (l v : ℕ) → is_negated l ≡ false → variable l ≡ v → l ≡ literal_of v false
even_is l v even var = grind (arith, nat_tests)

odd_is : (l v : ℕ) → is_negated l ≡ true → variable l ≡ v → l ≡ literal_of v true
odd_is l v odd var = grind (arith, nat_tests)

other_is : (l v : ℕ) → is_negated l ≡ true → variable l ≡ v → negated l ≡ literal_of v false
other_is l v odd var = grind (arith, nat_tests)

first_or_later : (x y : ℕ) (xs : List ℕ) → Contains (x ∷ xs) y → (x ≡ y) ⊎ Contains xs y
first_or_later x y xs (zero, below, is) = inl is
first_or_later x y xs (suc k, below, is) = inr (k, omega (arith, below), is)

module _ (clause : List ℕ) (l : ℕ) (here : has_literal clause l ≡ true) (lone : has_literal clause (negated l) ≡ false) where
  -- at the literal's own variable
  at_own : (v : ℕ) (rest : List ℕ) → variable l ≡ v → (n : Bool) → is_negated l ≡ n
      → has_literal (cond (has_literal clause (literal_of v false)) (literal_of v false ∷ rest)
      (cond (has_literal clause (literal_of v true)) (literal_of v true ∷ rest) rest)) l ≡ true
  at_own v rest var false e =
      let is = even_is l v e var in
      subst (λ b. has_literal (cond b (literal_of v false ∷ rest)
      (cond (has_literal clause (literal_of v true)) (literal_of v true ∷ rest) rest)) l ≡ true)
      (sym (ap (has_literal clause) (sym is) ∙ here))
      (or_left (eqb (literal_of v false) l) (has_literal rest l) (eq-eqb (literal_of v false) l (sym is)))
  at_own v rest var true e =
      let is = odd_is l v e var in
      let other = other_is l v e var in
      subst (λ b. has_literal (cond b (literal_of v false ∷ rest)
      (cond (has_literal clause (literal_of v true)) (literal_of v true ∷ rest) rest)) l ≡ true)
      (sym (ap (has_literal clause) (sym other) ∙ lone))
      (subst (λ b. has_literal (cond b (literal_of v true ∷ rest) rest) l ≡ true) (sym (ap (has_literal clause) (sym is) ∙ here))
      (or_left (eqb (literal_of v true) l) (has_literal rest l) (eq-eqb (literal_of v true) l (sym is))))

  behind : (v : ℕ) (rest : List ℕ) → has_literal rest l ≡ true → (a b : Bool)
      → has_literal (cond a (literal_of v false ∷ rest) (cond b (literal_of v true ∷ rest) rest)) l ≡ true
  behind v rest h true b = or_right (eqb (literal_of v false) l) (has_literal rest l) h
  behind v rest h false true = or_right (eqb (literal_of v true) l) (has_literal rest l) h
  behind v rest h false false = h

  has_listed : (vs : List ℕ) → Contains vs (variable l) → has_literal (listed vs clause) l ≡ true
  has_listed [] among = absurd (omega (arith, among.1))
  has_listed (v ∷ vs) among =
      ⊎_elim (λ own. at_own v (listed vs clause) (sym own) (is_negated l) refl)
      (λ later. behind v (listed vs clause) (has_listed vs later) (has_literal clause (literal_of v false)) (has_literal clause (literal_of v true)))
      (first_or_later v (variable l) vs among)

pub part_of_listed : (vars clause : List ℕ) → IsOver vars clause → is_part clause (listed vars clause) ≡ true
part_of_listed vars clause over =
    (is_part_decides clause (listed vars clause)).1 (λ k d within.
    let l : ℕ = get_or clause k d in
    let there : Contains clause l = Contains-get_or clause k d within in
    let lone = false_from_ne_true (has_literal clause (negated l)) (λ t. over.one_sign l there ((has_literal_decides clause (negated l)).0 t)) in
    (has_literal_decides (listed vars clause) l).0
    (has_listed clause l ((has_literal_decides clause l).1 there) lone vars (over.among l there)))
