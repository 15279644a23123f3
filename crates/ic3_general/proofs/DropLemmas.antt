-- Literals are dropped one by one: what stays right, and what holds at the end.
use Rattle.std.proofs.Common.{◌≡◌, ℕ, suc, zero, ◌+◌, ◌*◌, ◌<◌, ◌==◌, ◌||◌, Bool, true, false, not, cond, List, [], ◌∷◌, ◌++◌, length, set, refl, sym, ap, ◌∙◌, subst, arith, length-set, get_or-set_other, get_or-set_same, append_assoc, ⊎_elim, ◌⊎◌, inl, inr}
use Rattle.std.specs.Prelude.{Contains, filter}
use Rattle.std.specs.List.{list_all}
use Rattle.std.specs.List.Sorted.{IsStrictlyIncreasing}
use Rattle.std.proofs.lemmas.Bool.{false≢true, cases_Bool, eqb-true, eqb-false, eq-eqb, or_parts, or_from}
use Rattle.std.proofs.lemmas.List.Elements.{Contains-append_left, Contains-append_right, Contains-append_cases, Contains-push_cases}
use Rattle.std.proofs.lemmas.List.Folds.{list_any-append}
use Rattle.ja_base.specs.Literals.{bit, variable, negated}
use Rattle.ja_base.specs.Clauses.{IsSetOf, has_literal}
use Rattle.ja_base.specs.Circuit.{Circuit, IsAcyclic}
use Rattle.ja_base.specs.Invariants.{latch_value}
use Rattle.ja_base.specs.Valuation.{IsValuation, latch_row, input_row}
use Rattle.ja_base.proofs.ClauseLemmas.{Ascends, Ascends-from_increasing, absent_from_above}
use Rattle.ja_base.proofs.LiteralLemmas.{variable_negated, negated_twice}
use Rattle.ja_project.specs.Latches.{is_over_latch}
use Rattle.ic3_general.specs.Cubes.{IsOutside}
use Rattle.ic3_general.specs.Lifting.{without, HasLeaves, IsSureRow, MakesSure, IsLeast}
use Rattle.ic3_general.specs.Dropping.{IsNeeded, HasNoneTwice, IsLifting, Stands, IsDropped, IsKept}
use Rattle.ic3_general.proofs.CubeLemmas.{none_pass, passes_none}
use Rattle.ic3_general.proofs.SureLemmas.{makes_sure, part_leaves_unsure, over_negated}

-- ---- members of lists

pub first_or_later : (x l : ℕ) (xs : List ℕ) → Contains (x ∷ xs) l → (x ≡ l) ⊎ Contains xs l
first_or_later x l xs (zero, within, is) = inl is
first_or_later x l xs (suc k, within, is) = inr (k, omega (arith, within), is)

pub later : (x l : ℕ) (xs : List ℕ) → Contains xs l → Contains (x ∷ xs) l
later x l xs h = (suc h.0, omega (arith, h.1), h.2)

-- what stands in the rest stands in the whole
pub in_whole : (before after : List ℕ) (l m : ℕ) → Contains (before ++ after) m → Contains (before ++ l ∷ after) m
in_whole before after l m h =
    ⊎_elim (λ a. Contains-append_left before (l ∷ after) m a)
    (λ b. Contains-append_right before (l ∷ after) m (later l m after b)) (Contains-append_cases before after m h)

-- what stands in the whole and is another literal stands in the rest
pub in_rest : (before after : List ℕ) (l m : ℕ) → (l ≡ m → ⊥) → Contains (before ++ l ∷ after) m → Contains (before ++ after) m
in_rest before after l m other h =
    ⊎_elim (λ a. Contains-append_left before after m a)
    (λ b. ⊎_elim (λ same. absurd (other same)) (λ c. Contains-append_right before after m c) (first_or_later l m after b))
    (Contains-append_cases before (l ∷ after) m h)

pub in_filter : (p : ℕ → Bool) (xs : List ℕ) (m : ℕ) → Contains (filter p xs) m → Contains xs m × (p m ≡ true)
in_filter p [] m h = absurd (omega (arith, h.1))
in_filter p (x ∷ xs) m h = by_test (p x) refl (in_filter p xs m) h
  where
    by_test : (b : Bool) → p x ≡ b → (Contains (filter p xs) m → Contains xs m × (p m ≡ true))
        → Contains (cond b (x ∷ filter p xs) (filter p xs)) m → Contains (x ∷ xs) m × (p m ≡ true)
    by_test true e rest h =
        ⊎_elim (λ same. ((0, omega arith, same), subst (λ y. p y ≡ true) same e))
        (λ k. let r = rest k in (later x m xs r.0, r.1)) (first_or_later x m (filter p xs) h)
    by_test false e rest h = let r = rest h in (later x m xs r.0, r.1)

-- ---- no literal stands twice

pub none_twice_from_ascending : (xs : List ℕ) → IsStrictlyIncreasing xs → HasNoneTwice xs
none_twice_from_ascending xs up = from_ascends xs (Ascends-from_increasing xs up)
  where
    from_ascends : (ys : List ℕ) → Ascends ys → HasNoneTwice ys
    from_ascends [] h = tt
    from_ascends (y ∷ ys) h = (absent_from_above y ys h.0, from_ascends ys h.1)

has_split : (before after : List ℕ) (l m : ℕ)
    → has_literal (before ++ l ∷ after) m ≡ (has_literal before m || ((l == m) || has_literal after m))
has_split before after l m = list_any-append (λ x. x == m) before (l ∷ after)

has_joined : (before after : List ℕ) (m : ℕ)
    → has_literal (before ++ after) m ≡ (has_literal before m || has_literal after m)
has_joined before after m = list_any-append (λ x. x == m) before after

pub stands_once : (before after : List ℕ) (l : ℕ) → HasNoneTwice (before ++ l ∷ after) → has_literal (before ++ after) l ≡ false
stands_once [] after l h = h.0
stands_once (x ∷ before) after l h =
    let parts = or_parts (has_literal before x) ((l == x) || has_literal after x) (sym (has_split before after l x) ∙ h.0) in
    let apart = or_parts (l == x) (has_literal after x) parts.1 in
    or_from (x == l) (has_literal (before ++ after) l) (turned l x apart.0) (stands_once before after l h.1)
  where
    turned : (a b : ℕ) → (a == b) ≡ false → (b == a) ≡ false
    turned a b e = ⊎_elim (λ t. absurd (eqb-false a b e (sym (eqb-true b a t)))) (λ f. f) (cases_Bool (b == a))

pub none_twice_without : (before after : List ℕ) (l : ℕ) → HasNoneTwice (before ++ l ∷ after) → HasNoneTwice (before ++ after)
none_twice_without [] after l h = h.1
none_twice_without (x ∷ before) after l h =
    let parts = or_parts (has_literal before x) ((l == x) || has_literal after x) (sym (has_split before after l x) ∙ h.0) in
    let apart = or_parts (l == x) (has_literal after x) parts.1 in (
      has_joined before after x ∙ or_from (has_literal before x) (has_literal after x) parts.0 apart.1,
      none_twice_without before after l h.1,
    )

-- ---- the leaves

-- another literal is in the whole exactly where it is in the rest
has_other : (before after : List ℕ) (l m : ℕ) → (l == m) ≡ false
    → has_literal (before ++ l ∷ after) m ≡ has_literal (before ++ after) m
has_other before after l m e =
    has_split before after l m ∙ ap (λ (b : Bool). has_literal before m || (b || has_literal after m)) e
    ∙ sym (has_joined before after m)

has_this : (before after : List ℕ) (l m : ℕ) → (l == m) ≡ true → has_literal (before ++ l ∷ after) m ≡ true
has_this before after l m e =
    has_split before after l m ∙ ap (λ (b : Bool). has_literal before m || (b || has_literal after m)) e
    ∙ last (has_literal before m)
  where
    last : (b : Bool) → (b || true) ≡ true
    last true = refl
    last false = refl

-- what is over no latch is not the negation of a literal over one
other_leaf : (c : Circuit) (l m : ℕ) → is_over_latch c l ≡ true → is_over_latch c m ≡ false → negated l ≡ m → ⊥
other_leaf c l m over free same =
    false≢true (sym free ∙ ap (is_over_latch c) (sym same) ∙ over_negated c l ∙ over)

not_this : (l m : ℕ) → (l == negated m) ≡ false → negated l ≡ m → ⊥
not_this l m e same = eqb-false l (negated m) e (sym (negated_twice l) ∙ ap negated same)

this_one : (l m : ℕ) → (l == negated m) ≡ true → m ≡ negated l
this_one l m e = sym (negated_twice m) ∙ ap negated (sym (eqb-true l (negated m) e))

module _ (c : Circuit) (values : List Bool) (before after : List ℕ) (l : ℕ) (over : is_over_latch c l ≡ true)
    (once : has_literal (before ++ after) l ≡ false) (range : variable l < c.vars + 1) (row : List Bool) where
  fits : length row ≡ 2 * (c.vars + 1) → negated l < length row
  fits width = omega (arith, width, variable_negated l)

  pub leaves_dropped : HasLeaves c values (before ++ l ∷ after) row → HasLeaves c values (before ++ after) (set row (negated l) false)
  leaves_dropped leaves = record {
    width = length-set row (negated l) false ∙ leaves.width;
    latches = λ m at. ⊎_elim
        (λ this. let is = this_one l m this in
        ap (bit (set row (negated l) false)) is ∙ get_or-set_same row (negated l) false false (fits leaves.width)
        ∙ sym (ap (has_literal (before ++ after)) (sym (eqb-true l (negated m) this)) ∙ once))
        (λ other. get_or-set_other row (negated l) m false false (λ e. not_this l m other (sym e))
        ∙ leaves.latches m at ∙ has_other before after l (negated m) other)
        (cases_Bool (l == negated m));
    others = λ m within free no_gate.
        get_or-set_other row (negated l) m false false (λ e. other_leaf c l m over free (sym e))
        ∙ leaves.others m within free no_gate;
  }

  pub leaves_kept : HasLeaves c values (before ++ after) row → HasLeaves c values (before ++ l ∷ after) (set row (negated l) true)
  leaves_kept leaves = record {
    width = length-set row (negated l) true ∙ leaves.width;
    latches = λ m at. ⊎_elim
        (λ this. let is = this_one l m this in
        ap (bit (set row (negated l) true)) is ∙ get_or-set_same row (negated l) true false (fits leaves.width)
        ∙ sym (has_this before after l (negated m) this))
        (λ other. get_or-set_other row (negated l) m true false (λ e. not_this l m other (sym e))
        ∙ leaves.latches m at ∙ sym (has_other before after l (negated m) other))
        (cases_Bool (l == negated m));
    others = λ m within free no_gate.
        get_or-set_other row (negated l) m true false (λ e. other_leaf c l m over free (sym e))
        ∙ leaves.others m within free no_gate;
  }

-- ---- one literal is tried

-- a pass over the gates works out the bits of whatever clause the row has the leaves of
abbrev pub Settles : Circuit → List Bool → List Bool → Type 0
Settles c old new = (values : List Bool) (clause : List ℕ) → HasLeaves c values clause old → IsSureRow c values clause new

module _ (c : Circuit) (acyclic : IsAcyclic c) (target : List ℕ) (l : ℕ) (range : variable l < c.vars + 1)
    (old row : List Bool) (settles : Settles c (set old (negated l) false) row) where
  settled : (values : List Bool) (before after : List ℕ) → Stands c values before after l old
      → IsSureRow c values (before ++ after) row
  settled values before after stands =
      settles values (before ++ after) (leaves_dropped c values before after l stands.over stands.once range old stands.leaves)

  pub is_dropped : list_all (bit row) target ≡ true → IsDropped c target l old row
  is_dropped all values before after stands =
      let sure = settled values before after stands in
      (sure.leaves, makes_sure c values (before ++ after) target row acyclic stands.step sure all)

  pub is_kept : list_all (bit row) target ≡ false → IsKept c target l old (set row (negated l) true)
  is_kept fails values before after stands =
      let sure = settled values before after stands in (
        leaves_kept c values before after l stands.over stands.once range row sure.leaves,
        λ part less less_part less_row. part_leaves_unsure c values part (before ++ after) target less row acyclic less_row sure
            (λ m h. in_rest before after l m (λ e. less_part.lacks (subst (Contains part) (sym e) h)) (less_part.among m h))
            fails,
      )

-- ---- the state of the loop

module _ (c : Circuit) (values : List Bool) (target first kept rest : List ℕ) (l : ℕ) (old new : List Bool)
    (step : IsValuation c (latch_row c values) (input_row c values) values) (over : is_over_latch c l ≡ true)
    (state : IsLifting c values target first kept (l ∷ rest) old) where
  stands : Stands c values kept rest l old
  stands = record { step = step; over = over; once = stands_once kept rest l state.once; leaves = state.leaves }

  pub goes_on_without : IsDropped c target l old new → IsLifting c values target first kept rest new
  goes_on_without dropped =
      let now = dropped values kept rest stands in
      record {
        leaves = now.0;
        makes = now.1;
        needed = λ m h. λ part less less_part less_row. state.needed m h part less
            (record { among = λ k g. in_whole kept rest l k (less_part.among k g); lacks = less_part.lacks }) less_row;
        among = λ m h. state.among m (in_whole kept rest l m h);
        once = none_twice_without kept rest l state.once;
      }

  pub goes_on_with : IsKept c target l old new → IsLifting c values target first (kept ++ l ∷ []) rest new
  goes_on_with is_kept =
      let now = is_kept values kept rest stands in
      let e : (kept ++ l ∷ []) ++ rest ≡ kept ++ l ∷ rest = append_assoc kept (l ∷ []) rest in
      record {
        leaves = subst (λ (xs : List ℕ). HasLeaves c values xs new) (sym e) now.0;
        makes = subst (MakesSure c values target) (sym e) state.makes;
        needed = λ m h. subst (λ (xs : List ℕ). IsNeeded c values target xs m) (sym e)
            (⊎_elim (λ old. state.needed m old) (λ same. subst (IsNeeded c values target (kept ++ l ∷ rest)) same now.1)
            (Contains-push_cases kept l m h));
        among = λ m h. state.among m (subst (λ (xs : List ℕ). Contains xs m) e h);
        once = subst HasNoneTwice (sym e) state.once;
      }

pub lifting_starts : (c : Circuit) (values : List Bool) (target first : List ℕ) (sure : List Bool)
    → IsStrictlyIncreasing first → HasLeaves c values first sure → MakesSure c values target first
    → IsLifting c values target first [] first sure
lifting_starts c values target first sure up leaves makes = record {
  leaves = leaves;
  makes = makes;
  needed = λ l h. absurd (omega (arith, h.1));
  among = λ l h. h;
  once = none_twice_from_ascending first up;
}

-- ---- the end

append_none : (xs : List ℕ) → xs ++ [] ≡ xs
append_none [] = refl
append_none (x ∷ xs) = ap (λ (ys : List ℕ). x ∷ ys) (append_none xs)

module _ (c : Circuit) (values : List Bool) (target first kept clause : List ℕ) (sure : List Bool)
    (set : IsSetOf kept clause) (state : IsLifting c values target first kept [] sure) where
  pub among_first : (l : ℕ) → Contains clause l → Contains first l
  among_first l h = state.among l (subst (λ (xs : List ℕ). Contains xs l) (sym (append_none kept)) ((set.members l).0 h))

  pub lifted_makes : MakesSure c values target clause
  lifted_makes s v out now =
      let inside : IsOutside c (kept ++ []) s = record {
        width = out.width;
        unmet = none_pass (latch_value c.latches s) (kept ++ [])
            (λ l h. passes_none (latch_value c.latches s) clause out.unmet l
            ((set.members l).1 (subst (λ (xs : List ℕ). Contains xs l) (append_none kept) h)));
      } in
      state.makes s v inside now

  pub lifted_is_least : IsLeast c values target clause
  lifted_is_least l h row is_row =
      state.needed l ((set.members l).0 h) (without l clause) row (record {
        among = λ m g. subst (λ (xs : List ℕ). Contains xs m) (sym (append_none kept))
            ((set.members m).0 (in_filter (λ k. not (k == l)) clause m g).0);
        lacks = λ g. let kept_out = (in_filter (λ k. not (k == l)) clause l g).1 in
            false≢true (sym (ap not (eq-eqb l l refl)) ∙ kept_out);
      }) is_row
