-- Whether a clause may stand in a closed list, from one literal on.
use Rattle.std.proofs.Common.{◌≡◌, ℕ, ◌+◌, ◌<◌, ◌&&◌, ◌||◌, Bool, true, false, not, nat_lt, List, [], ◌∷◌, length, get_or, drop, suc, add-one, refl, sym, subst, ◌∙◌, ap, arith}
use Rattle.std.proofs.Math.Seq.{drop-cons}
use Rattle.std.specs.List.{list_all, All, AllByRecursion}
use Rattle.std.proofs.lemmas.Bool.{or_parts, and_parts}
use Rattle.std.proofs.lemmas.Bool.Decides.{Decides-ltb, Decides-by_and}
use Rattle.std.proofs.lemmas.List.Elements.{All-tail, All-drop, All-from_recursion}
use Rattle.ja_base.specs.Literals.{variable, negated}
use Rattle.ja_base.specs.Circuit.{Circuit}
use Rattle.ja_base.specs.Clauses.{IsBelow}
use Rattle.ja_base.proofs.ClauseLemmas.{Ascends}
use Rattle.aig_model.specs.Netlist.{Netlist, IsSound, circuit}
use Rattle.ja_project.proofs.OverLemmas.{HasLatch, HasLatch-from_test}
use Rattle.ja_project.proofs.BelowLemmas.{new_is_below}
use Rattle.refute_check.specs.Refuted.{has_both_signs}
use Rattle.refute_check.specs.Lines.{first_is, is_fit}
use Rattle.refute_check.proofs.FitLemmas.{fit_step}
use Rattle.ja_project.specs.Latches.{is_foreign, is_over_latch}

tests_below : (n : ℕ) (lits : List ℕ) → IsBelow n lits → list_all (λ l. nat_lt (variable l) n) lits ≡ true
tests_below n lits h =
    (Decides-by_and (λ l. nat_lt (variable l) n) (λ l. variable l < n) (list_all (λ l. nat_lt (variable l) n))
    (λ l. Decides-ltb (variable l) n) refl (λ _ _. refl) lits).1 h

-- what is below fits exactly where no variable has both signs
fit_below : (n : ℕ) (lits : List ℕ) → IsBelow n lits → is_fit n lits ≡ not (has_both_signs lits)
fit_below n lits h = ap (λ (b : Bool). b && not (has_both_signs lits)) (tests_below n lits h)

not_or : (b f s : Bool) → not b ≡ (not f && not s) → b ≡ (f || s)
not_or true true s e = refl
not_or true false true e = refl
not_or true false false e = cc
not_or false true s e = cc
not_or false false true e = cc
not_or false false false e = refl

both_signs_step : (n l : ℕ) (ls : List ℕ) → IsBelow n (l ∷ ls) → Ascends (l ∷ ls)
    → has_both_signs (l ∷ ls) ≡ (first_is (negated l) ls || has_both_signs ls)
both_signs_step n l ls below up =
    let here : nat_lt (variable l) n ≡ true = (Decides-ltb (variable l) n).1 (below 0 0 (omega arith)) in
    let later = fit_below n ls (All-tail (λ (m : ℕ). variable m < n) l ls below) in
    not_or (has_both_signs (l ∷ ls)) (first_is (negated l) ls) (has_both_signs ls)
    (sym (fit_below n (l ∷ ls) below) ∙ fit_step n l ls up
    ∙ ap (λ (b : Bool). (b && not (first_is (negated l) ls)) && is_fit n ls) here
    ∙ ap (λ (b : Bool). not (first_is (negated l) ls) && b) later)

mix : (over first both all : Bool) → ((first || both) || not (over && all)) ≡ ((not over || first) || (both || not all))
mix true true both all = refl
mix true false both all = refl
mix false true both all = refl
mix false false true all = refl
mix false false false all = refl

foreign_step : (c : Circuit) (n l : ℕ) (ls : List ℕ) → IsBelow n (l ∷ ls) → Ascends (l ∷ ls)
    → is_foreign c (l ∷ ls) ≡ ((not (is_over_latch c l) || first_is (negated l) ls) || is_foreign c ls)
foreign_step c n l ls below up =
    ap (λ (b : Bool). b || not (is_over_latch c l && list_all (is_over_latch c) ls)) (both_signs_step n l ls below up)
    ∙ mix (is_over_latch c l) (first_is (negated l) ls) (has_both_signs ls) (list_all (is_over_latch c) ls)

-- the literal at a place, and what it leaves to ask of the later ones
pub foreign_at : (c : Circuit) (n i l : ℕ) (lits : List ℕ) → i < length lits → l ≡ get_or lits i l → IsBelow n lits
    → Ascends (drop i lits)
    → Ascends (drop (i + 1) lits)
    × (is_foreign c (drop i lits)
    ≡ ((not (is_over_latch c l) || first_is (negated l) (drop (i + 1) lits)) || is_foreign c (drop (i + 1) lits)))
foreign_at c n i l lits less e below up =
    let whole : drop i lits ≡ l ∷ drop (i + 1) lits =
    drop-cons lits i l less ∙ ap (λ (v : ℕ). v ∷ drop (suc i) lits) (sym e) ∙ ap (λ (m : ℕ). l ∷ drop m lits) (sym (add-one i)) in
    let P : List ℕ → Type 0 = Ascends in
    let here : Ascends (l ∷ drop (i + 1) lits) = subst P whole up in
    let Q : List ℕ → Type 0 = IsBelow n in
    let low : IsBelow n (l ∷ drop (i + 1) lits) = subst Q whole (All-drop (λ (m : ℕ). variable m < n) i lits below) in
    (here.1, ap (is_foreign c) whole ∙ foreign_step c n l (drop (i + 1) lits) low here)

-- ---- a clause that may stand in a closed list

pub all_over : (c : Circuit) (clause : List ℕ) → is_foreign c clause ≡ false
    → AllByRecursion (λ l. is_over_latch c l ≡ true) clause
all_over c clause own = each clause
    (not_false (list_all (is_over_latch c) clause)
    (or_parts (has_both_signs clause) (not (list_all (is_over_latch c) clause)) own).1)
  where
    not_false : (b : Bool) → not b ≡ false → b ≡ true
    not_false true e = refl
    not_false false e = cc

    each : (ls : List ℕ) → list_all (is_over_latch c) ls ≡ true → AllByRecursion (λ l. is_over_latch c l ≡ true) ls
    each [] e = tt
    each (l ∷ ls) e = let both = and_parts (is_over_latch c l) (list_all (is_over_latch c) ls) e in (both.0, each ls both.1)

pub is_over_at : (c : Circuit) (clause : List ℕ) (k d : ℕ) → is_foreign c clause ≡ false → k < length clause
    → is_over_latch c (get_or clause k d) ≡ true
is_over_at c clause k d own within = All-from_recursion (λ l. is_over_latch c l ≡ true) clause (all_over c clause own) k d within

over_at : (n : Netlist) (clause : List ℕ) (k d : ℕ) → is_foreign (circuit n) clause ≡ false → k < length clause
    → HasLatch n (get_or clause k d)
over_at n clause k d own within = HasLatch-from_test n (get_or clause k d) (is_over_at (circuit n) clause k d own within)

-- its variables are those of the design
pub own_is_below : (n : Netlist) → IsSound n → (clause : List ℕ) → is_foreign (circuit n) clause ≡ false
    → IsBelow (n.vars + 1) clause
own_is_below n sound clause own = λ k d within.
    let over = over_at n clause k d own within in
    let below = new_is_below n.vars over.latch.lit (sound.latches over.place over.latch over.latch_is).lit in
    omega (arith, below, over.var_is)

pub own_are_below : (n : Netlist) → IsSound n → (clauses : List (List ℕ))
    → All (λ clause. is_foreign (circuit n) clause ≡ false) clauses
    → All (IsBelow (n.vars + 1)) clauses
own_are_below n sound clauses own = λ k d within. own_is_below n sound (get_or clauses k d) (own k d within)

-- the same for a checker that has as many variables
pub own_fit : (n : Netlist) → IsSound n → (vars : ℕ) (clauses seen : List (List ℕ)) → vars ≡ n.vars + 1 → seen ≡ clauses
    → All (λ clause. is_foreign (circuit n) clause ≡ false) clauses → All (IsBelow vars) seen
own_fit n sound vars clauses seen e f own =
    let P : ℕ → Type 0 = λ m. All (IsBelow m) seen in
    let Q : List (List ℕ) → Type 0 = All (IsBelow (n.vars + 1)) in
    subst P (sym e) (subst Q (sym f) (own_are_below n sound clauses own))
