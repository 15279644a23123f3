-- Rows of a solver that has more variables than the design, and clauses under a switch.
use Rattle.std.proofs.Common.{◌≡◌, ℕ, ◌+◌, ◌<◌, ◌||◌, Bool, true, false, not, List, [], ◌∷◌, ◌++◌, get_or, map, eqb, refl, sym, ap, subst, ◌∙◌, ⊎_elim, arith}
use Rattle.std.specs.List.{list_any, All}
use Rattle.std.proofs.lemmas.Bool.{or_cases, and_parts, eqb-true}
use Rattle.std.proofs.lemmas.Bool.Decides.{nat_tests}
use Rattle.std.proofs.lemmas.Option.{slice_get-get_or}
use Rattle.std.proofs.lemmas.List.Elements.{All-head, All-tail, All-cons, All-nil, All-append, All-contains, Contains-get_or}
use Rattle.std.proofs.lemmas.List.Folds.{list_any-append}
use Rattle.ja_base.specs.Literals.{bit, variable, is_negated, literal_of, value, with_sign, AllSatisfiedBy}
use Rattle.ja_base.specs.Clauses.{IsSetOf, IsBelow, has_literal, is_part}
use Rattle.ja_base.specs.Circuit as plain
use Rattle.ja_base.specs.Valuation.{latch_row, next_state}
use Rattle.aig_model.specs.declared.netlist.Latch.{Latch}
use Rattle.aig_model.specs.Netlist.{Netlist, IsSound, circuit, latch_of}
use Rattle.ja_project.proofs.BelowLemmas.{lit_is_below, new_is_below}
use Rattle.ja_project.specs.Latches.{is_foreign}
use Rattle.ja_project.proofs.ClauseLemmas.{clause_is, any_clause}
use Rattle.ja_project.proofs.ForeignLemmas.{all_over}
use Rattle.ja_project.proofs.StepLemmas.{variable_of}
use Rattle.ja_project.proofs.ValueLemmas.{same_any}
use Rattle.ic3_frames.specs.Soundness.{Meets}
use Rattle.ic3_query.specs.Switches.{switch_var, off}
use Rattle.ic3_query.specs.Under.{IsGuarded}

-- ---- literals of switches

pub value_negative : (row : List Bool) (u : ℕ) → value row (literal_of u true) ≡ not (bit row u)
value_negative row u =
    let negative : is_negated (literal_of u true) ≡ true = grind (arith, nat_tests) in
    rw (negative, variable_of u) refl

pub variable_positive : (u : ℕ) → variable (literal_of u false) ≡ u
variable_positive u = omega arith

pub value_positive : (row : List Bool) (u : ℕ) → value row (literal_of u false) ≡ bit row u
value_positive row u =
    let positive : is_negated (literal_of u false) ≡ false = grind (arith, nat_tests) in
    rw (positive, variable_positive u) refl

-- ---- clauses over latches, in a row and in its latch row

pub met_in_row : (c : plain.Circuit) (row : List Bool) (clause : List ℕ) → is_foreign c clause ≡ false
    → Meets c (latch_row c row) clause → list_any (value row) clause ≡ true
met_in_row c row clause own h = sym (same_any c row clause (all_over c clause own)) ∙ h

pub met_by_latches : (c : plain.Circuit) (row : List Bool) (clause : List ℕ) → is_foreign c clause ≡ false
    → list_any (value row) clause ≡ true → Meets c (latch_row c row) clause
met_by_latches c row clause own h = same_any c row clause (all_over c clause own) ∙ h

-- ---- clauses under a switch

or_false_right : (a b : Bool) → (a || (b || false)) ≡ true → b ≡ false → a ≡ true
or_false_right true b e f = refl
or_false_right false true e f = absurd cc
or_false_right false false e f = e

false_is_not_true : (b : Bool) → (b ≡ true → ⊥) → b ≡ false
false_is_not_true true h = absurd (h refl)
false_is_not_true false h = refl

by_switch : (a b : Bool) → (b ≡ true → a ≡ true) → (a || (not b || false)) ≡ true
by_switch true b h = refl
by_switch false true h = h refl
by_switch false false h = refl

not_on : (b : Bool) → b ≡ true → not b ≡ false
not_on true e = refl
not_on false e = absurd cc

guarded_any : (n : Netlist) (level : ℕ) (clause guarded : List ℕ) (row : List Bool) → IsGuarded n level clause guarded
    → list_any (value row) guarded ≡ (list_any (value row) clause || (not (bit row (switch_var n level)) || false))
guarded_any n level clause guarded row is =
    let lits = clause ++ off n level ∷ [] in
    ap (list_any (value row)) (clause_is lits guarded is) ∙ any_clause (value row) lits
    ∙ list_any-append (value row) clause (off n level ∷ [])
    ∙ ap (λ (b : Bool). list_any (value row) clause || (b || false)) (value_negative row (switch_var n level))

-- the guarded clause holds where the clause does, if the switch is on
pub guarded_holds : (n : Netlist) (level : ℕ) (clause guarded : List ℕ) (row : List Bool) → IsGuarded n level clause guarded
    → (bit row (switch_var n level) ≡ true → list_any (value row) clause ≡ true) → list_any (value row) guarded ≡ true
guarded_holds n level clause guarded row is h =
    guarded_any n level clause guarded row is ∙ by_switch (list_any (value row) clause) (bit row (switch_var n level)) h

-- and where it holds and the switch is on, the clause does
pub holds_guarded : (n : Netlist) (level : ℕ) (clause guarded : List ℕ) (row : List Bool) → IsGuarded n level clause guarded
    → list_any (value row) guarded ≡ true → bit row (switch_var n level) ≡ true → list_any (value row) clause ≡ true
holds_guarded n level clause guarded row is h on =
    or_false_right (list_any (value row) clause) (not (bit row (switch_var n level)))
    (sym (guarded_any n level clause guarded row is) ∙ h) (not_on (bit row (switch_var n level)) on)

pub set_is_below : (n : ℕ) (lits set : List ℕ) → IsSetOf lits set → IsBelow n lits → IsBelow n set
set_is_below n lits set is below = λ k d within.
    All-contains (λ l. variable l < n) lits (get_or set k d) below
    ((is.members (get_or set k d)).0 (Contains-get_or set k d within))

pub guarded_is_below : (n : Netlist) (level count : ℕ) (clause guarded : List ℕ) → IsGuarded n level clause guarded
    → IsBelow (n.vars + 1) clause → n.vars + 1 + level < count → IsBelow count guarded
guarded_is_below n level count clause guarded is below high =
    let P : ℕ → Type 0 = λ l. variable l < count in
    let low : All P clause = λ k d within. omega (arith, below k d within, high) in
    let last : P (off n level) = omega (arith, variable_of (switch_var n level), high) in
    set_is_below count (clause ++ off n level ∷ []) guarded is (All-append P clause (off n level ∷ []) low
    (All-cons P (off n level) [] last (All-nil P)))

-- ---- rows that agree on the variables of the design

abbrev pub AreSame : ℕ → List Bool → List Bool → Type 0
AreSame n row other = (u : ℕ) → u < n → bit row u ≡ bit other u

pub value_same : (n : ℕ) (row other : List Bool) (l : ℕ) → AreSame n row other → variable l < n → value row l ≡ value other l
value_same n row other l same low = ap (with_sign l) (same (variable l) low)

pub any_same : (n : ℕ) (row other : List Bool) (clause : List ℕ) → AreSame n row other → IsBelow n clause
    → list_any (value row) clause ≡ list_any (value other) clause
any_same n row other [] same low = refl
any_same n row other (l ∷ ls) same low =
    ap (λ b. b || list_any (value row) ls) (value_same n row other l same (All-head (λ m. variable m < n) l ls low))
    ∙ ap (λ b. value other l || b) (any_same n row other ls same (All-tail (λ m. variable m < n) l ls low))

pub all_same : (n : ℕ) (row other : List Bool) (clauses : List (List ℕ)) → AreSame n row other → All (IsBelow n) clauses
    → AllSatisfiedBy (value other) clauses → AllSatisfiedBy (value row) clauses
all_same n row other clauses same low h = λ k d within. any_same n row other (get_or clauses k d) same (low k d within)
    ∙ h k d within

pub lits_same : (n : ℕ) (row other : List Bool) (lits : List ℕ) → AreSame n row other → IsBelow n lits
    → All (λ l. value other l ≡ true) lits → All (λ l. value row l ≡ true) lits
lits_same n row other lits same low h = λ k d within. value_same n row other (get_or lits k d) same (low k d within)
    ∙ h k d within

pub same_latches : (n : Netlist) → IsSound n → (row other : List Bool) → AreSame (n.vars + 1) row other
    → latch_row (circuit n) row ≡ latch_row (circuit n) other
same_latches n sound row other same = each n.latches (λ k d within.
    new_is_below n.vars (get_or n.latches k d).lit
    (sound.latches k (get_or n.latches k d) (slice_get-get_or n.latches k d within)).lit)
  where
    each : (ls : List Latch) → All (λ (l : Latch). variable l.lit < n.vars + 1) ls
        → map (λ (l : plain.Latch). bit row l.var) (map latch_of ls) ≡ map (λ (l : plain.Latch). bit other l.var)
        (map latch_of ls)
    each [] low = refl
    each (l ∷ ls) low =
        ap (λ (b : Bool). b ∷ map (λ (l : plain.Latch). bit row l.var) (map latch_of ls))
        (same (variable l.lit) (All-head (λ (l : Latch). variable l.lit < n.vars + 1) l ls low))
        ∙ ap (λ (bs : List Bool). bit other (variable l.lit) ∷ bs)
        (each ls (All-tail (λ (l : Latch). variable l.lit < n.vars + 1) l ls low))

pub same_nexts : (n : Netlist) → IsSound n → (row other : List Bool) → AreSame (n.vars + 1) row other
    → next_state (circuit n) row ≡ next_state (circuit n) other
same_nexts n sound row other same = each n.latches (λ k d within.
    lit_is_below n.vars (get_or n.latches k d).next
    (sound.latches k (get_or n.latches k d) (slice_get-get_or n.latches k d within)).next.within)
  where
    each : (ls : List Latch) → All (λ (l : Latch). variable l.next < n.vars + 1) ls
        → map (λ (l : plain.Latch). value row l.next) (map latch_of ls) ≡ map (λ (l : plain.Latch). value other l.next)
        (map latch_of ls)
    each [] low = refl
    each (l ∷ ls) low =
        ap (λ (b : Bool). b ∷ map (λ (l : plain.Latch). value row l.next) (map latch_of ls))
        (value_same (n.vars + 1) row other l.next same (All-head (λ (l : Latch). variable l.next < n.vars + 1) l ls low))
        ∙ ap (λ (bs : List Bool). value other l.next ∷ bs)
        (each ls (All-tail (λ (l : Latch). variable l.next < n.vars + 1) l ls low))

-- ---- parts

pub all_of_part : (P : ℕ → Type 0) (core under : List ℕ) → is_part core under ≡ true → All P under → All P core
all_of_part P [] under part h = All-nil P
all_of_part P (l ∷ ls) under part h =
    let both = and_parts (has_literal under l) (is_part ls under) part in
    All-cons P l ls (one under both.0 h) (all_of_part P ls under both.1 h)
  where
    one : (lits : List ℕ) → has_literal lits l ≡ true → All P lits → P l
    one [] has all = absurd cc
    one (m ∷ ms) has all =
        ⊎_elim (λ here. subst P (eqb-true m l here) (All-head P m ms all))
        (λ later. one ms later (All-tail P m ms all)) (or_cases (eqb m l) (has_literal ms l) has)
