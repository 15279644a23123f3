-- What the passes over a row with a bit for each literal leave.
use Rattle.std.proofs.Common.{◌≡◌, ℕ, ◌+◌, ◌*◌, ◌<◌, ◌≤◌, ◌%◌, ◌==◌, ◌&&◌, ◌||◌, eqb, Bool, true, false, not, cond, List, [], ◌∷◌, ◌++◌, Some, is_some, length, map, set, take, slice_get, refl, sym, ap, ap₂, ◌∙◌, subst, arith, length-set, add-one, get_or-set_other, get_or-set_same, below_more, le_refl, ⊎_elim, ◌⊎◌, inl, inr}
use Rattle.std.specs.List.{list_any}
use Rattle.std.specs.FinMap as finite_map
use Rattle.std.proofs.lemmas.Bool.{false≢true, cases_Bool, cases_lt, cases_eq, eqb-true, eqb-false, false_from_ne_true}
use Rattle.std.proofs.lemmas.Bool.Decides.{nat_tests}
use Rattle.std.proofs.lemmas.List.{length-map, map-append}
use Rattle.std.proofs.lemmas.List.Elements.{All-from_recursion, All-contains}
use Rattle.std.proofs.lemmas.List.Folds.{list_any-append}
use Rattle.std.proofs.lemmas.Option.{same_Some, slice_get_within, get_or_from_slice_get}
use Rattle.std.proofs.Math.Bool.{or-false}
use Rattle.std.proofs.Math.Seq.{take-suc}
use Rattle.ja_base.specs.Literals.{bit, value, variable, negated, is_negated, literal_of, with_sign}
use Rattle.ja_base.specs.Clauses.{has_literal}
use Rattle.ja_base.specs.Circuit as plain
use Rattle.ja_base.proofs.ClauseLemmas.{has_literal_decides}
use Rattle.ja_base.proofs.LiteralLemmas.{variable_negated, negated_twice}
use Rattle.aig_model.specs.declared.netlist.Latch.{Latch}
use Rattle.aig_model.specs.declared.netlist.AndGate.{AndGate}
use Rattle.aig_model.specs.Netlist.{Netlist, IsSound, circuit, gate_var, latch_of}
use Rattle.aig_eval.proofs.PlaceLemmas.{HasOwnVars, own_vars, map_at}
use Rattle.aig_eval.specs.Rows.{input_vars, latch_var}
use Rattle.aig_eval.proofs.DefinedLemmas.{HasGate, has_gate, found_in, free_from_undefined}
use Rattle.ja_project.specs.Latches.{is_foreign, is_over_latch}
use Rattle.ja_project.proofs.ForeignLemmas.{all_over}
use Rattle.ja_project.proofs.OverLemmas.{HasLatch-from_test}
use Rattle.ic3_general.specs.Lifting.{HasLeaves, IsSureRow}
use Rattle.ic3_general.specs.Dropping.{PutsSure}
use Rattle.ic3_general.proofs.SureLemmas.{over_negated}

-- ---- a literal and its negation are written

-- both bits of a variable
abbrev pub pair_set : List Bool → ℕ → Bool → Bool → List Bool
pair_set row l a b = set (set row l a) (negated l) b

pub pair_width : (row : List Bool) (l : ℕ) (a b : Bool) → length (pair_set row l a b) ≡ length row
pair_width row l a b = length-set (set row l a) (negated l) b ∙ length-set row l a

pub pair_first : (row : List Bool) (l : ℕ) (a b : Bool) → 2 * variable l + 1 < length row → bit (pair_set row l a b) l ≡ a
pair_first row l a b within =
    get_or-set_other (set row l a) (negated l) l b false (λ e. apart l e)
    ∙ get_or-set_same row l a false (omega arith)
  where
    apart : (l : ℕ) → l ≡ negated l → ⊥
    apart l e = grind (arith, nat_tests)

pub pair_second : (row : List Bool) (l : ℕ) (a b : Bool) → 2 * variable l + 1 < length row
    → bit (pair_set row l a b) (negated l) ≡ b
pair_second row l a b within =
    get_or-set_same (set row l a) (negated l) b false (omega (arith, length-set row l a, low l))
  where
    low : (l : ℕ) → negated l ≤ 2 * variable l + 1
    low l = omega (arith, variable_negated l)

pub pair_other : (row : List Bool) (l m : ℕ) (a b : Bool) → (variable m ≡ variable l → ⊥)
    → bit (pair_set row l a b) m ≡ bit row m
pair_other row l m a b apart =
    get_or-set_other (set row l a) (negated l) m b false (λ e. apart (ap variable e ∙ variable_negated l))
    ∙ get_or-set_other row l m a false (λ e. apart (ap variable e))

pub cases_pair : (l m : ℕ) → variable m ≡ variable l → (m ≡ l) ⊎ (m ≡ negated l)
cases_pair l m var = ⊎_elim (λ same. inl (omega arith)) (λ other. inr (by_sign l m var other)) (cases_eq (m % 2) (l % 2))
  where
    by_sign : (l m : ℕ) → variable m ≡ variable l → (m % 2 ≡ l % 2 → ⊥) → m ≡ negated l
    by_sign l m var other = grind (arith, nat_tests)

-- ---- the values of all variables

pub value_put : (row : List Bool) (v l : ℕ) (b : Bool) → 2 * v + 1 < length row → variable l ≡ v
    → bit (set (set row (2 * v) b) (2 * v + 1) (not b)) l ≡ with_sign l b
value_put row v l b within var =
    ⊎_elim
    (λ even. let is : l ≡ 2 * v = omega arith in
    let plain : is_negated l ≡ false = grind (arith, nat_tests) in
    get_or-set_other (set row (2 * v) b) (2 * v + 1) l (not b) false (λ e. absurd (omega arith))
    ∙ ap (bit (set row (2 * v) b)) is ∙ get_or-set_same row (2 * v) b false (omega arith)
    ∙ sym (ap (λ n. cond n (not b) b) plain))
    (λ odd. let is : l ≡ 2 * v + 1 = omega arith in
    let negative : is_negated l ≡ true = grind (arith, nat_tests) in
    ap (bit (set (set row (2 * v) b) (2 * v + 1) (not b))) is
    ∙ get_or-set_same (set row (2 * v) b) (2 * v + 1) (not b) false (omega (arith, length-set row (2 * v) b))
    ∙ sym (ap (λ n. cond n (not b) b) negative))
    (cases_lt (l % 2) 1)

pub value_kept : (row : List Bool) (v l : ℕ) (a b : Bool) → variable l < v
    → bit (set (set row (2 * v) a) (2 * v + 1) b) l ≡ bit row l
value_kept row v l a b low =
    get_or-set_other (set row (2 * v) a) (2 * v + 1) l b false (λ e. absurd (omega arith))
    ∙ get_or-set_other row (2 * v) l a false (λ e. absurd (omega arith))

-- ---- latches are cleared

abbrev pub has_var : List Latch → ℕ → Bool
has_var ks u = list_any (λ (k : plain.Latch). u == k.var) (map latch_of ks)

-- in the new row the bits of these latches' literals are 0
pub record Clears (ks : List Latch) (old new : List Bool) : Type 0 where
  pub width : length new ≡ length old
  pub cleared : (l : ℕ) → bit new l ≡ (bit old l && not (has_var ks (variable l)))

pub Clears-none : (row : List Bool) → Clears [] row row
Clears-none row = record { width = refl; cleared = λ l. none (bit row l) }
  where
    none : (b : Bool) → b ≡ (b && true)
    none true = refl
    none false = refl

var_more : (ks : List Latch) (k : Latch) (u : ℕ) → has_var (ks ++ k ∷ []) u ≡ (has_var ks u || (u == variable k.lit || false))
var_more ks k u =
    ap (list_any (λ (x : plain.Latch). u == x.var)) (map-append latch_of ks (k ∷ []))
    ∙ list_any-append (λ (x : plain.Latch). u == x.var) (map latch_of ks) (latch_of k ∷ [])

clear_one : (ks : List Latch) (k : Latch) (old row : List Bool) → 2 * variable k.lit + 1 < length old → Clears ks old row
    → Clears (ks ++ k ∷ []) old (pair_set row k.lit false false)
clear_one ks k old row within c = record {
  width = pair_width row k.lit false false ∙ c.width;
  cleared = λ l. by_test l (cases_Bool (eqb (variable l) (variable k.lit)));
}
  where
    at_true : (a b : Bool) → false ≡ (a && not (b || (true || false)))
    at_true true true = refl
    at_true true false = refl
    at_true false b = refl

    at_false : (a b : Bool) → (a && not b) ≡ (a && not (b || (false || false)))
    at_false true true = refl
    at_false true false = refl
    at_false false b = refl

    zero_at : (l : ℕ) → variable l ≡ variable k.lit → bit (pair_set row k.lit false false) l ≡ false
    zero_at l var =
        let fits : 2 * variable k.lit + 1 < length row = omega (arith, c.width) in
        ⊎_elim (λ e. ap (bit (pair_set row k.lit false false)) e ∙ pair_first row k.lit false false fits)
        (λ e. ap (bit (pair_set row k.lit false false)) e ∙ pair_second row k.lit false false fits)
        (cases_pair k.lit l var)

    by_test : (l : ℕ) → ((eqb (variable l) (variable k.lit) ≡ true) ⊎ (eqb (variable l) (variable k.lit) ≡ false))
        → bit (pair_set row k.lit false false) l ≡ (bit old l && not (has_var (ks ++ k ∷ []) (variable l)))
    by_test l (inl e) =
        zero_at l (eqb-true (variable l) (variable k.lit) e) ∙ at_true (bit old l) (has_var ks (variable l))
        ∙ sym (ap (λ (b : Bool). bit old l && not b)
        (var_more ks k (variable l) ∙ ap (λ (b : Bool). has_var ks (variable l) || (b || false)) e))
    by_test l (inr e) =
        pair_other row k.lit l false false (eqb-false (variable l) (variable k.lit) e) ∙ c.cleared l
        ∙ at_false (bit old l) (has_var ks (variable l))
        ∙ sym (ap (λ (b : Bool). bit old l && not b)
        (var_more ks k (variable l) ∙ ap (λ (b : Bool). has_var ks (variable l) || (b || false)) e))

-- one item more from the front
pub one_more : {X : Type 0} (xs : List X) (i : ℕ) (x : X) → slice_get xs i ≡ Some x → take (i + 1) xs ≡ take i xs ++ x ∷ []
one_more xs i x is =
    ap (λ (k : ℕ). take k xs) (add-one i) ∙ take-suc xs i x (slice_get_within xs i x is)
    ∙ ap (λ y. take i xs ++ y ∷ []) (get_or_from_slice_get xs i x x is)

pub Clears-more : (ks : List Latch) (i : ℕ) (k : Latch) (old row : List Bool) → slice_get ks i ≡ Some k
    → 2 * variable k.lit + 1 < length old → Clears (take i ks) old row
    → Clears (take (i + 1) ks) old (pair_set row k.lit false false)
Clears-more ks i k old row is within c = subst (λ xs. Clears xs old (pair_set row k.lit false false)) (sym (one_more ks i k is))
    (clear_one (take i ks) k old row within c)

-- ---- literals are marked

-- in the new row the bits of the negations of these literals are 1 too
pub record MarksNegated (lits : List ℕ) (old new : List Bool) : Type 0 where
  pub width : length new ≡ length old
  pub marked : (l : ℕ) → bit new l ≡ (bit old l || has_literal lits (negated l))

pub MarksNegated-none : (row : List Bool) → MarksNegated [] row row
MarksNegated-none row = record { width = refl; marked = λ l. sym (or-false (bit row l)) }

mark_one : (ms : List ℕ) (m : ℕ) (old row : List Bool) → 2 * variable m + 1 < length old → MarksNegated ms old row
    → MarksNegated (ms ++ m ∷ []) old (set row (negated m) true)
mark_one ms m old row within r = record {
  width = length-set row (negated m) true ∙ r.width;
  marked = λ l. by_test l (cases_Bool (eqb m (negated l)));
}
  where
    at_true : (a b : Bool) → true ≡ (a || (b || (true || false)))
    at_true true b = refl
    at_true false true = refl
    at_true false false = refl

    at_false : (a b : Bool) → (a || b) ≡ (a || (b || (false || false)))
    at_false true b = refl
    at_false false true = refl
    at_false false false = refl

    low : (l : ℕ) → negated l ≤ 2 * variable l + 1
    low l = omega (arith, variable_negated l)

    by_test : (l : ℕ) → ((eqb m (negated l) ≡ true) ⊎ (eqb m (negated l) ≡ false))
        → bit (set row (negated m) true) l ≡ (bit old l || has_literal (ms ++ m ∷ []) (negated l))
    by_test l (inl e) =
        let is : l ≡ negated m = sym (negated_twice l) ∙ ap negated (sym (eqb-true m (negated l) e)) in
        ap (bit (set row (negated m) true)) is ∙ get_or-set_same row (negated m) true false (omega (arith, r.width, low m))
        ∙ at_true (bit old l) (has_literal ms (negated l))
        ∙ sym (ap (λ (b : Bool). bit old l || b)
        (list_any-append (λ x. x == negated l) ms (m ∷ []) ∙ ap (λ (b : Bool). has_literal ms (negated l) || (b || false)) e))
    by_test l (inr e) =
        get_or-set_other row (negated m) l true false
        (λ same. eqb-false m (negated l) e (sym (negated_twice m) ∙ ap negated (sym same)))
        ∙ r.marked l ∙ at_false (bit old l) (has_literal ms (negated l))
        ∙ sym (ap (λ (b : Bool). bit old l || b)
        (list_any-append (λ x. x == negated l) ms (m ∷ []) ∙ ap (λ (b : Bool). has_literal ms (negated l) || (b || false)) e))

pub MarksNegated-more : (ms : List ℕ) (i m : ℕ) (old row : List Bool) → slice_get ms i ≡ Some m
    → 2 * variable m + 1 < length old → MarksNegated (take i ms) old row
    → MarksNegated (take (i + 1) ms) old (set row (negated m) true)
MarksNegated-more ms i m old row is within r =
    subst (λ (xs : List ℕ). MarksNegated xs old (set row (negated m) true)) (sym (one_more ms i m is))
    (mark_one (take i ms) m old row within r)

-- ---- a row with the leaves of a clause

-- a clause over latches has no literal over another variable
pub none_over : (c : plain.Circuit) (clause : List ℕ) (l : ℕ) → is_foreign c clause ≡ false → is_over_latch c l ≡ false
    → has_literal clause (negated l) ≡ false
none_over c clause l own free = false_from_ne_true (has_literal clause (negated l)) (λ t.
    let over : is_over_latch c (negated l) ≡ true = All-contains (λ m. is_over_latch c m ≡ true) clause (negated l)
    (All-from_recursion (λ m. is_over_latch c m ≡ true) clause (all_over c clause own))
    ((has_literal_decides clause (negated l)).0 t) in
    false≢true (sym free ∙ sym (over_negated c l) ∙ over))

pub has_leaves : (n : Netlist) (values : List Bool) (clause : List ℕ) (first second third : List Bool)
    → length third ≡ 2 * (n.vars + 1) → is_foreign (circuit n) clause ≡ false
    → ((l : ℕ) → variable l < n.vars + 1 → bit first l ≡ value values l)
    → ((l : ℕ) → bit second l ≡ (bit first l && not (is_over_latch (circuit n) l)))
    → ((l : ℕ) → bit third l ≡ (bit second l || has_literal clause (negated l)))
    → HasLeaves (circuit n) values clause third
has_leaves n values clause first second third width own put cleared marked = record {
  width = width;
  latches = λ l over.
      marked l ∙ ap (λ (b : Bool). b || has_literal clause (negated l))
      (cleared l ∙ ap (λ (b : Bool). bit first l && not b) over ∙ to_false (bit first l));
  others = λ l within free no_gate.
      marked l ∙ ap₂ (λ (a b : Bool). a || b)
      (cleared l ∙ ap (λ (b : Bool). bit first l && not b) free ∙ to_same (bit first l) ∙ put l (omega arith))
      (none_over (circuit n) clause l own free)
      ∙ or-false (value values l);
}
  where
    to_false : (b : Bool) → (b && false) ≡ false
    to_false true = refl
    to_false false = refl

    to_same : (b : Bool) → (b && true) ≡ b
    to_same true = refl
    to_same false = refl

-- ---- the gates

pub PutsSure-none : (gates : List AndGate) (row : List Bool) → PutsSure gates 0 row row
PutsSure-none gates row = record {
  width = refl;
  ands = λ k g h. absurd (omega arith);
  ors = λ k g h. absurd (omega arith);
  others = λ l h. refl;
}

-- the bits of a gate by the bits of its right sides
record IsGate (row : List Bool) (g : AndGate) : Type 0 where
  and_is : bit row g.lhs ≡ (bit row g.rhs0 && bit row g.rhs1)
  or_is : bit row (negated g.lhs) ≡ (bit row (negated g.rhs0) || bit row (negated g.rhs1))

module _ (n : Netlist) (sound : IsSound n) (own : HasOwnVars n) (at : ℕ) (gate : AndGate)
    (is : slice_get n.gates at ≡ Some gate) (old row : List Bool) (a b : Bool) where
  -- a literal over another variable keeps its bit, and so does its negation
  stays : (l : ℕ) → (variable l ≡ gate_var gate → ⊥) → bit (pair_set row gate.lhs a b) l ≡ bit row l
  stays l apart = pair_other row gate.lhs l a b apart

  stays_negated : (l : ℕ) → (variable l ≡ gate_var gate → ⊥)
      → bit (pair_set row gate.lhs a b) (negated l) ≡ bit row (negated l)
  stays_negated l apart = stays (negated l) (λ e. apart (sym (variable_negated l) ∙ e))

  -- the right sides of a gate that is not later keep their bits
  ands_stay : (k : ℕ) (g : AndGate) → k ≤ at → slice_get n.gates k ≡ Some g
      → (bit row g.rhs0 && bit row g.rhs1)
      ≡ (bit (pair_set row gate.lhs a b) g.rhs0 && bit (pair_set row gate.lhs a b) g.rhs1)
  ands_stay k g h e =
      let here = sound.gates k g e in
      sym (ap₂ (λ x y. x && y) (stays g.rhs0 (here.before0 at gate h is)) (stays g.rhs1 (here.before1 at gate h is)))

  ors_stay : (k : ℕ) (g : AndGate) → k ≤ at → slice_get n.gates k ≡ Some g
      → (bit row (negated g.rhs0) || bit row (negated g.rhs1))
      ≡ (bit (pair_set row gate.lhs a b) (negated g.rhs0) || bit (pair_set row gate.lhs a b) (negated g.rhs1))
  ors_stay k g h e =
      let here = sound.gates k g e in
      sym (ap₂ (λ x y. x || y) (stays_negated g.rhs0 (here.before0 at gate h is))
      (stays_negated g.rhs1 (here.before1 at gate h is)))

  earlier_apart : (k : ℕ) (g : AndGate) → k < at → slice_get n.gates k ≡ Some g → gate_var g ≡ gate_var gate → ⊥
  earlier_apart k g h e same =
      own.gates k at h (omega (arith, length-map n.gates gate_var, slice_get_within n.gates at gate is))
      (map_at gate_var n.gates k g 0 e ∙ same ∙ sym (map_at gate_var n.gates at gate 0 is))

  earlier_gate : PutsSure n.gates at old row → (k : ℕ) → k < at → (g : AndGate) → slice_get n.gates k ≡ Some g
      → IsGate (pair_set row gate.lhs a b) g
  earlier_gate p k h g e = record {
    and_is = stays g.lhs (earlier_apart k g h e) ∙ p.ands k g h e ∙ ands_stay k g (omega arith) e;
    or_is = stays_negated g.lhs (earlier_apart k g h e) ∙ p.ors k g h e ∙ ors_stay k g (omega arith) e;
  }

  this_gate : 2 * variable gate.lhs + 1 < length row → a ≡ (bit row gate.rhs0 && bit row gate.rhs1)
      → b ≡ (bit row (negated gate.rhs0) || bit row (negated gate.rhs1))
      → (g : AndGate) → slice_get n.gates at ≡ Some g → IsGate (pair_set row gate.lhs a b) g
  this_gate fits a_is b_is g e =
      subst (IsGate (pair_set row gate.lhs a b)) (same_Some gate g (sym is ∙ e)) (record {
        and_is = pair_first row gate.lhs a b fits ∙ a_is ∙ ands_stay at gate (le_refl at) is;
        or_is = pair_second row gate.lhs a b fits ∙ b_is ∙ ors_stay at gate (le_refl at) is;
      })

  pub PutsSure-more : 2 * variable gate.lhs + 1 < length row → a ≡ (bit row gate.rhs0 && bit row gate.rhs1)
      → b ≡ (bit row (negated gate.rhs0) || bit row (negated gate.rhs1)) → PutsSure n.gates at old row
      → PutsSure n.gates (at + 1) old (pair_set row gate.lhs a b)
  PutsSure-more fits a_is b_is p =
      let each = below_more (λ k. (g : AndGate) → slice_get n.gates k ≡ Some g → IsGate (pair_set row gate.lhs a b) g) at
      (earlier_gate p) (this_gate fits a_is b_is) in
      record {
        width = pair_width row gate.lhs a b ∙ p.width;
        ands = λ k g h e. let here : IsGate (pair_set row gate.lhs a b) g = each k h g e in here.and_is;
        ors = λ k g h e. let here : IsGate (pair_set row gate.lhs a b) g = each k h g e in here.or_is;
        others = λ l h. stays l (λ e. h at gate (omega arith) is (sym e)) ∙ p.others l (λ k g lt. h k g (omega arith));
      }

-- the gates are worked out, and the leaves stay
module _ (n : Netlist) (sound : IsSound n) (values : List Bool) (clause : List ℕ) (old new : List Bool)
    (leaves : HasLeaves (circuit n) values clause old) (puts : PutsSure n.gates (length n.gates) old new) where
  no_gate_of_latch : (l : ℕ) → is_over_latch (circuit n) l ≡ true → (k : ℕ) (g : AndGate) → k < length n.gates
      → slice_get n.gates k ≡ Some g → gate_var g ≡ variable l → ⊥
  no_gate_of_latch l over k g lt e same =
      let own = own_vars n sound in
      let h = HasLatch-from_test n l over in
      own.latch_gate h.place k
      (omega (arith, length-map n.latches latch_var, slice_get_within n.latches h.place h.latch h.latch_is))
      (omega (arith, length-map n.gates gate_var))
      (map_at latch_var n.latches h.place h.latch 0 h.latch_is ∙ h.var_is ∙ sym same
      ∙ sym (map_at gate_var n.gates k g 0 e))

  no_gate_of_leaf : (u : ℕ) → list_any (λ (k : plain.Latch). u == k.var) (circuit n).latches ≡ false
      → is_some (finite_map.get (circuit n).gates u) ≡ false → (k : ℕ) (g : AndGate)
      → k < length n.gates → slice_get n.gates k ≡ Some g → gate_var g ≡ u → ⊥
  no_gate_of_leaf u free none k g lt e same =
      ⊎_elim
      (λ t. let r = found_in (λ v. u == v) (circuit n).inputs t in
      let own = own_vars n sound in
      own.input_gate r.0 k (slice_get_within (input_vars n) r.0 r.1 r.2) (omega (arith, length-map n.gates gate_var))
      (get_or_from_slice_get (input_vars n) r.0 r.1 0 r.2 ∙ sym (eqb-true u r.1 r.3) ∙ sym same
      ∙ sym (map_at gate_var n.gates k g 0 e)))
      (λ f. let undefined : plain.is_defined (circuit n) u ≡ false =
      ap₂ (λ p q. p || q) (ap₂ (λ p q. p || q) f free) none in
      (free_from_undefined n u undefined).no_gate k g lt e same)
      (cases_Bool (list_any (λ v. u == v) (circuit n).inputs))

  at_gate : (u : ℕ) (rights : ℕ × ℕ) (h : HasGate n.gates u rights)
      → (bit new (literal_of u false) ≡ (bit new rights.0 && bit new rights.1))
      × (bit new (literal_of u true) ≡ (bit new (negated rights.0) || bit new (negated rights.1)))
  at_gate u rights h =
      let within = slice_get_within n.gates h.place h.gate h.is in
      let even = (sound.gates h.place h.gate h.is).lhs.even in
      let plain : h.gate.lhs ≡ literal_of u false = omega (arith, h.var) in
      let negative : negated h.gate.lhs ≡ literal_of u true = negated_even h.gate.lhs u even h.var in
      let first : bit new h.gate.lhs ≡ (bit new h.gate.rhs0 && bit new h.gate.rhs1) =
      puts.ands h.place h.gate within h.is in
      let second : bit new (negated h.gate.lhs) ≡ (bit new (negated h.gate.rhs0) || bit new (negated h.gate.rhs1)) =
      puts.ors h.place h.gate within h.is in
      let Ands = λ (r : ℕ × ℕ). bit new (literal_of u false) ≡ (bit new r.0 && bit new r.1) in
      let Ors = λ (r : ℕ × ℕ). bit new (literal_of u true) ≡ (bit new (negated r.0) || bit new (negated r.1)) in
      (subst Ands h.rights_are (ap (bit new) (sym plain) ∙ first), subst Ors h.rights_are (ap (bit new) (sym negative) ∙ second))
    where
      negated_even : (l u : ℕ) → l % 2 ≡ 0 → variable l ≡ u → negated l ≡ literal_of u true
      negated_even l u even var = grind (arith, nat_tests)

  pub sure_row : IsSureRow (circuit n) values clause new
  sure_row = record {
    leaves = record {
      width = puts.width ∙ leaves.width;
      latches = λ l over. puts.others l (no_gate_of_latch l over) ∙ leaves.latches l over;
      others = λ l within free no_gate.
          puts.others l (no_gate_of_leaf (variable l) free no_gate) ∙ leaves.others l within free no_gate;
    };
    ands = λ u rights e. (at_gate u rights (has_gate n u rights e)).0;
    ors = λ u rights e. (at_gate u rights (has_gate n u rights e)).1;
  }
