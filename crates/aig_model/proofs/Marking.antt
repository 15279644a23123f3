-- One more variable is marked, or one more literal looked at; and a list of them, item by item.
use Rattle.std.proofs.Common.{◌≡◌, ℕ, ◌+◌, ◌<◌, ◌≤◌, Bool, true, false, cond, ◌||◌, eqb, Option, Some, List, [], ◌∷◌, ◌++◌, length, get_or, set, take, map, ◌⊎◌, inl, inr, ⊎_elim, refl, sym, ap, ◌∙◌, subst, arith}
use Rattle.std.specs.List.{list_any}
use Rattle.std.proofs.lemmas.List.{get_or-set_same, get_or-set_other, length-set, append_assoc, append-nil, map_push, map_more, take_more, take_all}
use Rattle.std.proofs.lemmas.Grind.{flat_map-append}
use Rattle.std.proofs.lemmas.List.Sums.{sum_by_push, sum_by-cons}
use Rattle.std.proofs.lemmas.List.Folds.{list_any-append}
use Rattle.std.proofs.lemmas.Option.{slice_get_read}
use Rattle.std.proofs.lemmas.Bool.{cases_eq, false≢true, eq-eqb, ne_eqb, or_cases, or_parts, or_left, or_right}
use Rattle.ja_base.specs.Literals.{bit, variable}
use Rattle.aig_model.specs.declared.netlist.AndGate.{AndGate}
use Rattle.aig_model.specs.declared.definitions.Defined.{Defined}
use Rattle.aig_model.specs.Least.{IsLeastOf}
use Rattle.aig_model.specs.Definitions.{least_with, AreWithin, times, Marks, Adds, IsMissing, Checks, rights}
use Rattle.aig_model.proofs.LeastLemmas.{least_same, least_more}
use Rattle.aig_model.proofs.Places.{get_map, get_left, get_last, push_cases}

abbrev pub one_if : Bool → ℕ
one_if b = cond b 1 0

pub times-cons : (x : ℕ) (xs : List ℕ) (v : ℕ) → times (x ∷ xs) v ≡ one_if (eqb x v) + times xs v
times-cons x xs v = sum_by-cons (λ u. one_if (eqb u v)) x xs

times-push : (xs : List ℕ) (u v : ℕ) → times (xs ++ u ∷ []) v ≡ times xs v + one_if (eqb u v)
times-push xs u v = sum_by_push (λ x. one_if (eqb x v)) xs u

pub times_some : (xs : List ℕ) (v : ℕ) → list_any (λ u. eqb u v) xs ≡ true → 1 ≤ times xs v
times_some [] v e = absurd (cc)
times_some (x ∷ xs) v e =
    let c = times-cons x xs v in
    ⊎_elim (λ here. let one : one_if (eqb x v) ≡ 1 = ap one_if here in omega (arith, c, one))
    (λ later. let h = times_some xs v later in omega (arith, c, h))
    (or_cases (eqb x v) (list_any (λ u. eqb u v) xs) e)

pub times_none : (xs : List ℕ) (v : ℕ) → list_any (λ u. eqb u v) xs ≡ false → times xs v ≡ 0
times_none [] v e = refl
times_none (x ∷ xs) v e =
    let c = times-cons x xs v in
    let p = or_parts (eqb x v) (list_any (λ u. eqb u v) xs) e in
    let none : one_if (eqb x v) ≡ 0 = ap one_if p.0 in
    let h = times_none xs v p.1 in
    omega (arith, c, none, h)

-- one more of u: v stands as often as before, unless it is u
times_other : (xs : List ℕ) (u v : ℕ) → (v ≡ u → ⊥) → times (xs ++ u ∷ []) v ≡ times xs v
times_other xs u v ne =
    let c = times-push xs u v in
    let none : one_if (eqb u v) ≡ 0 = ap one_if (ne_eqb u v (λ e. ne (sym e))) in
    omega (arith, c, none)

times_same : (xs : List ℕ) (u : ℕ) → times (xs ++ u ∷ []) u ≡ times xs u + 1
times_same xs u =
    let c = times-push xs u u in
    let one : one_if (eqb u u) ≡ 1 = ap one_if (eq-eqb u u refl) in
    omega (arith, c, one)

or_none : (a b : Bool) → b ≡ false → (a || b) ≡ a
or_none true b e = refl
or_none false b e = e

-- the bits after one more mark
marks_more : (row : List Bool) (xs : List ℕ) (u : ℕ) → u < length row → ((v : ℕ) → bit row v ≡ list_any (λ x. eqb x v) xs)
    → (v : ℕ)
    → bit (set row u true) v ≡ list_any (λ x. eqb x v) (xs ++ u ∷ [])
marks_more row xs u within marks v =
    let whole = list_any-append (λ x. eqb x v) xs (u ∷ []) in
    ⊎_elim
    (λ e.
    let here : bit (set row u true) v ≡ true = ap (bit (set row u true)) e ∙ get_or-set_same row u true false within in
    here ∙ sym (whole ∙ or_right (list_any (λ x. eqb x v) xs) _ (or_left (eqb u v) false (eq-eqb u v (sym e)))))
    (λ ne.
    let last = or_none (list_any (λ x. eqb x v) xs) _ (or_none false (eqb u v || false) (or_none (eqb u v) false refl
    ∙ ne_eqb u v (λ e. ne (sym e)))) in
    get_or-set_other row u v true false ne ∙ marks v ∙ sym (whole ∙ last))
    (cases_eq v u)

-- the first mark of u changes nothing: no other variable stands more often
twice_old : (xs : List ℕ) (u : ℕ) (o : Option ℕ) → list_any (λ x. eqb x u) xs ≡ false → IsLeastOf (λ v. 2 ≤ times xs v) o
    → IsLeastOf (λ v. 2 ≤ times (xs ++ u ∷ []) v) o
twice_old xs u o new least =
    let none = times_none xs u new in
    let one = times_same xs u in
    least_same (λ v. 2 ≤ times xs v) (λ v. 2 ≤ times (xs ++ u ∷ []) v)
    (λ v two. ⊎_elim (λ e. absurd (let same = ap (times xs) e in omega (arith, same)))
    (λ ne. let same = times_other xs u v ne in omega (arith, same)) (cases_eq v u))
    (λ v two. ⊎_elim (λ e. absurd (let same = ap (times (xs ++ u ∷ [])) e in omega (arith, same)))
    (λ ne. let same = times_other xs u v ne in omega (arith, same)) (cases_eq v u))
    o least

twice_new : (xs : List ℕ) (u : ℕ) (o : Option ℕ) → list_any (λ x. eqb x u) xs ≡ true → IsLeastOf (λ v. 2 ≤ times xs v) o
    → IsLeastOf (λ v. 2 ≤ times (xs ++ u ∷ []) v) (Some (least_with o u))
twice_new xs u o old least =
    let some = times_some xs u old in
    let one = times_same xs u in
    least_more (λ v. 2 ≤ times xs v) (λ v. 2 ≤ times (xs ++ u ∷ []) v) u
    (λ v two. let more = times-push xs u v in omega (arith, more))
    (omega (arith, some, one))
    (λ v two. ⊎_elim (λ e. inr e) (λ ne. inl (let same = times_other xs u v ne in omega (arith, same))) (cases_eq v u))
    o least

-- a variable is marked, and is the least twice if it was marked before and is less
pub adds_one : (old new : Defined) (u : ℕ) → u < length old.row → new.row ≡ set old.row u true
    → new.twice ≡ cond (bit old.row u) (Some (least_with old.twice u)) old.twice → Adds old new (u ∷ [])
adds_one old new u within row twice =
    record {
      width = ap length row ∙ length-set old.row u true;
      marks = λ vars m. record {
        marks = λ v. ap (λ r. bit r v) row ∙ marks_more old.row vars u within m.marks v;
        twice = rw twice (by_mark vars m (bit old.row u) refl);
      };
    }
  where
    by_mark : (vars : List ℕ) → Marks vars old → (b : Bool) → bit old.row u ≡ b
        → IsLeastOf (λ v. 2 ≤ times (vars ++ u ∷ []) v) (cond b (Some (least_with old.twice u)) old.twice)
    by_mark vars m true e = twice_new vars u old.twice (sym (m.marks u) ∙ e) m.twice
    by_mark vars m false e = twice_old vars u old.twice (sym (m.marks u) ∙ e) m.twice

-- the whole of a list, at the end of a loop over it
pub adds_all : {X : Type 0} (f : X → ℕ) (xs : List X) (i : ℕ) (a b : Defined) → length xs ≤ i → Adds a b (map f (take i xs))
    → Adds a b (map f xs)
adds_all f xs i a b all adds = let e = take_all i xs all in rw e at adds

-- the literal of an item that was read is in range with the others
pub within_at : {X : Type 0} (f : X → ℕ) (xs : List X) (i : ℕ) (x : X) (n : ℕ) → AreWithin n (map f xs) → i < length xs
    → x ≡ get_or xs i x → variable (f x) < n
within_at f xs i x n within lt read = within i (f x) (get_map f xs i x (slice_get_read xs (length xs) i x refl lt read))

pub adds_none : (a : Defined) → Adds a a []
adds_none a = record { width = refl; marks = λ vars m. rw append-nil m }

pub adds_then : (a b c : Defined) (xs ys : List ℕ) → Adds a b xs → Adds b c ys → Adds a c (xs ++ ys)
adds_then a b c xs ys first second =
    record {
      width = second.width ∙ first.width;
      marks = λ vars m. rw (← append_assoc) (second.marks (vars ++ xs) (first.marks vars m));
    }

-- one more item of a list, each of which has a variable
pub adds_more : {X : Type 0} (f : X → ℕ) (xs : List X) (i : ℕ) (x : X) (v : ℕ) (a b c : Defined) → i < length xs
    → x ≡ get_or xs i x → v ≡ f x
    → Adds a b (map f (take i xs)) → Adds b c (v ∷ []) → Adds a c (map f (take (i + 1) xs))
adds_more f xs i x v a b c within read var first second =
    let last : v ≡ f (get_or xs i x) = var ∙ ap f read in
    rw (map_more f xs i x within, ← last) (adds_then a b c (map f (take i xs)) (v ∷ []) first second)

missing_kept : (row : List Bool) (lits : List ℕ) (l v : ℕ) → IsMissing row lits v → IsMissing row (lits ++ l ∷ []) v
missing_kept row lits l v m =
    record {
      at = m.at;
      used = rw map_push (get_left (map variable lits) (variable l ∷ []) m.at v m.used);
      above = m.above;
      unmarked = m.unmarked;
    }

missing_cases : (row : List Bool) (lits : List ℕ) (l v : ℕ) → IsMissing row (lits ++ l ∷ []) v
    → IsMissing row lits v ⊎ (v ≡ variable l)
missing_cases row lits l v m =
    ⊎_elim (λ old. inl (record { at = m.at; used = old; above = m.above; unmarked = m.unmarked })) (λ last. inr (sym last.1))
    (push_cases (map variable lits) (variable l) m.at v (rw map_push at m.used))

known_not_missing : (row : List Bool) (lits : List ℕ) (v : ℕ) → (v ≡ 0) ⊎ (bit row v ≡ true) → IsMissing row lits v → ⊥
known_not_missing row lits v known m =
    ⊎_elim (λ zero. let above = m.above in omega (arith, zero)) (λ marked. false≢true (sym m.unmarked ∙ marked)) known

-- a literal whose variable is the constant or marked is not missing
pub checks_same : (row : List Bool) (o : Option ℕ) (l : ℕ) → (variable l ≡ 0) ⊎ (bit row (variable l) ≡ true)
    → Checks row o o (l ∷ [])
checks_same row o l known lits least =
    least_same (IsMissing row lits) (IsMissing row (lits ++ l ∷ [])) (missing_kept row lits l)
    (λ v m. ⊎_elim (λ old. old)
    (λ e. absurd (known_not_missing row (lits ++ l ∷ []) (variable l) known (subst (IsMissing row (lits ++ l ∷ [])) e m)))
    (missing_cases row lits l v m))
    o least

pub checks_new : (row : List Bool) (o : Option ℕ) (l : ℕ) → 0 < variable l → bit row (variable l) ≡ false
    → Checks row o (Some (least_with o (variable l))) (l ∷ [])
checks_new row o l above unmarked lits least =
    least_more (IsMissing row lits) (IsMissing row (lits ++ l ∷ [])) (variable l) (missing_kept row lits l)
    (record {
      at = length (map variable lits);
      used = rw map_push (get_last (map variable lits) (variable l));
      above = above;
      unmarked = unmarked;
    })
    (missing_cases row lits l) o least

pub checks_none : (row : List Bool) (o : Option ℕ) → Checks row o o []
checks_none row o lits least = rw append-nil least

pub checks_then : (row : List Bool) (a b c : Option ℕ) (xs ys : List ℕ) → Checks row a b xs → Checks row b c ys
    → Checks row a c (xs ++ ys)
checks_then row a b c xs ys first second lits least = rw (← append_assoc) (second (lits ++ xs) (first lits least))

pub checks_more : {X : Type 0} (f : X → ℕ) (xs : List X) (i : ℕ) (x : X) (row : List Bool) (a b c : Option ℕ) → i < length xs
    → x ≡ get_or xs i x
    → Checks row a b (map f (take i xs)) → Checks row b c (f x ∷ []) → Checks row a c (map f (take (i + 1) xs))
checks_more f xs i x row a b c within read first second =
    let last : f x ≡ f (get_or xs i x) = ap f read in
    rw (map_more f xs i x within, ← last) (checks_then row a b c (map f (take i xs)) (f x ∷ []) first second)

pub checks_lit : (xs : List ℕ) (i x : ℕ) (row : List Bool) (a b c : Option ℕ) → i < length xs → x ≡ get_or xs i x
    → Checks row a b (take i xs) → Checks row b c (x ∷ []) → Checks row a c (take (i + 1) xs)
checks_lit xs i x row a b c within read first second =
    let e : take i xs ++ x ∷ [] ≡ take (i + 1) xs = ap (λ y. take i xs ++ y ∷ []) read ∙ sym (take_more xs i x within) in
    subst (Checks row a c) e (checks_then row a b c (take i xs) (x ∷ []) first second)

pub checks_all : {X : Type 0} (f : List X → List ℕ) (xs : List X) (i : ℕ) (row : List Bool) (a b : Option ℕ) → length xs ≤ i
    → Checks row a b (f (take i xs)) → Checks row a b (f xs)
checks_all f xs i row a b all checks = let e = take_all i xs all in subst (λ ys. Checks row a b (f ys)) e checks

-- both right sides of one more gate
pub checks_gate : (gates : List AndGate) (i : ℕ) (gate : AndGate) (row : List Bool) (a b c d : Option ℕ) → i < length gates
    → gate ≡ get_or gates i gate
    → Checks row a b (rights (take i gates)) → Checks row b c (gate.rhs0 ∷ []) → Checks row c d (gate.rhs1 ∷ [])
    → Checks row a d (rights (take (i + 1) gates))
checks_gate gates i gate row a b c d within read first second third =
    let both = checks_then row b c d (gate.rhs0 ∷ []) (gate.rhs1 ∷ []) second third in
    let more = checks_then row a b d (rights (take i gates)) (gate.rhs0 ∷ gate.rhs1 ∷ []) first both in
    let e : rights (take i gates) ++ gate.rhs0 ∷ gate.rhs1 ∷ [] ≡ rights (take (i + 1) gates) =
    sym (ap rights (take_more gates i gate within)
    ∙ flat_map-append (λ (g : AndGate). g.rhs0 ∷ g.rhs1 ∷ []) (take i gates) (get_or gates i gate ∷ [])
    ∙ ap (λ (g : AndGate). rights (take i gates) ++ g.rhs0 ∷ g.rhs1 ∷ []) (sym read)) in
    rw (← e) more
