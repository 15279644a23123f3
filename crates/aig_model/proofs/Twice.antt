-- A variable that stands twice in a list stands at two places.
use Rattle.std.proofs.Common.{◌≡◌, ℕ, zero, suc, ◌+◌, ◌<◌, ◌≤◌, false, eqb, None, List, [], ◌∷◌, ◌++◌, length, get_or, replicate, map, ⊎_elim, ap, ◌∙◌, arith}
use Rattle.std.proofs.lemmas.List.{length-replicate, get_or-replicate, get_or_past}
use Rattle.std.proofs.lemmas.Bool.{cases_Bool, cases_lt, eqb-true, eq-eqb}
use Rattle.ja_base.specs.Literals.{bit, variable}
use Rattle.aig_model.specs.declared.netlist.Latch.{Latch}
use Rattle.aig_model.specs.declared.netlist.Parts.{Parts}
use Rattle.aig_model.specs.declared.definitions.Defined.{Defined}
use Rattle.aig_model.specs.Netlist.{gate_var, definitions}
use Rattle.aig_model.specs.Refusals.{netlist_of, IsDefinedTwice}
use Rattle.aig_model.specs.Definitions.{times, Marks, Adds, IsTableOf}
use Rattle.aig_model.proofs.LeastLemmas.{least_same}
use Rattle.aig_model.proofs.Marking.{one_if, times-cons, adds_then}

-- a place of the number
record Place (xs : List ℕ) (v : ℕ) : Type 0 where
  at : ℕ
  within : at < length xs
  is : get_or xs at 0 ≡ v

-- two places of the number
record Places (xs : List ℕ) (v : ℕ) : Type 0 where
  one : ℕ
  other : ℕ
  apart : one < other
  within : other < length xs
  one_is : get_or xs one 0 ≡ v
  other_is : get_or xs other 0 ≡ v

place_from_times : (xs : List ℕ) (v : ℕ) → 1 ≤ times xs v → Place xs v
place_from_times [] v some = absurd (omega arith)
place_from_times (x ∷ xs) v some =
    let c = times-cons x xs v in
    ⊎_elim
    (λ here. record { at = 0; within = omega arith; is = eqb-true x v here })
    (λ not.
    let none : one_if (eqb x v) ≡ 0 = ap one_if not in
    let p = place_from_times xs v (omega (arith, c, none)) in
    record { at = suc p.at; within = omega (arith, p.within); is = p.is })
    (cases_Bool (eqb x v))

places_from_times : (xs : List ℕ) (v : ℕ) → 2 ≤ times xs v → Places xs v
places_from_times [] v two = absurd (omega arith)
places_from_times (x ∷ xs) v two =
    let c = times-cons x xs v in
    ⊎_elim
    (λ here.
    let one : one_if (eqb x v) ≡ 1 = ap one_if here in
    let p = place_from_times xs v (omega (arith, c, one)) in
    record {
      one = 0;
      other = suc p.at;
      apart = omega arith;
      within = omega (arith, p.within);
      one_is = eqb-true x v here;
      other_is = p.is;
    })
    (λ not.
    let none : one_if (eqb x v) ≡ 0 = ap one_if not in
    let p = places_from_times xs v (omega (arith, c, none)) in
    record {
      one = suc p.one;
      other = suc p.other;
      apart = omega (arith, p.apart);
      within = omega (arith, p.within);
      one_is = p.one_is;
      other_is = p.other_is;
    })
    (cases_Bool (eqb x v))

times_from_place : (xs : List ℕ) (v at : ℕ) → at < length xs → get_or xs at 0 ≡ v → 1 ≤ times xs v
times_from_place [] v at within is = absurd (omega arith)
times_from_place (x ∷ xs) v zero within is =
    let c = times-cons x xs v in
    let one : one_if (eqb x v) ≡ 1 = ap one_if (eq-eqb x v is) in
    omega (arith, c, one)
times_from_place (x ∷ xs) v (suc at) within is =
    let c = times-cons x xs v in
    let some = times_from_place xs v at (omega arith) is in
    omega (arith, c, some)

times_from_places : (xs : List ℕ) (v one other : ℕ) → one < other → other < length xs → get_or xs one 0 ≡ v
    → get_or xs other 0 ≡ v → 2 ≤ times xs v
times_from_places [] v one other apart within one_is other_is = absurd (omega arith)
times_from_places (x ∷ xs) v one zero apart within one_is other_is = absurd (omega arith)
times_from_places (x ∷ xs) v zero (suc other) apart within one_is other_is =
    let c = times-cons x xs v in
    let first : one_if (eqb x v) ≡ 1 = ap one_if (eq-eqb x v one_is) in
    let some = times_from_place xs v other (omega arith) other_is in
    omega (arith, c, first, some)
times_from_places (x ∷ xs) v (suc one) (suc other) apart within one_is other_is =
    let c = times-cons x xs v in
    let two = times_from_places xs v one other (omega arith) (omega arith) one_is other_is in
    omega (arith, c, two)

none_marked : (n v : ℕ) → bit (replicate n false) v ≡ false
none_marked n v =
    ⊎_elim (λ lt. get_or-replicate n v false false lt)
    (λ past. get_or_past (replicate n false) v false (let e = length-replicate n false in omega (arith, e))) (cases_lt v n)

-- the table after the three lists of definitions
pub table_from_adds : (p : Parts) (start a b c : Defined) → start.row ≡ replicate (p.vars + 1) false → start.twice ≡ None
    → Adds start a (map variable p.inputs)
    → Adds a b (map (λ (k : Latch). variable k.lit) p.latches) → Adds b c (map gate_var p.gates) → IsTableOf p c
table_from_adds p start a b c row twice first second third =
    let xs = map variable p.inputs in
    let ys = map (λ (k : Latch). variable k.lit) p.latches in
    let zs = map gate_var p.gates in
    let all = adds_then start b c (xs ++ ys) zs (adds_then start a b xs ys first second) third in
    let begin : Marks [] start = record {
      marks = λ v. rw row (none_marked (p.vars + 1) v);
      twice = rw twice (λ v two. omega (arith, two));
    } in
    let m : Marks (definitions (netlist_of p)) c = all.marks [] begin in
    record {
      width = all.width ∙ rw row (length-replicate (p.vars + 1) false);
      marks = m.marks;
      twice = least_same (λ v. 2 ≤ times (definitions (netlist_of p)) v) (IsDefinedTwice p)
          (λ v two.
          let q = places_from_times (definitions (netlist_of p)) v two in
          record { one = q.one; other = q.other; apart = q.apart; within = q.within; one_is = q.one_is; other_is = q.other_is })
          (λ v t. times_from_places (definitions (netlist_of p)) v t.one t.other t.apart t.within t.one_is t.other_is) c.twice
          m.twice;
    }
