-- Below the literal that was found.
use Rattle.std.proofs.Common.{◌≡◌, ℕ, ◌+◌, ◌≤◌, true, false, List, [], ◌∷◌, ◌++◌, take, drop, Some, slice_get, inl, inr, sym, subst, ◌∙◌, ap, arith}
use Rattle.std.specs.List.{Contains}
use Rattle.std.proofs.lemmas.List.Elements.{Contains-push_cases, Contains-append_left}
use Rattle.std.proofs.lemmas.Option.{slice_get-get_or}
use Rattle.ja_base.specs.Literals.{negated}
use Rattle.ja_base.specs.Clauses.{IsSetOf}
use Rattle.ja_base.proofs.LiteralLemmas.{negated_twice}
use Rattle.sat_plain.specs.declared.place.Place.{Place}
use Rattle.sat_plain.specs.Trails.{lits_of}
use Rattle.sat_plain.specs.Derive.{Derived, IsDerived}
use Rattle.sat_plain.proofs.Members.{dropped_at, Contains-here, Contains-cases, Contains-none}
use Rattle.sat_plain.proofs.PlaceLemmas.{lits_at}
use Rattle.sat_plain.proofs.WalkLemmas.{taken_has}
use Rattle.sat_cdcl.specs.declared.analyze.Walk.{Walk}
use Rattle.sat_cdcl.specs.declared.analyze.Point.{Point}
use Rattle.sat_cdcl.specs.Walks.{IsDecided, IsPoint, IsLowering, IsAsserting}
use Rattle.sat_cdcl.proofs.PointLemmas.{dropped_has}

dropped_less : (xs : List ℕ) (p q l : ℕ) → p ≤ q → Contains (drop q xs) l → Contains (drop p xs) l
dropped_less xs p q l low h =
    let r = dropped_at xs q l h in
    dropped_has xs p r.0 l (omega (arith, r.1)) (slice_get-get_or xs r.0 l r.2 ∙ ap Some r.3)

-- in a list of one element
pub only_one : (x m : ℕ) (lits : List ℕ) → lits ≡ x ∷ [] → Contains lits m → m ≡ x
only_one x m lits e has =
    let P : List ℕ → Type 0 = λ v. Contains v m in
    elim (Contains-cases x m [] (subst P e has)) [
      | inl q ↦ sym q
      | inr k ↦ absurd (Contains-none m k)
    ]

pub lowering_first : (vars : ℕ) (list : List (List ℕ)) (places : List Place) (d : Derived) (point : Point)
    → IsPoint vars list places d point
    → IsLowering vars list places point.lit point.back (record { derivation = d; back = point.back; closed = false })
lowering_first vars list places d point h = record {
  derived = h.derived;
  low = omega arith;
  back = h.back;
  above = h.above;
  has = let P : List ℕ → Type 0 = λ v. Contains v (negated point.lit) in
      subst P (sym h.one) (Contains-here (negated point.lit) []);
  others = λ m has other. absurd (other (only_one (negated point.lit) m d.lits h.one has));
  alone = λ _. h.one;
}

-- a place that is passed, or resolved
pub lowering_same : (vars : ℕ) (list : List (List ℕ)) (places : List Place) (l p : ℕ) (walk next : Walk)
    → next.back ≡ walk.back → next.closed ≡ walk.closed → next.derivation.lits ≡ walk.derivation.lits
    → IsDerived vars list (lits_of places) p next.derivation → IsLowering vars list places l (p + 1) walk
    → IsLowering vars list places l p next
lowering_same vars list places l p walk next back closed lits derived h =
    let B : ℕ → Type 0 = IsDecided places in
    let A : ℕ → Type 0 = λ q. Contains (drop q (lits_of places)) l in
    let H : List ℕ → Type 0 = λ v. Contains v (negated l) in
    let low = h.low in
    record {
      derived = derived;
      low = omega arith;
      back = subst B (sym back) h.back;
      above = subst A (sym back) h.above;
      has = subst H (sym lits) h.has;
      others = λ m has other.
          let M : List ℕ → Type 0 = λ v. Contains v m in
          let T : ℕ → Type 0 = λ q. Contains (take q (lits_of places)) (negated m) in
          subst T (sym back) (h.others m (subst M lits has) other);
      alone = λ e. lits ∙ h.alone (sym closed ∙ e);
    }

-- a decision that is passed where no other literal was kept
pub lowering_back : (vars : ℕ) (list : List (List ℕ)) (places : List Place) (l p : ℕ) (walk next : Walk)
    → next.back ≡ p → walk.closed ≡ false → next.derivation.lits ≡ walk.derivation.lits → IsDecided places p
    → IsDerived vars list (lits_of places) p next.derivation → IsLowering vars list places l (p + 1) walk
    → IsLowering vars list places l p next
lowering_back vars list places l p walk next back closed lits decided derived h =
    let B : ℕ → Type 0 = IsDecided places in
    let A : ℕ → Type 0 = λ q. Contains (drop q (lits_of places)) l in
    let H : List ℕ → Type 0 = λ v. Contains v (negated l) in
    let low = h.low in
    let one : next.derivation.lits ≡ negated l ∷ [] = lits ∙ h.alone closed in
    record {
      derived = derived;
      low = omega arith;
      back = subst B (sym back) decided;
      above = subst A (sym back) (dropped_less (lits_of places) p walk.back l (omega arith) h.above);
      has = subst H (sym lits) h.has;
      others = λ m has other. absurd (other (only_one (negated l) m next.derivation.lits one has));
      alone = λ _. one;
    }

-- a literal that is kept
pub lowering_kept : (vars : ℕ) (list : List (List ℕ)) (places : List Place) (l p : ℕ) (place : Place) (walk next : Walk)
    → slice_get places p ≡ Some place → next.back ≡ walk.back → next.closed ≡ true
    → next.derivation.lits ≡ walk.derivation.lits ++ negated place.lit ∷ []
    → IsDerived vars list (lits_of places) p next.derivation → IsLowering vars list places l (p + 1) walk
    → IsLowering vars list places l p next
lowering_kept vars list places l p place walk next e back closed lits derived h =
    let B : ℕ → Type 0 = IsDecided places in
    let A : ℕ → Type 0 = λ q. Contains (drop q (lits_of places)) l in
    let H : List ℕ → Type 0 = λ v. Contains v (negated l) in
    let low = h.low in
    record {
      derived = derived;
      low = omega arith;
      back = subst B (sym back) h.back;
      above = subst A (sym back) h.above;
      has =
          subst H (sym lits)
          (Contains-append_left walk.derivation.lits (negated place.lit ∷ []) (negated l) h.has);
      others = λ m has other.
          let M : List ℕ → Type 0 = λ v. Contains v m in
          let T : ℕ → Type 0 = λ q. Contains (take q (lits_of places)) (negated m) in
          subst T (sym back) (elim (Contains-push_cases walk.derivation.lits (negated place.lit) m (subst M lits has)) [
            | inl old ↦ h.others m old other
            | inr new ↦
                let same : place.lit ≡ negated m = sym (negated_twice place.lit) ∙ ap negated new in
                let P : ℕ → Type 0 = Contains (take walk.back (lits_of places)) in
                subst P same (taken_has (lits_of places) p walk.back place.lit (lits_at places p place e) (omega arith))
          ]);
      alone = λ f. cc;
    }

-- at the end the clause forces the negation of the literal
pub asserting_of : (vars : ℕ) (list : List (List ℕ)) (places : List Place) (l : ℕ) (clause : List ℕ) (walk : Walk)
    → IsSetOf walk.derivation.lits clause → IsLowering vars list places l 0 walk
    → IsAsserting places clause walk.back (negated l)
asserting_of vars list places l clause walk set_of h = record {
  decided = h.back;
  reason = record {
    has = (set_of.members (negated l)).1 h.has;
    others = λ m has other. h.others m ((set_of.members m).0 has) other;
  };
  above = let P : ℕ → Type 0 = Contains (drop walk.back (lits_of places)) in subst P (sym (negated_twice l)) h.above;
}
