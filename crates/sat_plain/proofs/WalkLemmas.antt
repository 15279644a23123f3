-- The highest decision that a walk kept.
use Rattle.std.proofs.Common.{◌≡◌, ℕ, ◌+◌, ◌*◌, ◌<◌, Bool, List, [], ◌∷◌, ◌++◌, length, get_or, take, Option, Some, None, unwrap_or, slice_get, inl, inr, refl, sym, subst, ◌∙◌, ap, arith}
use Rattle.std.specs.List.{All, Contains}
use Rattle.std.proofs.lemmas.List.{length-take, get_or-take}
use Rattle.std.proofs.lemmas.Option.{get_or_from_slice_get, slice_get_within}
use Rattle.std.proofs.lemmas.List.Elements.{Contains-push, Contains-push_cases, Contains-append_left}
use Rattle.ja_base.specs.Literals.{negated, variable}
use Rattle.ja_base.specs.Clauses.{IsSetOf, IsBelow}
use Rattle.ja_base.proofs.LiteralLemmas.{negated_twice, literal_within, negated_within}
use Rattle.refute_check.specs.Spans.{Spans}
use Rattle.sat_plain.specs.declared.place.Place.{Place}
use Rattle.ja_base.specs.Trails.{IsTrail}
use Rattle.sat_plain.specs.Trails.{lits_of}
use Rattle.sat_plain.specs.Derive.{IsWalked}
use Rattle.sat_plain.specs.Walks.{IsLast}
use Rattle.sat_plain.proofs.Members.{Contains-here, Contains-cases, Contains-none}
use Rattle.sat_plain.proofs.PlaceLemmas.{lits_at}

pub last_lower : (places : List Place) (p : ℕ) (lits : List ℕ) (o : Option ℕ) → IsLast places (p + 1) lits o
    → IsLast places p lits o
last_lower places p lits None h = h
last_lower places p lits (Some q) h = (omega (arith, h.0), h.1)

pub taken_has : (xs : List ℕ) (p q l : ℕ) → slice_get xs p ≡ Some l → p < q → Contains (take q xs) l
taken_has xs p q l e low =
    let less : p < length xs = slice_get_within xs p l e in
    (p, omega (arith, length-take q xs), get_or-take q xs p l low ∙ get_or_from_slice_get xs p l l e)

pub last_kept : (places : List Place) (p : ℕ) (place : Place) (lits : List ℕ) (o : Option ℕ)
    → slice_get places p ≡ Some place → place.reason ≡ None → IsLast places (p + 1) lits o
    → IsLast places p (lits ++ negated place.lit ∷ []) (Some (unwrap_or o p))
last_kept places p place lits None e decided h = (
  omega arith,
  record {
    place = place;
    is = e;
    decided = decided;
    reason = record {
      has = Contains-push lits (negated place.lit);
      others = λ m has other.
          let P : List ℕ → Type 0 = λ v. Contains (v ++ negated place.lit ∷ []) m in
          absurd (elim (Contains-cases (negated place.lit) m [] (subst P h has)) [
            | inl q ↦ other (sym q)
            | inr k ↦ Contains-none m k
          ]);
    };
  },
)
last_kept places p place lits (Some q) e decided h =
    let cut = h.1 in (
      omega (arith, h.0),
      record {
        place = cut.place;
        is = cut.is;
        decided = cut.decided;
        reason = record {
          has = Contains-append_left lits (negated place.lit ∷ []) (negated cut.place.lit) cut.reason.has;
          others = λ m has other.
              elim (Contains-push_cases lits (negated place.lit) m has) [
                | inl k ↦ cut.reason.others m k other
                | inr f ↦
                    let same : place.lit ≡ negated m = sym (negated_twice place.lit) ∙ ap negated f in
                    let P : ℕ → Type 0 = Contains (take q (lits_of places)) in
                    subst P same (taken_has (lits_of places) p q place.lit (lits_at places p place e) (omega (arith, h.0)))
              ];
        };
      },
    )

no_members : (xs : List ℕ) → ((m : ℕ) → Contains xs m → ⊥) → xs ≡ []
no_members [] h = refl
no_members (x ∷ xs) h = absurd (h x (Contains-here x xs))

-- the same for the clause of these literals
pub last_set : (places : List Place) (p : ℕ) (lits clause : List ℕ) (o : Option ℕ) → IsSetOf lits clause
    → IsLast places p lits o → IsLast places p clause o
last_set places p lits clause None set_of h =
    no_members clause (λ m has.
    let P : List ℕ → Type 0 = λ v. Contains v m in Contains-none m (subst P h ((set_of.members m).0 has)))
last_set places p lits clause (Some q) set_of h =
    let cut = h.1 in (
      h.0,
      record {
        place = cut.place;
        is = cut.is;
        decided = cut.decided;
        reason = record {
          has = (set_of.members (negated cut.place.lit)).1 cut.reason.has;
          others = λ m has other. cut.reason.others m ((set_of.members m).0 has) other;
        };
      },
    )

pub walked_of : (vars : ℕ) (values : List Bool) (lits : List ℕ) → IsTrail vars values lits → IsWalked vars lits
walked_of vars values lits is = record { below = is.below; apart = is.apart }

pub place_below : (vars : ℕ) (values : List Bool) (places : List Place) (p : ℕ) (place : Place)
    → IsTrail vars values (lits_of places) → slice_get places p ≡ Some place → variable place.lit < vars
place_below vars values places p place is e =
    let f : slice_get (lits_of places) p ≡ Some place.lit = lits_at places p place e in
    let P : ℕ → Type 0 = λ k. variable k < vars in
    let b = is.below in
    subst P (get_or_from_slice_get (lits_of places) p place.lit place.lit f)
    (b p place.lit (slice_get_within (lits_of places) p place.lit f))

pub spans_of : (vars n : ℕ) (clause : List ℕ) → n ≡ 2 * vars → IsBelow vars clause → Spans n clause
spans_of vars n clause e below = λ k d less.
    let small : variable (get_or clause k d) < vars = below k d less in
    (omega (arith, literal_within (get_or clause k d) vars small), omega (arith, negated_within (get_or clause k d) vars small))

pub below_at : (vars : ℕ) (list : List (List ℕ)) (n : ℕ) (clause : List ℕ) → All (IsBelow vars) list
    → slice_get list n ≡ Some clause → IsBelow vars clause
below_at vars list n clause all e =
    let P : List ℕ → Type 0 = IsBelow vars in
    subst P (get_or_from_slice_get list n clause clause e) (all n clause (slice_get_within list n clause e))
