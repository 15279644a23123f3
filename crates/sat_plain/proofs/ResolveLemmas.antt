-- The step of a walk that resolves a place.
use Rattle.std.proofs.Common.{◌≡◌, ℕ, ◌+◌, ◌*◌, ◌<◌, Bool, true, false, cond, List, [], ◌∷◌, ◌++◌, length, set, take, reverse, Some, None, slice_get, inl, inr, refl, sym, subst, ◌∙◌, ap, arith}
use Rattle.std.specs.List.{Contains}
use Rattle.std.specs.List.Sorted.{IsStrictlyIncreasing}
use Rattle.std.proofs.lemmas.Bool.Decides.{eqb_tells}
use Rattle.std.proofs.lemmas.List.{length-set, reverse-append}
use Rattle.std.proofs.lemmas.List.Elements.{All-contains}
use Rattle.std.proofs.lemmas.Option.{get_or_from_slice_get, slice_get_within}
use Rattle.ja_base.specs.Literals.{bit, variable, negated}
use Rattle.ja_base.proofs.LiteralLemmas.{literal_within, negated_within, variable_negated, negated_twice}
use Rattle.ja_base.proofs.ClauseLemmas.{Ascends-from_increasing}
use Rattle.refute_check.specs.Lines.{outcome, judged, found_of, found_at, assumed}
use Rattle.refute_check.specs.declared.found.Found.TheVariants.{Forces, Other}
use Rattle.ja_base.specs.Trails.{IsReason}
use Rattle.sat_plain.specs.Derive.{Derived, resolved_marks, IsKnown, IsReady, IsDerived, IsWalked}
use Rattle.sat_plain.proofs.Members.{known_more, known_less, known_here, from_less, taken_at, dropped_at, taken_is_on}
use Rattle.sat_plain.proofs.TrailLemmas.{bit_set_same, bit_set_other}
use Rattle.std.proofs.lemmas.Bool.{false_from_ne_true}
use Rattle.sat_plain.proofs.AssumedLemmas.{one_open, assumed_is_negated, stays_assumed, negated_is_assumed, length_assumed}

-- the walk at a place that is resolved
record Resolving (vars : ℕ) (clauses : List (List ℕ)) (trail : List ℕ) (p l number : ℕ) (clause : List ℕ)
    (d : Derived) : Type 0 where
  there : slice_get trail p ≡ Some l
  given : slice_get clauses number ≡ Some clause
  up : IsStrictlyIncreasing clause
  reason : IsReason (take p trail) l clause
  walked : IsWalked vars trail
  derived : IsDerived vars clauses trail (p + 1) d

module _ (vars : ℕ) (clauses : List (List ℕ)) (trail : List ℕ) (p l number : ℕ) (clause : List ℕ) (d : Derived)
    (h : Resolving vars clauses trail p l number clause d) where
  within : p < length trail
  within = slice_get_within trail p l h.there

  small : variable l < vars
  small =
      let P : ℕ → Type 0 = λ k. variable k < vars in
      subst P (get_or_from_slice_get trail p l l h.there) (let b = h.walked.below in b p l within)

  lower : (m : ℕ) → Contains (take p trail) m → variable m ≡ variable l → ⊥
  lower m has e =
      let r = taken_at trail p m has in
      let apart = h.walked.apart in
      apart r.0 p m r.1 within
      (ap variable r.3 ∙ e ∙ sym (ap variable (get_or_from_slice_get trail p l m h.there)))

  higher : (m : ℕ) → Contains d.lits m → variable m ≡ variable l → ⊥
  higher m has e =
      let r = dropped_at trail (p + 1) (negated m) (h.derived.from m has) in
      let apart = h.walked.apart in
      apart p r.0 (negated m) (omega (arith, r.1)) r.2
      (ap variable (get_or_from_slice_get trail p l (negated m) h.there) ∙ sym e ∙ sym (variable_negated m)
      ∙ sym (ap variable r.3))

  not_known : (m : ℕ) → IsKnown trail p d.lits m → variable m ≡ variable l → ⊥
  not_known m (inl k) e = lower m k e
  not_known m (inr k) e = higher (negated m) k (variable_negated m ∙ e)

  other_marks : (m : ℕ) → (m ≡ l → ⊥) → (m ≡ negated l → ⊥)
      → bit (resolved_marks clause l d.marks) m ≡ bit (assumed clause d.marks) m
  other_marks m first second =
      bit_set_other (set (assumed clause d.marks) l false) (negated l) m false second
      ∙ bit_set_other (assumed clause d.marks) l m false first

  width_after : length (resolved_marks clause l d.marks) ≡ length d.marks
  width_after =
      length-set (set (assumed clause d.marks) l false) (negated l) false ∙ length-set (assumed clause d.marks) l false
      ∙ length_assumed clause d.marks

  -- what is marked afterwards was marked, or is the negation of another literal of the clause
  still_marked : (m : ℕ) → bit (resolved_marks clause l d.marks) m ≡ true
      → (m ≡ l → ⊥) × (m ≡ negated l → ⊥) × (bit (assumed clause d.marks) m ≡ true)
  still_marked m e =
      let wide : length d.marks ≡ 2 * vars = h.derived.width in
      let all : length (assumed clause d.marks) ≡ length d.marks = length_assumed clause d.marks in
      let one : length (set (assumed clause d.marks) l false) ≡ length (assumed clause d.marks) =
      length-set (assumed clause d.marks) l false in
      let second : m ≡ negated l → ⊥ =
      λ q.
      let f : bit (resolved_marks clause l d.marks) m ≡ false =
      ap (bit (resolved_marks clause l d.marks)) q
      ∙ bit_set_same (set (assumed clause d.marks) l false) (negated l) false
      (omega (arith, negated_within l vars small)) in
      cc in
      let first : m ≡ l → ⊥ =
      λ q.
      let f : bit (resolved_marks clause l d.marks) m ≡ false =
      bit_set_other (set (assumed clause d.marks) l false) (negated l) m false second
      ∙ ap (bit (set (assumed clause d.marks) l false)) q
      ∙ bit_set_same (assumed clause d.marks) l false (omega (arith, literal_within l vars small)) in
      cc in
      (first, second, sym (other_marks m first second) ∙ e)

  known_after : (m : ℕ) → bit (resolved_marks clause l d.marks) m ≡ true → IsKnown trail p d.lits m
  known_after m e =
      let r = still_marked m e in
      elim (assumed_is_negated clause d.marks m r.2) [
        | inl has ↦
            let P : ℕ → Type 0 = Contains (take p trail) in
            inl (subst P (negated_twice m) (h.reason.others (negated m) has
            (λ q. r.1 (sym (negated_twice m) ∙ ap negated q))))
        | inr f ↦ elim (h.derived.known m f) [
          | inl k ↦ elim (known_more trail p l m h.there k) [ inl k' ↦ inl k' | inr q ↦ absurd (r.0 (sym q)) ]
          | inr k ↦ inr k
        ]
      ]

  marked_after : (m : ℕ) → Contains d.lits m → bit (resolved_marks clause l d.marks) (negated m) ≡ true
  marked_after m has =
      other_marks (negated m) (λ q. higher m has (sym (variable_negated m) ∙ ap variable q))
      (λ q. higher m has (sym (variable_negated m) ∙ ap variable q ∙ variable_negated l))
      ∙ stays_assumed clause d.marks (negated m) (h.derived.marked m has)

  module _ (row : List Bool)
      (ready : IsReady trail p (record { marks = resolved_marks clause l d.marks; lits = d.lits; hints = d.hints ++ number ∷ [] })
      row) where
    wrong : (m : ℕ) → Contains clause m → (m ≡ l → ⊥) → bit row (negated m) ≡ true
    wrong m has other =
        let below : Contains (take p trail) (negated m) = h.reason.others m has other in
        let on : variable (negated m) < vars =
        All-contains (λ k. variable k < vars) trail (negated m) h.walked.below (taken_is_on trail p (negated m) below) in
        let wide : length d.marks ≡ 2 * vars = h.derived.width in
        ready.marked (negated m)
        (other_marks (negated m) (λ q. lower (negated m) below (ap variable q))
        (λ q. lower (negated m) below (ap variable q ∙ variable_negated l))
        ∙ negated_is_assumed clause d.marks m has (omega (arith, literal_within (negated m) vars on)))

    unset : bit row l ≡ false
    unset = false_from_ne_true (bit row l) (λ e. not_known l (ready.only l e) refl)

    free : bit row (negated l) ≡ false
    free = false_from_ne_true (bit row (negated l)) (λ e. not_known (negated l) (ready.only (negated l) e) (variable_negated l))

    found : found_at row (slice_get clauses number) ≡ Forces l
    found =
        ap (found_at row) h.given
        ∙ ap (found_of row) (one_open row l clause (Ascends-from_increasing clause h.up) h.reason.has free wrong)
        ∙ ap (λ b. cond b Other (Forces l)) unset

    ready_before : IsReady trail (p + 1) d (set row l true)
    ready_before = record {
      width = length-set row l true ∙ ready.width ∙ width_after;
      marked = λ m e.
          elim (eqb_tells m l) [
            | inl same ↦
                let wide : length d.marks ≡ 2 * vars = h.derived.width in
                let all : length row ≡ length d.marks = ready.width ∙ width_after in
                ap (bit (set row l true)) same.1
                ∙ bit_set_same row l true (omega (arith, literal_within l vars small))
            | inr other ↦
                let second : m ≡ negated l → ⊥ =
                λ q.
                elim (h.derived.known m e) [
                  | inl k ↦ elim (known_more trail p l m h.there k) [
                    | inl k' ↦ lower m k' (ap variable q ∙ variable_negated l)
                    | inr q' ↦ other.1 (sym q')
                  ]
                  | inr k ↦ higher (negated m) k (variable_negated m ∙ ap variable q ∙ variable_negated l)
                ] in
                bit_set_other row l m true other.1
                ∙ ready.marked m (other_marks m other.1 second ∙ stays_assumed clause d.marks m e)
          ];
      only = λ m e.
          elim (eqb_tells m l) [
            | inl same ↦
                let P : ℕ → Type 0 = Contains (take (p + 1) trail) in
                inl (subst P (sym same.1) (known_here trail p l h.there))
            | inr other ↦ elim (ready.only m (sym (bit_set_other row l m true other.1) ∙ e)) [
              | inl k ↦ inl (known_less trail p l m h.there k)
              | inr k ↦ inr k
            ]
          ];
    }

  accepted_after : (row : List Bool) (at : ℕ)
      → IsReady trail p (record { marks = resolved_marks clause l d.marks; lits = d.lits; hints = d.hints ++ number ∷ [] }) row
      → (outcome clauses (reverse (d.hints ++ number ∷ [])) row at).1 ≡ None
  accepted_after row at ready =
      ap (λ v. (outcome clauses v row at).1) (reverse-append d.hints (number ∷ []))
      ∙ ap (λ f. (judged f row at (reverse d.hints) (λ next. outcome clauses (reverse d.hints) next (at + 1))).1)
      (found row ready)
      ∙ h.derived.accepted (set row l true) (at + 1) (ready_before row ready)

pub resolved : (vars : ℕ) (clauses : List (List ℕ)) (trail : List ℕ) (p l number : ℕ) (clause : List ℕ) (d : Derived)
    → slice_get trail p ≡ Some l → slice_get clauses number ≡ Some clause → IsStrictlyIncreasing clause
    → IsReason (take p trail) l clause → IsWalked vars trail → IsDerived vars clauses trail (p + 1) d
    → IsDerived vars clauses trail p
    (record {
      marks = set (set (assumed clause d.marks) l false) (negated l) false;
      lits = d.lits;
      hints = d.hints ++ number ∷ [];
    })
resolved vars clauses trail p l number clause d there given up reason walked derived =
    let h : Resolving vars clauses trail p l number clause d =
    record { there = there; given = given; up = up; reason = reason; walked = walked; derived = derived } in
    record {
      width = width_after vars clauses trail p l number clause d h ∙ derived.width;
      known = known_after vars clauses trail p l number clause d h;
      marked = marked_after vars clauses trail p l number clause d h;
      from = λ m has. from_less trail p l (negated m) there (derived.from m has);
      accepted = accepted_after vars clauses trail p l number clause d h;
    }
