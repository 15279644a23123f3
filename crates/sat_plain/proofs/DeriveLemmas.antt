-- The steps of a walk down a trail but one, and how the code has them.
use Rattle.std.proofs.Common.{◌≡◌, ℕ, ◌+◌, ◌*◌, ◌<◌, Bool, true, false, List, [], ◌∷◌, ◌++◌, length, take, drop, Some, slice_get, inl, inr, sym, subst, ◌∙◌, ap, arith}
use Rattle.std.specs.List.{Contains}
use Rattle.std.proofs.lemmas.List.{length-replicate}
use Rattle.std.proofs.Math.Seq.{take-length}
use Rattle.std.proofs.lemmas.List.Elements.{All-contains, Contains-push, Contains-push_cases, Contains-append_left}
use Rattle.ja_base.specs.Literals.{bit, variable, negated}
use Rattle.ja_base.specs.Clauses.{IsBelow}
use Rattle.ja_base.proofs.LiteralLemmas.{negated_within, negated_twice}
use Rattle.ja_base.specs.Trails.{open_lits, AreFalse}
use Rattle.refute_check.specs.Lines.{outcome, judged, found_of, found_at, assumed, unknown}
use Rattle.refute_check.specs.declared.found.Found.TheVariants.{False}
use Rattle.sat_plain.specs.Derive.{Derived, IsDerived}
use Rattle.sat_plain.proofs.Members.{Contains-none, known_more, known_less, known_here, from_here, from_less}
use Rattle.sat_plain.proofs.AssumedLemmas.{no_open, assumed_is_negated, negated_is_assumed, length_assumed, bit_unknown}

pub begun : (vars number : ℕ) (clause : List ℕ) (clauses : List (List ℕ)) (trail : List ℕ) → IsBelow vars clause
    → slice_get clauses number ≡ Some clause → AreFalse trail clause
    → IsDerived vars clauses trail (length trail)
    (record { marks = assumed clause (unknown vars); lits = []; hints = number ∷ [] })
begun vars number clause clauses trail below there wrong = record {
  width = length_assumed clause (unknown vars) ∙ length-replicate (2 * vars) false;
  known = λ l e.
      elim (assumed_is_negated clause (unknown vars) l e) [
        | inl has ↦
            let P : List ℕ → Type 0 = λ v. Contains v l in
            let Q : ℕ → Type 0 = Contains trail in
            inl (subst P (sym (take-length trail)) (subst Q (negated_twice l) (wrong.each (negated l) has)))
        | inr f ↦ absurd (bit_unknown (2 * vars) l f)
      ];
  marked = λ m has. absurd (Contains-none m has);
  from = λ m has. absurd (Contains-none m has);
  accepted = λ row at ready.
      let none : open_lits row clause ≡ [] =
      no_open row clause (λ m has. ready.marked (negated m)
      (negated_is_assumed clause (unknown vars) m has
      (let small : variable m < vars = All-contains (λ l. variable l < vars) clause m below has in
      omega (arith, negated_within m vars small, length-replicate (2 * vars) false)))) in
      let found : found_at row (slice_get clauses number) ≡ False = ap (found_at row) there ∙ ap (found_of row) none in
      ap (λ f. (judged f row at [] (λ next. outcome clauses [] next (at + 1))).1) found;
}

-- a place that is not marked
pub skipped : (vars : ℕ) (clauses : List (List ℕ)) (trail : List ℕ) (p l : ℕ) (d : Derived) → slice_get trail p ≡ Some l
    → bit d.marks l ≡ false → IsDerived vars clauses trail (p + 1) d → IsDerived vars clauses trail p d
skipped vars clauses trail p l d there free h = record {
  width = h.width;
  known = λ m e.
      elim (h.known m e) [
        | inl k ↦ elim (known_more trail p l m there k) [
          | inl k' ↦ inl k'
          | inr q ↦ let f : bit d.marks m ≡ false = ap (bit d.marks) (sym q) ∙ free in cc
        ]
        | inr k ↦ inr k
      ];
  marked = h.marked;
  from = λ m has. from_less trail p l (negated m) there (h.from m has);
  accepted = λ row at ready.
      h.accepted row at (record {
        width = ready.width;
        marked = ready.marked;
        only = λ m e. elim (ready.only m e) [ inl k ↦ inl (known_less trail p l m there k) | inr k ↦ inr k ];
      });
}

-- a place that is kept
pub kept_one : (vars : ℕ) (clauses : List (List ℕ)) (trail : List ℕ) (p l : ℕ) (d : Derived) → slice_get trail p ≡ Some l
    → bit d.marks l ≡ true → IsDerived vars clauses trail (p + 1) d
    → IsDerived vars clauses trail p (record d { lits = d.lits ++ negated l ∷ [] })
kept_one vars clauses trail p l d there mark h = record {
  width = h.width;
  known = λ m e.
      elim (h.known m e) [
        | inl k ↦ elim (known_more trail p l m there k) [
          | inl k' ↦ inl k'
          | inr q ↦
              let P : ℕ → Type 0 = λ x. Contains (d.lits ++ negated l ∷ []) (negated x) in
              inr (subst P q (Contains-push d.lits (negated l)))
        ]
        | inr k ↦ inr (Contains-append_left d.lits (negated l ∷ []) (negated m) k)
      ];
  marked = λ m has.
      elim (Contains-push_cases d.lits (negated l) m has) [
        | inl k ↦ h.marked m k
        | inr q ↦ ap (λ x. bit d.marks (negated x)) (sym q) ∙ ap (bit d.marks) (negated_twice l) ∙ mark
      ];
  from = λ m has.
      elim (Contains-push_cases d.lits (negated l) m has) [
        | inl k ↦ from_less trail p l (negated m) there (h.from m k)
        | inr q ↦
            let P : ℕ → Type 0 = Contains (drop p trail) in
            subst P (sym (negated_twice l) ∙ ap negated q) (from_here trail p l there)
      ];
  accepted = λ row at ready.
      h.accepted row at (record {
        width = ready.width;
        marked = ready.marked;
        only = λ m e.
            elim (ready.only m e) [
              | inl k ↦ inl (known_less trail p l m there k)
              | inr k ↦ elim (Contains-push_cases d.lits (negated l) (negated m) k) [
                | inl k' ↦ inr k'
                | inr q ↦
                    let P : ℕ → Type 0 = Contains (take (p + 1) trail) in
                    let same : l ≡ m = sym (negated_twice l) ∙ ap negated q ∙ negated_twice m in
                    inl (subst P same (known_here trail p l there))
              ]
            ];
      });
}

pub same_derived : (m n : List Bool) (k l g h : List ℕ) → m ≡ n → k ≡ l → g ≡ h
    → let a : Derived = record { marks = m; lits = k; hints = g } in
    let b : Derived = record { marks = n; lits = l; hints = h } in a ≡ b
same_derived m n k l g h e f q = cc
