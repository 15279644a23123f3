-- What a query starts with.
use Rattle.std.proofs.Common.{◌≡◌, ℕ, List, [], ◌∷◌, ◌++◌, get_or, take, Option, Some, None, inl, inr, refl, sym, subst, ◌∙◌, ap, arith}
use Rattle.std.specs.List.{All, Contains, list_any}
use Rattle.std.proofs.Math.Seq.{take-length}
use Rattle.std.proofs.lemmas.Option.{none-some}
use Rattle.std.proofs.lemmas.List.Elements.{All-push, All-cons, All-nil, Contains-push, Contains-push_cases, Contains-append_left, Contains-get_or}
use Rattle.std.proofs.lemmas.List.Recursion.{or_at}
use Rattle.ja_base.specs.Literals.{negated}
use Rattle.ja_base.specs.Clauses.{IsBelow, is_part, has_literal}
use Rattle.ja_base.proofs.ClauseLemmas.{is_part_decides, has_literal_decides}
use Rattle.refute_check.specs.Refuted.{has_both_signs}
use Rattle.refute_check.specs.declared.lines.Refuted.{Refuted}
use Rattle.sat_plain.specs.declared.answer.SatAnswer.{SatAnswer}
use Rattle.sat_plain.specs.declared.answer.SatAnswer.TheVariants.{Sat, Unsat, Spent, Stopped, Memory}
use Rattle.sat_plain.specs.declared.place.Place.{Place}
use Rattle.sat_plain.specs.declared.query.Query.{Query}
use Rattle.sat_plain.specs.Answer.{IsAnswer, clauses_of, ExtraIsBelow}
use Rattle.sat_plain.specs.Trails.{AreForced, lits_of}
use Rattle.sat_plain.specs.Turns.{IsSearch}
use Rattle.sat_plain.specs.Outcomes.{IsFound}
use Rattle.sat_plain.specs.Starts.{AreAssumed, IsReadyFor, IsContradiction}
use Rattle.sat_plain.proofs.Members.{Contains-here, Contains-there}
use Rattle.sat_plain.proofs.PlaceLemmas.{slice_get_push, lits_push, lits_length}

pub assumed_none : AreAssumed [] []
assumed_none = record {
  decided = λ p place e. absurd (none-some place e);
  all = λ l has. has;
  only = λ l has. has;
}

pub assumed_again : (under : List ℕ) (places : List Place) (l : ℕ) → Contains (lits_of places) l → AreAssumed under places
    → AreAssumed (under ++ l ∷ []) places
assumed_again under places l here h = record {
  decided = h.decided;
  all = λ m has.
      elim (Contains-push_cases under l m has) [
        | inl k ↦ h.all m k
        | inr q ↦ let P : ℕ → Type 0 = Contains (lits_of places) in subst P q here
      ];
  only = λ m has. Contains-append_left under (l ∷ []) m (h.only m has);
}

pub assumed_push : (under : List ℕ) (places : List Place) (l : ℕ) → AreAssumed under places
    → AreAssumed (under ++ l ∷ []) (places ++ record { lit = l; reason = None } ∷ [])
assumed_push under places l h =
    let x : Place = record { lit = l; reason = None } in
    let lits : lits_of (places ++ x ∷ []) ≡ lits_of places ++ l ∷ [] = lits_push places x in
    record {
      decided = λ p place e.
          elim (slice_get_push places x p place e) [
            | inl old ↦ h.decided p place old
            | inr last ↦ ap (λ (k : Place). k.reason) last.1
          ];
      all = λ m has.
          let P : List ℕ → Type 0 = λ v. Contains v m in
          subst P (sym lits) (elim (Contains-push_cases under l m has) [
            | inl k ↦ Contains-append_left (lits_of places) (l ∷ []) m (h.all m k)
            | inr q ↦ let Q : ℕ → Type 0 = Contains (lits_of places ++ l ∷ []) in subst Q q (Contains-push (lits_of places) l)
          ]);
      only = λ m has.
          let P : List ℕ → Type 0 = λ v. Contains v m in
          elim (Contains-push_cases (lits_of places) l m (subst P lits has)) [
            | inl k ↦ Contains-append_left under (l ∷ []) m (h.only m k)
            | inr q ↦ let Q : ℕ → Type 0 = Contains (under ++ l ∷ []) in subst Q q (Contains-push under l)
          ];
    }

-- what is decided needs no clause
pub forced_by_none : (clauses : List (List ℕ)) (under : List ℕ) (places : List Place) → AreAssumed under places
    → AreForced clauses places
forced_by_none clauses under places h = record {
  at = λ p n place e r. absurd (none-some n (sym (h.decided p place e) ∙ r));
}

pub below_of : (vars : ℕ) (clauses : List (List ℕ)) (extra : Option (List ℕ)) → All (IsBelow vars) clauses
    → ExtraIsBelow vars extra → All (IsBelow vars) (clauses_of clauses extra)
below_of vars clauses None all small = all
below_of vars clauses (Some clause) all small = All-push (IsBelow vars) clauses clause all small

pub search_of : (vars : ℕ) (under : List ℕ) (query : Query) (clauses list : List (List ℕ)) (extra : Option (List ℕ))
    → IsReadyFor vars under query → All (IsBelow vars) clauses → ExtraIsBelow vars extra → list ≡ clauses_of clauses extra
    → IsSearch query.trail.vars query.assumed query.trail.places list
search_of vars under query clauses list extra h all small e =
    let P : List (List ℕ) → Type 0 = All (IsBelow vars) in
    let Q : ℕ → Type 0 = λ n. All (IsBelow n) list in
    record {
      below = subst Q (sym h.vars_are) (subst P (sym e) (below_of vars clauses extra all small));
      forced = forced_by_none list under query.trail.places h.places;
      base = omega (arith, h.assumed);
    }

-- what is found under the places of `under`, as the answer of the query
pub answer_of : (vars : ℕ) (under : List ℕ) (query : Query) (list clauses : List (List ℕ)) (answer : SatAnswer)
    → IsReadyFor vars under query → list ≡ clauses
    → IsFound query.trail.vars list (take query.assumed (lits_of query.trail.places)) answer
    → IsAnswer vars clauses under answer
answer_of vars under query list clauses answer h e found =
    let P : ℕ → Type 0 = λ n. IsFound n list (take query.assumed (lits_of query.trail.places)) answer in
    let Q : List (List ℕ) → Type 0 = λ v. IsFound vars v (take query.assumed (lits_of query.trail.places)) answer in
    let R : List ℕ → Type 0 = λ v. IsFound vars clauses v answer in
    let lits : take query.assumed (lits_of query.trail.places) ≡ lits_of query.trail.places =
    ap (λ n. take n (lits_of query.trail.places)) (h.assumed ∙ sym (lits_length query.trail.places))
    ∙ take-length (lits_of query.trail.places) in
    go answer (subst R lits (subst Q e (subst P h.vars_are found)))
  where
    go : (a : SatAnswer) → IsFound vars clauses (lits_of query.trail.places) a → IsAnswer vars clauses under a
    go (Sat row) f = record {
      width = f.width;
      clauses_hold = f.clauses_hold;
      under_holds = λ k d less. f.lits_hold (get_or under k d) (h.places.all (get_or under k d) (Contains-get_or under k d less));
    }
    go (Unsat refuted) f = record {
      part = (is_part_decides refuted.core under).1 (λ k d less. h.places.only (get_or refuted.core k d) (f.part k d less));
      accepted = f.accepted;
      covered = f.covered;
    }
    go Spent f = tt
    go Stopped f = tt
    go Memory f = tt

pub contradiction_of : (under : List ℕ) (l : ℕ) (refuted : Refuted) → refuted.core ≡ l ∷ negated l ∷ []
    → refuted.lines ≡ [] → Contains under l → Contains under (negated l) → IsContradiction under refuted
contradiction_of under l refuted core lines first second = record {
  part = ap (λ v. is_part v under) core
      ∙ (is_part_decides (l ∷ negated l ∷ []) under).1 (All-both l (negated l) first second);
  both = ap has_both_signs core
      ∙ or_at (list_any (λ m. has_literal (l ∷ negated l ∷ []) (negated m))) (λ m. has_literal (l ∷ negated l ∷ []) (negated m))
      refl (λ _ _. refl) (l ∷ negated l ∷ []) 0 0 (omega arith)
      ((has_literal_decides (l ∷ negated l ∷ []) (negated l)).1
      (Contains-there l (negated l) (negated l ∷ []) (Contains-here (negated l) [])));
  lines = lines;
}
  where
    All-both : (x y : ℕ) → Contains under x → Contains under y → All (Contains under) (x ∷ y ∷ [])
    All-both x y first second =
        All-cons (Contains under) x (y ∷ []) first (All-cons (Contains under) y [] second (All-nil (Contains under)))
