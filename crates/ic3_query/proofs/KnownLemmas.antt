-- What is known stays inductive where clauses come, and becomes part of the closed list.
use Rattle.std.proofs.Common.{◌≡◌, ℕ, Bool, true, false, List, [], ◌∷◌, ◌++◌, get_or, refl, sym, subst, arith}
use Rattle.std.specs.Bool.{OnTrue}
use Rattle.std.specs.List.{list_any, All}
use Rattle.std.proofs.lemmas.Bool.{both_ways}
use Rattle.std.specs.Prelude.{Contains}
use Rattle.std.proofs.lemmas.List.{append-nil, append_assoc}
use Rattle.std.proofs.lemmas.List.Elements.{All-append, All-push, All-nil, All-cons, All-contains, Contains-get_or, Contains-append_left, Contains-append_right}
use Rattle.ja_base.specs.Circuit.{Circuit, Problem}
use Rattle.ja_base.specs.ClauseSets.{joined}
use Rattle.ja_base.specs.Valuation.{next_state}
use Rattle.ja_base.specs.Invariants.{latch_value, MeetsClauses, IsInductive}
use Rattle.ja_base.proofs.JoinLemmas.{first_is_part, second_is_part, joined_has_first, joined_has_second, All-joined}
use Rattle.aig_model.specs.Netlist.{Netlist, IsSound, circuit}
use Rattle.aig_model.specs.Task.{VerificationTask, problem}
use Rattle.ja_project.specs.Latches.{is_foreign}
use Rattle.ja_project.specs.Start.{starts}
use Rattle.ja_project.proofs.StartLemmas.{falsified_at_start, own_vars, starts_false}
use Rattle.inv_cert.specs.Closed.{IsClosed}
use Rattle.inv_cert.specs.Proofs.{IsCandidate}
use Rattle.inv_cert.proofs.InductionLemmas.{All-part, IsInductive-same, IsInductive-append}
use Rattle.inv_cert.proofs.JoinLemmas.{IsInductive-joined}
use Rattle.ic3_frames.specs.Soundness.{Meets}
use Rattle.ic3_query.specs.Known.{AreOwn, HoldsAtStart, IsKnown, IsForGood}

pub known_of : (t : Problem) (clauses : List (List ℕ)) → IsClosed t clauses → IsKnown t (clauses ++ [])
known_of t clauses h =
    let P : List (List ℕ) → Type 0 = IsKnown t in
    subst P (sym (append-nil clauses)) (record { inductive = h.inductive; own = h.own })

pub known_extended : (t : Problem) (list own more : List (List ℕ)) → IsKnown t (list ++ own) → AreOwn t.circuit more
    → IsInductive t.circuit t.assumed (list ++ own ++ more) → IsKnown t (list ++ (own ++ more))
known_extended t list own more h own_more inductive =
    let P : List (List ℕ) → Type 0 = IsKnown t in
    subst P (append_assoc list own more) (record {
      inductive = inductive;
      own = All-append (λ clause. is_foreign t.circuit clause ≡ false) (list ++ own) more h.own own_more;
    })

pub inductive_with : (c : Circuit) (set : List Bool) (known : List (List ℕ)) (clause : List ℕ) → IsInductive c set known
    → IsForGood c set known clause → IsInductive c set (known ++ clause ∷ [])
inductive_with c set known clause h good = record {
  starts = λ s initial. All-push (Meets c s) known clause (h.starts s initial) (good.starts s initial);
  steps = λ s x v now meets constrained held.
      let of_known : MeetsClauses c s known = All-part (Meets c s) (known ++ clause ∷ []) known meets
      (first_is_part known (clause ∷ [])) in
      let of_clause : MeetsClauses c s (clause ∷ []) =
      All-part (Meets c s) (known ++ clause ∷ []) (clause ∷ []) meets (second_is_part known (clause ∷ [])) in
      All-push (Meets c (next_state c v)) known clause (h.steps s x v now of_known constrained held)
      (good.steps s x v now of_known (of_clause 0 [] (omega arith)) constrained held);
}

pub known_joined : (t : Problem) (list own : List (List ℕ)) (clause : List ℕ) → IsKnown t (list ++ own)
    → is_foreign t.circuit clause ≡ false → IsForGood t.circuit t.assumed (list ++ own) clause
    → IsKnown t (list ++ (own ++ clause ∷ []))
known_joined t list own clause h is good =
    let P : List ℕ → Type 0 = λ clause. is_foreign t.circuit clause ≡ false in
    known_extended t list own (clause ∷ []) h (All-cons P clause [] is (All-nil P))
    (inductive_with t.circuit t.assumed (list ++ own) clause h.inductive good)

-- ---- a closed list comes to the first one

module _ (list own more : List (List ℕ)) where
  abbrev all : List (List ℕ)
  all = list ++ own ++ more

  pub all_has_imported : All (Contains (list ++ own ++ more)) (joined list more ++ own)
  all_has_imported =
      let P : List ℕ → Type 0 = Contains all in
      All-append P (joined list more) own
      (All-joined P list more
      (λ k d w. Contains-append_left (list ++ own) more (get_or list k d)
      (Contains-append_left list own (get_or list k d) (Contains-get_or list k d w)))
      (second_is_part (list ++ own) more))
      (λ k d w. Contains-append_left (list ++ own) more (get_or own k d)
      (Contains-append_right list own (get_or own k d) (Contains-get_or own k d w)))

  pub imported_has_all : All (Contains (joined list more ++ own)) (list ++ own ++ more)
  imported_has_all =
      let P : List ℕ → Type 0 = Contains (joined list more ++ own) in
      All-append P (list ++ own) more
      (All-append P list own
      (λ k d w. Contains-append_left (joined list more) own (get_or list k d) (joined_has_first list more k d w))
      (second_is_part (joined list more) own))
      (λ k d w. Contains-append_left (joined list more) own (get_or more k d) (joined_has_second list more k d w))

pub known_imported : (t : Problem) (list own more : List (List ℕ)) → IsKnown t (list ++ own) → IsClosed t more
    → IsKnown t (joined list more ++ own)
known_imported t list own more h closed =
    let P : List ℕ → Type 0 = λ clause. is_foreign t.circuit clause ≡ false in
    let both : AreOwn t.circuit (list ++ own ++ more) = All-append P (list ++ own) more h.own closed.own in
    record {
      inductive = IsInductive-same t.circuit t.assumed (list ++ own ++ more) (joined list more ++ own)
          (all_has_imported list own more) (imported_has_all list own more)
          (IsInductive-append t.circuit t.assumed (list ++ own) more h.inductive closed.inductive);
      own = All-part P (list ++ own ++ more) (joined list more ++ own) both (all_has_imported list own more);
    }

-- ---- what is known becomes closed

pub known_closed : (t : Problem) (list own : List (List ℕ)) → IsKnown t (list ++ own) → IsKnown t (joined list own ++ [])
known_closed t list own h =
    let P : List ℕ → Type 0 = λ clause. is_foreign t.circuit clause ≡ false in
    let Q : List (List ℕ) → Type 0 = IsKnown t in
    subst Q (sym (append-nil (joined list own))) (record {
      inductive = IsInductive-joined t.circuit t.assumed list own h.inductive;
      own = All-joined P list own (All-part P (list ++ own) list h.own (first_is_part list own))
          (All-part P (list ++ own) own h.own (second_is_part list own));
    })

-- an inductive clause agrees with a reset
pub starts_where_inductive : (c : Circuit) (set : List Bool) (clauses : List (List ℕ)) (clause : List ℕ)
    → IsInductive c set clauses
    → Contains clauses clause → is_foreign c clause ≡ false → starts c clause ≡ true
starts_where_inductive c set clauses clause h has own = by_test (starts c clause) refl
  where
    by_test : (b : Bool) → starts c clause ≡ b → b ≡ true
    by_test true e = refl
    by_test false e =
        let found = falsified_at_start c clause own e in
        absurd (found.2 (All-contains (Meets c found.0) clauses clause (h.starts found.0 found.1) has))

pub are_candidates : (t : VerificationTask) (list own : List (List ℕ)) → IsKnown (problem t) (list ++ own)
    → All (IsCandidate t) own
are_candidates t list own h = λ k d within.
    let clause : List ℕ = get_or own k d in
    let is : is_foreign (circuit t.design) clause ≡ false =
    All-part (λ c. is_foreign (circuit t.design) c ≡ false) (list ++ own) own h.own (second_is_part list own) k d within in
    record {
      own = is;
      begins = starts_where_inductive (circuit t.design) t.expected (list ++ own) clause h.inductive
          (Contains-append_right list own clause (Contains-get_or own k d within)) is;
    }

-- each initial row meets a clause that agrees with a reset
pub holds_where_starts : (n : Netlist) → IsSound n → (clause : List ℕ) → starts (circuit n) clause ≡ true
    → HoldsAtStart (circuit n) clause
holds_where_starts n sound clause begins s initial =
    by_test (list_any (latch_value (circuit n).latches s) clause) refl
  where
    by_test : (b : Bool) → list_any (latch_value (circuit n).latches s) clause ≡ b → b ≡ true
    by_test true e = refl
    by_test false e =
        absurd (both_ways (starts (circuit n) clause)
        (starts_false (circuit n) clause (own_vars n sound) (
          s,
          initial,
          λ met. both_ways
              (list_any (latch_value (circuit n).latches s) clause) e met,
        )) begins)

pub starts_tells : (n : Netlist) → IsSound n → (clause : List ℕ) (b : Bool) → b ≡ starts (circuit n) clause
    → OnTrue b (HoldsAtStart (circuit n) clause)
starts_tells n sound clause true e = holds_where_starts n sound clause (sym e)
starts_tells n sound clause false e = tt
