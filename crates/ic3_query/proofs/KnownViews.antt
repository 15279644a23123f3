-- The same, where a value of what is known is seen by its parts.
use Rattle.std.proofs.Common.{◌≡◌, ℕ, false, List, [], ◌∷◌, ◌++◌, sym, ap, subst, ◌∙◌}
use Rattle.std.specs.List.{All}
use Rattle.ja_base.specs.Circuit.{Problem}
use Rattle.ja_base.specs.ClauseSets.{joined}
use Rattle.ja_base.specs.Invariants.{IsInductive}
use Rattle.aig_model.specs.Netlist.{circuit}
use Rattle.aig_model.specs.Task.{VerificationTask, problem}
use Rattle.ja_project.specs.Latches.{is_foreign}
use Rattle.inv_cert.specs.Closed.{ClosedList, IsClosed}
use Rattle.inv_cert.specs.Proofs.{IsCandidate}
use Rattle.ic3_query.specs.Known.{KnownList, AreOwn, IsKnown, IsForGood, all_of}
use Rattle.ic3_query.proofs.KnownLemmas.{known_joined, known_extended, known_imported, known_closed, are_candidates}

module _ (k : KnownList) (task : VerificationTask) (list own : List (List ℕ))
    (view : ◌≡◌ {A = KnownList} (record { task = task; list = list; own = own }) k)
    (h : IsKnown (problem task) (list ++ own)) where
  pub join_view : (new : List (List ℕ)) (clause : List ℕ) → is_foreign (circuit k.task.design) clause ≡ false
      → IsForGood (circuit k.task.design) k.task.expected (all_of k) clause → new ≡ own ++ clause ∷ []
      → IsKnown (problem task) (list ++ new)
  join_view new clause is good e =
      let P : List (List ℕ) → Type 0 = λ n. IsKnown (problem task) (list ++ n) in
      let Q : KnownList → Type 0 = λ k. is_foreign (circuit k.task.design) clause ≡ false in
      let R : KnownList → Type 0 = λ k. IsForGood (circuit k.task.design) k.task.expected (all_of k) clause in
      subst P (sym e) (known_joined (problem task) list own clause h (subst Q (sym view) is) (subst R (sym view) good))

  pub extend_view : (new more : List (List ℕ)) → AreOwn (circuit k.task.design) more
      → IsInductive (circuit k.task.design) k.task.expected (all_of k ++ more) → new ≡ own ++ more
      → IsKnown (problem task) (list ++ new)
  extend_view new more is inductive e =
      let P : List (List ℕ) → Type 0 = λ n. IsKnown (problem task) (list ++ n) in
      let Q : KnownList → Type 0 = λ k. AreOwn (circuit k.task.design) more in
      let R : KnownList → Type 0 = λ k. IsInductive (circuit k.task.design) k.task.expected (all_of k ++ more) in
      subst P (sym e) (known_extended (problem task) list own more h (subst Q (sym view) is) (subst R (sym view) inductive))

  pub import_view : (after other : VerificationTask) (new more : List (List ℕ)) → problem other ≡ problem k.task
      → IsClosed (problem other) more → problem after ≡ problem task → new ≡ joined list more
      → IsKnown (problem after) (new ++ own)
  import_view after other new more same closed stays e =
      let there : problem other ≡ problem task = same ∙ ap (λ (k : KnownList). problem k.task) (sym view) in
      let P : Problem → Type 0 = λ p. IsClosed p more in
      let Q : Problem → Type 0 = λ p. IsKnown p (joined list more ++ own) in
      let R : List (List ℕ) → Type 0 = λ n. IsKnown (problem after) (n ++ own) in
      subst R (sym e) (subst Q (sym stays) (known_imported (problem task) list own more h (subst P there closed)))

  pub candidates_view : (t : VerificationTask) → problem k.task ≡ problem t → All (IsCandidate t) own
  candidates_view t same =
      let there : problem task ≡ problem t = ap (λ (k : KnownList). problem k.task) view ∙ same in
      let P : Problem → Type 0 = λ p. IsKnown p (list ++ own) in
      are_candidates t list own (subst P there h)

  pub close_view : (t : VerificationTask) (after : ClosedList) (left : List (List ℕ)) → problem k.task ≡ problem t
      → after ≡ record { task = t; clauses = joined list own } → left ≡ [] → IsKnown (problem after.task) (after.clauses ++ left)
  close_view t after left same is none =
      let there : problem task ≡ problem t = ap (λ (k : KnownList). problem k.task) view ∙ same in
      let P : Problem → Type 0 = λ p. IsKnown p (joined list own ++ []) in
      let Q : ClosedList → Type 0 = λ c. IsKnown (problem c.task) (c.clauses ++ []) in
      let R : List (List ℕ) → Type 0 = λ l. IsKnown (problem after.task) (after.clauses ++ l) in
      subst R (sym none) (subst Q (sym is) (subst P there (known_closed (problem task) list own h)))
