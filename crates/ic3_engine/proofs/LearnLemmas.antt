-- Levels and solver once more is known.
use Rattle.std.proofs.Common.{◌≡◌, ℕ, Bool, true, List, [], ◌∷◌, ◌++◌, sym, subst, arith}
use Rattle.std.specs.Prelude.{All, Contains}
use Rattle.std.proofs.lemmas.List.Elements.{All-append}
use Rattle.ja_base.specs.Circuit.{Circuit}
use Rattle.ja_base.specs.ClauseSets.{joined}
use Rattle.ja_base.specs.Invariants.{MeetsClauses, latch_value}
use Rattle.ja_base.specs.Literals.{SatisfiedBy}
use Rattle.ja_base.proofs.JoinLemmas.{joined_has_both, first_is_part, second_is_part}
use Rattle.aig_model.specs.Netlist.{circuit}
use Rattle.aig_model.specs.Task.{VerificationTask, problem}
use Rattle.inv_cert.proofs.InductionLemmas.{All-part}
use Rattle.ic3_frames.specs.Levels.{Entry, Levels, is_blocked}
use Rattle.ic3_oblig.specs.declared.obligation.Obligation.{Obligation}
use Rattle.ic3_query.specs.Known.{IsKnown, KnownList, all_of}
use Rattle.ic3_query.specs.Serving.{Serves}
use Rattle.ic3_engine.specs.Climbing.{IsEngine}
use Rattle.ic3_engine.specs.Putting.{put_all, put_at}
use Rattle.ic3_engine.specs.Searching.{IsCore}
use Rattle.ic3_engine.specs.Turns.{state}
use Rattle.ic3_engine.proofs.PutLemmas.{are_put, known_is_put}
use Rattle.ic3_engine.proofs.SettleLemmas.{sound_where_more}

-- what is known now says all that was known
says_old : (c : Circuit) (k j : KnownList) (more : List (List ℕ)) → j.list ≡ joined k.list more → j.own ≡ k.own
    → (s : List Bool) → MeetsClauses c s (all_of j) → MeetsClauses c s (all_of k)
says_old c k j more list own s met =
    let P : List ℕ → Type 0 = SatisfiedBy (latch_value c.latches s) in
    let now : All P (joined k.list more ++ k.own) =
    subst (λ (xs : List (List ℕ)). All P (xs ++ k.own)) list (subst (λ (xs : List (List ℕ)). All P (j.list ++ xs)) own met) in
    let front : All P (joined k.list more) =
    All-part P (joined k.list more ++ k.own) (joined k.list more) now (first_is_part (joined k.list more) k.own) in
    let both : All P (k.list ++ more) = All-part P (joined k.list more) (k.list ++ more) front (joined_has_both k.list more) in
    All-append P k.list k.own (All-part P (k.list ++ more) k.list both (first_is_part k.list more))
    (All-part P (joined k.list more ++ k.own) k.own now (second_is_part (joined k.list more) k.own))

pub learned_is_engine : (t : VerificationTask) (k j : KnownList) (more : List (List ℕ)) (old put : Levels) (queue : List Obligation)
    (count after : ℕ) (clauses rest : List (List ℕ)) → j.list ≡ joined k.list more → j.own ≡ k.own
    → IsKnown (problem t) (all_of j) → problem j.task ≡ problem t → Serves t.design (all_of j) old after rest → put.top ≡ old.top
    → put.kept ≡ put_all old.top (all_of j) old.kept → IsEngine t (state k old queue count clauses)
    → IsEngine t (state j put queue after rest)
learned_is_engine t k j more old put queue count after clauses rest list own is task serves top_is kept_is e =
    let core = e.search.core in
    let base : IsCore t (all_of j) old after rest = record {
      sound = sound_where_more (circuit t.design) t.expected (all_of k) (all_of j) old.kept
          (says_old (circuit t.design) k j more list own) core.sound;
      apart = core.apart;
      own = core.own;
      levels = core.levels;
      serves = serves;
    } in
    let puts = known_is_put t (all_of j) is.inductive is.own old.top old.kept e.search.low in
    let done = puts.put.core after rest base in
    record {
      search = record {
        core = subst (λ top. IsCore t (all_of j) (record { top = top; kept = put.kept }) after rest) (sym top_is)
            (subst (λ (kept : List Entry). IsCore t (all_of j) (record { top = old.top; kept = kept }) after rest) (sym kept_is) done);
        low = omega (arith, top_is, e.search.low);
        blocked = subst (λ (kept : List Entry). All (λ c. is_blocked kept put.top c ≡ true) (all_of j)) (sym kept_is)
            (subst (λ top. All (λ c. is_blocked (put_all old.top (all_of j) old.kept) top c ≡ true) (all_of j)) (sym top_is)
            puts.blocked);
      };
      task = task;
      high = omega (arith, top_is, e.high);
    }

-- one clause more that holds for good, which is blocked at the top
pub one_more_is_engine : (t : VerificationTask) (k j : KnownList) (clause : List ℕ) (old put : Levels) (queue : List Obligation)
    (count after : ℕ) (clauses rest : List (List ℕ)) → all_of j ≡ all_of k ++ clause ∷ [] → IsKnown (problem t) (all_of j)
    → problem j.task ≡ problem t → Serves t.design (all_of j) old after rest → put.top ≡ old.top
    → put.kept ≡ put_at old.top clause old.kept → IsEngine t (state k old queue count clauses) → IsEngine t (state j put queue after rest)
one_more_is_engine t k j clause old put queue count after clauses rest more is task serves top_is kept_is e =
    let core = e.search.core in
    let base : IsCore t (all_of j) old after rest = record {
      sound = sound_where_more (circuit t.design) t.expected (all_of k) (all_of j) old.kept says core.sound;
      apart = core.apart;
      own = core.own;
      levels = core.levels;
      serves = serves;
    } in
    let there : All (Contains (all_of j)) (clause ∷ []) =
    subst (λ (known : List (List ℕ)). All (Contains known) (clause ∷ [])) (sym more) (second_is_part (all_of k) (clause ∷ [])) in
    let puts = are_put t (all_of j) is.inductive is.own old.top (clause ∷ []) old.kept e.search.low there in
    let P : List ℕ → Type 0 = λ c. is_blocked (put_at old.top clause old.kept) old.top c ≡ true in
    let blocked : All P (all_of j) = subst (All P) (sym more)
    (All-append P (all_of k) (clause ∷ []) (λ n d within. puts.put.stays _ (e.search.blocked n d within)) puts.blocked) in
    record {
      search = record {
        core = subst (λ top. IsCore t (all_of j) (record { top = top; kept = put.kept }) after rest) (sym top_is)
            (subst (λ (kept : List Entry). IsCore t (all_of j) (record { top = old.top; kept = kept }) after rest) (sym kept_is)
            (puts.put.core after rest base));
        low = omega (arith, top_is, e.search.low);
        blocked = subst (λ (kept : List Entry). All (λ c. is_blocked kept put.top c ≡ true) (all_of j)) (sym kept_is)
            (subst (λ top. All (λ c. is_blocked (put_at old.top clause old.kept) top c ≡ true) (all_of j)) (sym top_is) blocked);
      };
      task = task;
      high = omega (arith, top_is, e.high);
    }
  where
    says : (s : List Bool) → MeetsClauses (circuit t.design) s (all_of j) → MeetsClauses (circuit t.design) s (all_of k)
    says s met = All-part (SatisfiedBy (latch_value (circuit t.design).latches s)) (all_of k ++ clause ∷ []) (all_of k)
        (subst (λ (known : List (List ℕ)). MeetsClauses (circuit t.design) s known) more met) (first_is_part (all_of k) (clause ∷ []))
