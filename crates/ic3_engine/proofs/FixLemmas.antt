-- The clauses of a fixed level become known.
use Rattle.std.proofs.Common.{◌≡◌, ℕ, suc, zero, ◌+◌, ◌≤◌, Bool, true, false, cond, List, [], ◌∷◌, ◌++◌, take, map, slice_get, Some, refl, sym, ap, ◌∙◌, subst, arith, append_assoc}
use Rattle.std.specs.Prelude.{nat_le, filter, if◌then◌else◌, All}
use Rattle.std.proofs.lemmas.List.Elements.{All-append, All-cons, All-head, All-nil, All-tail}
use Rattle.ja_base.specs.Invariants.{Covers, MeetsClauses, latch_value}
use Rattle.ja_base.specs.Literals.{SatisfiedBy}
use Rattle.ja_base.proofs.JoinLemmas.{first_is_part, second_is_part}
use Rattle.inv_cert.proofs.InductionLemmas.{All-part}
use Rattle.aig_model.specs.Netlist.{circuit}
use Rattle.aig_model.specs.Task.{VerificationTask, problem}
use Rattle.ja_project.specs.Latches.{is_foreign}
use Rattle.ic3_frames.specs.Apart.{IsTighter}
use Rattle.ic3_frames.specs.Levels.{Entry, Levels, IsLeastFixed, at_level, is_blocked, stands_at}
use Rattle.ic3_frames.specs.Soundness.{IsIn, MeetsAt}
use Rattle.ic3_frames.proofs.SoundLemmas.{fixed_is_inductive, in_higher, met_where_listed}
use Rattle.ic3_oblig.specs.declared.obligation.Obligation.{Obligation}
use Rattle.ic3_query.specs.Known.{IsKnown, KnownList, all_of}
use Rattle.ic3_query.specs.Questions.{IsGoodFrom}
use Rattle.ic3_query.specs.Serving.{Serves}
use Rattle.ic3_engine.specs.Putting.{put_all}
use Rattle.ic3_engine.specs.Raising.{IsRaised}
use Rattle.ic3_engine.specs.Searching.{IsCore, IsSearch}
use Rattle.ic3_engine.specs.Turns.{state}
use Rattle.ic3_engine.proofs.PutLemmas.{known_is_put}
use Rattle.ic3_engine.proofs.SettleLemmas.{sound_where_more}

pub level_more : (kept : List Entry) (n level : ℕ) (e : Entry) (b : Bool) → slice_get kept n ≡ Some e → b ≡ nat_le level e.level
    → at_level (take (n + 1) kept) level ≡ at_level (take n kept) level ++ (if b then e.clause ∷ [] else [])
level_more [] n level e b is test = absurd cc
level_more (x ∷ xs) zero level e b is test =
    let same : x ≡ e = cc in subst (λ (y : Entry). at_level (y ∷ []) level ≡ cond b (e.clause ∷ []) []) (sym same) (by_test b test)
  where
    by_test : (b : Bool) → b ≡ nat_le level e.level → map (λ (e : Entry). e.clause) (cond (nat_le level e.level) (e ∷ []) []) ≡ cond b (e.clause ∷ []) []
    by_test b test = subst (λ t. map (λ (e : Entry). e.clause) (cond t (e ∷ []) []) ≡ cond b (e.clause ∷ []) []) test (plain b)
      where
        plain : (b : Bool) → map (λ (e : Entry). e.clause) (cond b (e ∷ []) []) ≡ cond b (e.clause ∷ []) []
        plain true = refl
        plain false = refl
level_more (x ∷ xs) (suc n) level e b is test =
    let one : suc n + 1 ≡ suc (n + 1) = omega arith in
    rw one (by_test (nat_le level x.level) (level_more xs n level e b is test))
  where
    by_test : (t : Bool) → at_level (take (n + 1) xs) level ≡ at_level (take n xs) level ++ cond b (e.clause ∷ []) []
        → map (λ (e : Entry). e.clause) (cond t (x ∷ filter (stands_at level) (take (n + 1) xs)) (filter (stands_at level) (take (n + 1) xs)))
        ≡ map (λ (e : Entry). e.clause) (cond t (x ∷ filter (stands_at level) (take n xs)) (filter (stands_at level) (take n xs))) ++ cond b (e.clause ∷ []) []
    by_test true h = ap (λ (cs : List (List ℕ)). x.clause ∷ cs) h
    by_test false h = h

pub level_each : (P : List ℕ → Type 0) (kept : List Entry) (level : ℕ) → All (λ (e : Entry). P e.clause) kept → All P (at_level kept level)
level_each P [] level all = All-nil P
level_each P (x ∷ xs) level all =
    by_test (nat_le level x.level) (level_each P xs level (All-tail (λ (e : Entry). P e.clause) x xs all))
  where
    by_test : (t : Bool) → All P (at_level xs level)
        → All P (map (λ (e : Entry). e.clause) (cond t (x ∷ filter (stands_at level) xs) (filter (stands_at level) xs)))
    by_test true h = All-cons P x.clause (at_level xs level) (All-head (λ (e : Entry). P e.clause) x xs all) h
    by_test false h = h

pub fixed_known : (t : VerificationTask) (known : List (List ℕ)) (f : Levels) (count : ℕ) (clauses : List (List ℕ)) (level : ℕ)
    → IsKnown (problem t) known → IsSearch t known f count clauses → IsLeastFixed f level
    → IsKnown (problem t) (known ++ at_level f.kept level)
fixed_known t known f count clauses level is s fixed = record {
  inductive = fixed_is_inductive (circuit t.design) t.expected known f.kept level is.inductive s.core.sound fixed.low fixed.same;
  own = All-append (λ c. is_foreign (circuit t.design) c ≡ false) known (at_level f.kept level) is.own
      (level_each (λ c. is_foreign (circuit t.design) c ≡ false) f.kept level s.core.own);
}

pub extended_is : (k j : KnownList) (more : List (List ℕ)) → j.list ≡ k.list → j.own ≡ k.own ++ more → all_of j ≡ all_of k ++ more
extended_is k j more list own =
    ap (λ (xs : List (List ℕ)). xs ++ j.own) list ∙ ap (λ (xs : List (List ℕ)). k.list ++ xs) own ∙ sym (append_assoc k.list k.own more)

-- what is known covers the property, where no row of a level above the fixed one breaks it
pub fixed_covers : (t : VerificationTask) (known : List (List ℕ)) (f : Levels) (count : ℕ) (clauses : List (List ℕ)) (level high p : ℕ)
    → IsSearch t known f count clauses → IsLeastFixed f level → level ≤ high → IsGoodFrom t known f high p
    → Covers (circuit t.design) (known ++ at_level f.kept level) p
fixed_covers t known f count clauses level high p s fixed up good st x v step met constrained =
    let says = SatisfiedBy (latch_value (circuit t.design).latches st) in
    let first = All-part says (known ++ at_level f.kept level) known met (first_is_part known (at_level f.kept level)) in
    let second = All-part says (known ++ at_level f.kept level) (at_level f.kept level) met (second_is_part known (at_level f.kept level)) in
    let there = met_where_listed (circuit t.design) st level f.kept second in
    good st x v step first
    (in_higher (circuit t.design) t.expected known f.kept s.core.sound level high st up (in_level level fixed.low there)) constrained
  where
    in_level : (k : ℕ) → 1 ≤ k → MeetsAt (circuit t.design) st f.kept k → IsIn (circuit t.design) f.kept k st
    in_level zero low h = absurd (omega (arith, low))
    in_level (suc k) low h = h

-- the levels with the new known clauses at the top
pub fixed_is_raised : (t : VerificationTask) (k j : KnownList) (old new : Levels) (queue : List Obligation) (count after : ℕ)
    (clauses more : List (List ℕ)) (added : List (List ℕ)) → all_of j ≡ all_of k ++ added → IsKnown (problem t) (all_of j)
    → IsSearch t (all_of k) old count clauses → Serves t.design (all_of j) old after more → new.top ≡ old.top
    → new.kept ≡ put_all old.top (all_of j) old.kept → IsRaised t old.top (state k old queue count clauses) (state j new queue after more)
fixed_is_raised t k j old new queue count after clauses more added j_is is s serves top_is kept_is =
    let base : IsCore t (all_of j) old after more = record {
      sound = sound_where_more (circuit t.design) t.expected (all_of k) (all_of j) old.kept says s.core.sound;
      apart = s.core.apart;
      own = s.core.own;
      levels = s.core.levels;
      serves = serves;
    } in
    let puts = known_is_put t (all_of j) is.inductive is.own old.top old.kept s.low in
    record {
      search = record {
        core = subst (λ top. IsCore t (all_of j) (record { top = top; kept = new.kept }) after more) (sym top_is)
            (subst (λ (kept : List Entry). IsCore t (all_of j) (record { top = old.top; kept = kept }) after more) (sym kept_is)
            (puts.put.core after more base));
        low = omega (arith, top_is, s.low);
        blocked = subst (λ top. All (λ c. is_blocked new.kept top c ≡ true) (all_of j)) (sym top_is)
            (subst (λ (kept : List Entry). All (λ c. is_blocked kept old.top c ≡ true) (all_of j)) (sym kept_is) puts.blocked);
      };
      top_is = top_is;
      tighter = subst (λ (kept : List Entry). IsTighter (circuit t.design) old.kept kept) (sym kept_is) puts.put.tighter;
      queue = refl;
    }
  where
    says : (st : List Bool) → MeetsClauses (circuit t.design) st (all_of j) → MeetsClauses (circuit t.design) st (all_of k)
    says st met = All-part (SatisfiedBy (latch_value (circuit t.design).latches st)) (all_of k ++ added) (all_of k)
        (subst (λ (cs : List (List ℕ)). MeetsClauses (circuit t.design) st cs) j_is met) (first_is_part (all_of k) added)
