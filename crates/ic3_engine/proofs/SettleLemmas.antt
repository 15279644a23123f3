-- Levels with one clause more, which was not blocked at its level: a step.
use Rattle.std.proofs.Common.{◌≡◌, ℕ, ◌+◌, ◌-◌, ◌<◌, ◌≤◌, Bool, true, false, List, [], ◌∷◌, ◌++◌, sym, ap, ◌∙◌, subst, arith, append_assoc}
use Rattle.std.specs.Prelude.{All}
use Rattle.std.proofs.lemmas.List.Elements.{All-push}
use Rattle.ja_base.specs.Circuit.{Circuit}
use Rattle.ja_base.specs.Invariants.{latch_value, MeetsClauses}
use Rattle.ja_base.specs.Literals.{SatisfiedBy}
use Rattle.ja_base.proofs.JoinLemmas.{first_is_part}
use Rattle.aig_model.specs.Netlist.{circuit}
use Rattle.aig_model.specs.Task.{VerificationTask}
use Rattle.inv_cert.proofs.InductionLemmas.{All-part}
use Rattle.ja_project.specs.Latches.{is_foreign}
use Rattle.ic3_frames.specs.Levels.{Entry, Levels, added, is_blocked}
use Rattle.ic3_frames.specs.Soundness.{AreSound, Gains, IsBlockedFrom}
use Rattle.ic3_frames.specs.Sums.{potential}
use Rattle.ic3_frames.specs.Apart.{AreApart}
use Rattle.ic3_frames.proofs.ApartLemmas.{additions_stay_apart}
use Rattle.ic3_frames.proofs.GainLemmas.{additions_gain}
use Rattle.ic3_frames.proofs.LevelLemmas.{All-added}
use Rattle.ic3_frames.proofs.SoundLemmas.{gains_are_sound}
use Rattle.ic3_frames.proofs.SumLemmas.{additions_raise}
use Rattle.ic3_query.specs.Known.{IsForGood, KnownList, all_of}
use Rattle.ic3_query.specs.Questions.{AreOwnLevels, IsKeptAt}
use Rattle.ic3_query.specs.Serving.{Serves}
use Rattle.ic3_engine.specs.Searching.{IsSearch, IsStep, latch_vars}
use Rattle.ic3_engine.proofs.ClauseLemmas.{own_is_over}
use Rattle.ic3_engine.proofs.KeepLemmas.{kept_is_blocked}
use Rattle.ic3_engine.proofs.LevelLemmas.{added_blocks, stays_blocked}
use Rattle.ic3_engine.proofs.StartLemmas.{begins_holds}
use Rattle.aig_model.specs.Netlist.{IsSound}
use Rattle.ja_project.specs.Start.{starts}

-- what is known more says no less
abbrev SaysAll : Circuit → List (List ℕ) → List (List ℕ) → Type 0
SaysAll c wider known = (s : List Bool) → MeetsClauses c s wider → MeetsClauses c s known

pub sound_where_more : (c : Circuit) (set : List Bool) (known wider : List (List ℕ)) (kept : List Entry) → SaysAll c wider known
    → AreSound c set known kept → AreSound c set wider kept
sound_where_more c set known wider kept says sound = record {
  starts = sound.starts;
  steps = λ k s x v step met there constrained held. sound.steps k s x v step (says s met) there constrained held;
}

blocked_stay : (clause : List ℕ) (level at : ℕ) (kept : List Entry) (known : List (List ℕ))
    → All (λ c. is_blocked kept at c ≡ true) known → All (λ c. is_blocked (added clause level kept) at c ≡ true) known
blocked_stay clause level at kept known all j d within = stays_blocked clause level kept at _ (all j d within)

module _ (t : VerificationTask) (known wider : List (List ℕ)) (says : SaysAll (circuit t.design) wider known) where
  added_is_step : (old new : Levels) (k level : ℕ) (clause : List ℕ) (count : ℕ) (clauses : List (List ℕ)) (after : ℕ)
      (more : List (List ℕ)) → IsSearch t known old count clauses
      → IsBlockedFrom (circuit t.design) t.expected wider old.kept k clause → is_foreign (circuit t.design) clause ≡ false
      → is_blocked old.kept level clause ≡ false → level ≡ k + 1 → level ≤ old.top
      → All (λ c. is_blocked (added clause level old.kept) old.top c ≡ true) wider
      → new.kept ≡ added clause level old.kept → new.top ≡ old.top → Serves t.design wider new after more
      → IsStep t wider old new after more
  added_is_step old new k level clause count clauses after more s blocked own free level_is high wider_blocked kept_is top_is serves =
      record {
        search = record {
          core = record {
            sound = subst (AreSound (circuit t.design) t.expected wider) (sym kept_is) sound;
            apart = subst AreApart (sym kept_is) (additions_stay_apart clause level old.kept s.core.apart free);
            own = subst (AreOwnLevels t.design) (sym kept_is)
                (All-added clause level (λ (e : Entry). is_foreign (circuit t.design) e.clause ≡ false) old.kept s.core.own own);
            levels = subst (λ (kept : List Entry). All (λ (e : Entry). (1 ≤ e.level) × (e.level ≤ new.top)) kept) (sym kept_is)
                (subst (λ top. All (λ (e : Entry). (1 ≤ e.level) × (e.level ≤ top)) (added clause level old.kept)) (sym top_is)
                (All-added clause level (λ (e : Entry). (1 ≤ e.level) × (e.level ≤ old.top)) old.kept s.core.levels
                (omega (arith, level_is), high)));
            serves = serves;
          };
          low = omega (arith, s.low, top_is);
          blocked = subst (λ (kept : List Entry). All (λ c. is_blocked kept new.top c ≡ true) wider) (sym kept_is)
              (subst (λ top. All (λ c. is_blocked (added clause level old.kept) top c ≡ true) wider) (sym top_is) wider_blocked);
        };
        top = top_is;
        rises = subst (λ (kept : List Entry). potential (latch_vars t.design) old.kept < potential (latch_vars t.design) kept) (sym kept_is)
            (additions_raise (latch_vars t.design) clause level old.kept (own_is_over t.design clause own) (omega (arith, level_is)) free);
      }
    where
      gains : Gains (circuit t.design) (k + 1) clause old.kept (added clause level old.kept)
      gains = subst (λ l. Gains (circuit t.design) l clause old.kept (added clause level old.kept)) level_is
          (additions_gain (circuit t.design) old.kept clause level)

      sound : AreSound (circuit t.design) t.expected wider (added clause level old.kept)
      sound = gains_are_sound (circuit t.design) t.expected wider old.kept (added clause level old.kept) k clause
          (sound_where_more (circuit t.design) t.expected known wider old.kept says s.core.sound) blocked gains

-- a clause that is kept from the level below
pub settled_is_step : (t : VerificationTask) (known : List (List ℕ)) (old new : Levels) (level : ℕ) (clause : List ℕ) (count : ℕ)
    (clauses : List (List ℕ)) (after : ℕ) (more : List (List ℕ)) → IsSound t.design → IsSearch t known old count clauses → 1 ≤ level
    → level ≤ old.top → is_foreign (circuit t.design) clause ≡ false → starts (circuit t.design) clause ≡ true
    → IsKeptAt t known old (level - 1) clause → is_blocked old.kept level clause ≡ false
    → new.kept ≡ added clause level old.kept → new.top ≡ old.top → Serves t.design known new after more → IsStep t known old new after more
settled_is_step t known old new level clause count clauses after more sound s low high own begins kept free kept_is top_is serves =
    added_is_step t known known (λ s met. met) old new (level - 1) level clause count clauses after more s
    (kept_is_blocked t known old (level - 1) clause (begins_holds t.design clause sound begins) kept) own free (omega (arith, low)) high
    (blocked_stay clause level old.top old.kept known s.blocked) kept_is top_is serves

joined_is : (k j : KnownList) (clause : List ℕ) → j.list ≡ k.list → j.own ≡ k.own ++ clause ∷ [] → all_of j ≡ all_of k ++ clause ∷ []
joined_is k j clause list own =
    ap (λ (xs : List (List ℕ)). xs ++ j.own) list ∙ ap (λ (xs : List (List ℕ)). k.list ++ xs) own
    ∙ sym (append_assoc k.list k.own (clause ∷ []))

-- a clause that holds for good, at the top
pub joined_is_step : (t : VerificationTask) (k j : KnownList) (old new : Levels) (clause : List ℕ) (count : ℕ)
    (clauses : List (List ℕ)) (after : ℕ) (more : List (List ℕ)) → IsSearch t (all_of k) old count clauses
    → is_foreign (circuit t.design) clause ≡ false → IsForGood (circuit t.design) t.expected (all_of k) clause
    → is_blocked old.kept old.top clause ≡ false → j.list ≡ k.list → j.own ≡ k.own ++ clause ∷ []
    → new.kept ≡ added clause old.top old.kept → new.top ≡ old.top → Serves t.design (all_of j) new after more
    → IsStep t (all_of j) old new after more
joined_is_step t k j old new clause count clauses after more s own good free list joined kept_is top_is serves =
    let is = joined_is k j clause list joined in
    subst (λ (wider : List (List ℕ)). IsStep t wider old new after more) (sym is)
    (added_is_step t (all_of k) (all_of k ++ clause ∷ []) says old new (old.top - 1) old.top clause count clauses after more s blocked own
    free (omega (arith, s.low)) (omega arith)
    (All-push (λ c. is_blocked (added clause old.top old.kept) old.top c ≡ true) (all_of k) clause
    (blocked_stay clause old.top old.top old.kept (all_of k) s.blocked) (added_blocks clause old.top old.kept))
    kept_is top_is (subst (λ (wider : List (List ℕ)). Serves t.design wider new after more) is serves))
  where
    says : SaysAll (circuit t.design) (all_of k ++ clause ∷ []) (all_of k)
    says s met = All-part (SatisfiedBy (latch_value (circuit t.design).latches s)) (all_of k ++ clause ∷ []) (all_of k) met
        (first_is_part (all_of k) (clause ∷ []))

    blocked : IsBlockedFrom (circuit t.design) t.expected (all_of k ++ clause ∷ []) old.kept (old.top - 1) clause
    blocked = record {
      starts = good.starts;
      steps = λ s x v step met there clause_met constrained held. good.steps s x v step (says s met) clause_met constrained held;
    }
