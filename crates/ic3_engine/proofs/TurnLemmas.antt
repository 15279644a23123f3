-- What a turn of a descent leaves.
use Rattle.std.proofs.Common.{◌≡◌, ℕ, suc, zero, ◌+◌, ◌-◌, ◌<◌, ◌≤◌, Bool, true, false, List, [], ◌∷◌, length, refl, sym, ap, ◌∙◌, subst, arith}
use Rattle.std.proofs.lemmas.List.{length-append}
use Rattle.std.proofs.lemmas.List.Elements.{All-push}
use Rattle.ja_base.specs.Clauses.{is_part}
use Rattle.ja_base.specs.Valuation.{latch_row}
use Rattle.aig_model.specs.Netlist.{Netlist, IsSound, circuit}
use Rattle.aig_model.specs.Task.{VerificationTask}
use Rattle.ja_project.specs.Start.{starts}
use Rattle.ic3_general.specs.declared.aim.Aim.{Aim}
use Rattle.ic3_frames.specs.Levels.{Entry, Levels, is_blocked}
use Rattle.ic3_frames.specs.Soundness.{IsIn}
use Rattle.ic3_general.specs.Cubes.{IsOutside}
use Rattle.ic3_oblig.specs.declared.obligation.Obligation.{Obligation}
use Rattle.ic3_query.specs.Known.{KnownList, all_of}
use Rattle.ic3_query.specs.Questions.{IsBefore}
use Rattle.ic3_engine.specs.declared.outcome.Turn.{Turn}
use Rattle.ic3_engine.specs.declared.outcome.Turn.TheVariants.{Done, Failed, Lower}
use Rattle.ic3_engine.specs.Answers.{IsTurn}
use Rattle.ic3_engine.specs.Lowering.{IsLowering}
use Rattle.ic3_engine.specs.Searching.{IsSearch, latch_vars}
use Rattle.ic3_frames.specs.Sums.{potential}
use Rattle.local_stim.specs.Found.{FoundFailure}
use Rattle.ic3_engine.specs.Turns.{Blocks, Fails, IsSearching, State, state}
use Rattle.ic3_engine.specs.Waiting.{AreWaiting, IsWaiting}
use Rattle.ic3_engine.proofs.LevelLemmas.{excluding_is_free, free_above, part_is_free}
use Rattle.ic3_engine.proofs.StartLemmas.{begins_has_no_initial}

-- a part of what is not blocked at its level is not blocked at the top
pub part_is_free_at_top : (f : Levels) (level : ℕ) (part clause : List ℕ) → level ≤ f.top → is_part part clause ≡ true
    → is_blocked f.kept level clause ≡ false → is_blocked f.kept f.top part ≡ false
part_is_free_at_top f level part clause high within free =
    free_above f.kept level f.top part high (part_is_free f.kept level part clause within free)

pub lower_waits : (n : Netlist) (kept : List Entry) (clause : List ℕ) (s : List Bool) (k : ℕ) → IsSound n → starts (circuit n) clause ≡ true
    → IsOutside (circuit n) clause s → IsIn (circuit n) kept k s → (1 ≤ k) × (is_blocked kept k clause ≡ false)
lower_waits n kept clause s zero sound begins out initial = absurd (begins_has_no_initial n clause s sound begins initial out)
lower_waits n kept clause s (suc k) sound begins out meets = (omega arith, excluding_is_free (circuit n) kept (suc k) clause s meets out)

pub lowering_is_turn : (t : VerificationTask) (a : Aim) (now : Obligation) (known : KnownList) (f : Levels) (before after : List Obligation)
    (count next_count : ℕ) (added next_added : List (List ℕ)) (vals : List Bool) (turn : Turn) → IsSound t.design
    → IsSearching t a (state known f before count added) → next_count ≡ count → next_added ≡ added → IsWaiting t a f.top now
    → IsBefore t (all_of known) f (now.level - 1) now.clause vals → IsLowering t a now before after vals turn
    → IsTurn t a now.level (state known f before count added) (state known f after next_count next_added) turn
lowering_is_turn t a now known f before after count next_count added next_added vals turn sound s count_is added_is waits is_before h =
    by_turn turn h
  where
    search : IsSearch t (all_of known) f next_count next_added
    search = subst (λ n. IsSearch t (all_of known) f n next_added) (sym count_is)
        (subst (λ (clauses : List (List ℕ)). IsSearch t (all_of known) f count clauses) (sym added_is) s.search)

    by_turn : (turn : Turn) → IsLowering t a now before after vals turn
        → IsTurn t a now.level (state known f before count added) (state known f after next_count next_added) turn
    by_turn Done h = absurd h
    by_turn (Failed failure) h = record {
      searching = record { search = search; task = s.task; waiting = subst (AreWaiting t a f.top) (sym h.0) s.waiting };
      frames = refl;
      queue = let same = ap length h.0 in omega (arith, same);
      found = h.1;
    }
    by_turn (Lower next) h =
        let row = latch_row (circuit t.design) vals in
        let one : now.level - 1 ≡ next.level = omega (arith, h.1.lower) in
        let there = lower_waits t.design f.kept next.clause row next.level sound h.1.begins h.1.around
        (subst (λ k. IsIn (circuit t.design) f.kept k row) one is_before.level) in
        record {
          searching = record {
            search = search;
            task = s.task;
            waiting = subst (AreWaiting t a f.top) (sym h.0) (All-push (IsWaiting t a f.top) before now s.waiting waits);
          };
          frames = refl;
          queue = ap length h.0 ∙ length-append before (now ∷ []);
          waits = record {
            low = there.0;
            high = omega (arith, waits.high, h.1.lower);
            own = h.1.own;
            begins = h.1.begins;
            leads = h.1.leads;
          };
          free = there.1;
          lower = h.1.lower;
        }

-- ---- turns behind one another

pub done_descends : (t : VerificationTask) (a : Aim) (level first : ℕ) (start now new : State) → now.frames ≡ start.frames
    → length now.queue + level ≡ length start.queue + first → 1 ≤ level → Blocks t a 1 now new → Blocks t a first start new
done_descends t a level first start now new frames queue low b = record {
  searching = b.searching;
  top = b.top ∙ ap (λ (f : Levels). f.top) frames;
  rises = subst (λ (f : Levels). potential (latch_vars t.design) f.kept < potential (latch_vars t.design) new.frames.kept) frames b.rises;
  queue = omega (arith, b.queue, queue, low);
}

pub failed_descends : (t : VerificationTask) (a : Aim) (level first : ℕ) (start now new : State) (failure : FoundFailure)
    → now.frames ≡ start.frames → length now.queue + level ≡ length start.queue + first → Fails t a 0 now new failure
    → Fails t a first start new failure
failed_descends t a level first start now new failure frames queue h = record {
  searching = h.searching;
  frames = h.frames ∙ frames;
  queue = omega (arith, h.queue, queue);
  found = h.found;
}
