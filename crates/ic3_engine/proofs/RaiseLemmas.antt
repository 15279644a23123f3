-- Clauses that move up.
use Rattle.std.proofs.Common.{◌≡◌, ℕ, suc, zero, ◌+◌, ◌<◌, ◌≤◌, true, false, List, [], ◌∷◌, length, get_or, slice_get, Some, ⊎_elim, refl, sym, ap, ◌∙◌, subst, arith}
use Rattle.std.specs.Prelude.{nat_le, All}
use Rattle.std.proofs.lemmas.Bool.{or_cases, or_left, or_right, and_parts}
use Rattle.std.proofs.lemmas.List.Elements.{All-cons, All-head, All-tail}
use Rattle.std.proofs.lemmas.Option.{get_or_from_slice_get, same_Some, slice_get-get_or, slice_get_within}
use Rattle.ja_base.specs.Clauses.{is_part}
use Rattle.aig_model.specs.Netlist.{circuit}
use Rattle.aig_model.specs.Task.{VerificationTask, problem}
use Rattle.ja_project.specs.Latches.{is_foreign}
use Rattle.ic3_frames.specs.Apart.{AreApart}
use Rattle.ic3_frames.specs.Levels.{Entry, Levels, IfEntry, is_blocked, is_blocked_by, moved}
use Rattle.ic3_frames.specs.Sums.{greatest}
use Rattle.ic3_frames.specs.Soundness.{AreSound, Gains, IsBlockedFrom, Meets, MeetsAt}
use Rattle.ic3_frames.proofs.ApartLemmas.{moves_stay_apart}
use Rattle.ic3_frames.proofs.BoundLemmas.{moves_never_lower}
use Rattle.ic3_frames.proofs.GainLemmas.{moves_gain}
use Rattle.ic3_frames.proofs.SoundLemmas.{gains_are_sound}
use Rattle.ic3_query.specs.Known.{HoldsAtStart, IsKnown, KnownList, all_of}
use Rattle.ic3_query.specs.Questions.{IsKeptAt}
use Rattle.ic3_query.specs.Serving.{IsMovable, Serves}
use Rattle.ic3_oblig.specs.declared.obligation.Obligation.{Obligation}
use Rattle.ic3_engine.specs.Putting.{put_all}
use Rattle.ic3_engine.specs.Raising.{IsRaised, Pushes}
use Rattle.ic3_engine.specs.Turns.{state}
use Rattle.ic3_engine.proofs.PutLemmas.{known_is_put}
use Rattle.ic3_engine.specs.Searching.{IsCore}
use Rattle.ic3_engine.proofs.KeepLemmas.{kept_is_blocked}
use Rattle.ic3_engine.proofs.LevelLemmas.{le_true, true_le, and_both}

pub entry_of : (kept : List Entry) (at : ℕ) → at < length kept → (e : Entry) × (slice_get kept at ≡ Some e)
entry_of kept at within =
    let d : Entry = record { clause = []; level = 0 } in (get_or kept at d, slice_get-get_or kept at d within)

pub all_at : (P : Entry → Type 0) (kept : List Entry) (at : ℕ) (e : Entry) → slice_get kept at ≡ Some e → All P kept → P e
all_at P kept at e is all = subst P (get_or_from_slice_get kept at e e is) (all at e (slice_get_within kept at e is))

-- each initial row meets a kept clause
kept_begins : (t : VerificationTask) (known : List (List ℕ)) (f : Levels) (count : ℕ) (clauses : List (List ℕ)) (at : ℕ) (e : Entry)
    → IsCore t known f count clauses → slice_get f.kept at ≡ Some e → HoldsAtStart (circuit t.design) e.clause
kept_begins t known f count clauses at e core is s initial =
    all_at (λ (e : Entry). 0 ≤ e.level → Meets (circuit t.design) s e.clause) f.kept at e is (core.sound.starts s initial) (omega arith)

pub is_movable : (t : VerificationTask) (known : List (List ℕ)) (f : Levels) (count : ℕ) (clauses : List (List ℕ)) (at level : ℕ)
    → IsCore t known f count clauses → at < length f.kept → IfEntry f.kept at (λ (e : Entry). e.level ≡ level)
    → IsMovable t.design f at (level + 1)
is_movable t known f count clauses at level core within stands =
    let found = entry_of f.kept at within in
    record {
      entry = found.0;
      is = found.1;
      up = omega (arith, stands found.0 found.1);
      own = all_at (λ (e : Entry). is_foreign (circuit t.design) e.clause ≡ false) f.kept at found.0 found.1 core.own;
      begins = kept_begins t known f count clauses at found.0 core found.1;
    }

all_moved : (P : Entry → Type 0) (kept : List Entry) (at : ℕ) (e : Entry) (level : ℕ) → All P kept
    → P (record { clause = e.clause; level = level }) → All P (moved kept at e level)
all_moved P [] at e level all here = all
all_moved P (x ∷ xs) zero e level all here = All-cons P (record { clause = e.clause; level = level }) xs here (All-tail P x xs all)
all_moved P (x ∷ xs) (suc at) e level all here =
    All-cons P x (moved xs at e level) (All-head P x xs all) (all_moved P xs at e level (All-tail P x xs all) here)

moved_length : (kept : List Entry) (at : ℕ) (e : Entry) (level : ℕ) → length (moved kept at e level) ≡ length kept
moved_length [] at e level = refl
moved_length (x ∷ xs) zero e level = refl
moved_length (x ∷ xs) (suc at) e level = ap suc (moved_length xs at e level)

-- what was blocked stays blocked
moved_blocks : (kept : List Entry) (at : ℕ) (e : Entry) (level k : ℕ) (c : List ℕ) → slice_get kept at ≡ Some e → e.level ≤ level
    → is_blocked kept k c ≡ true → is_blocked (moved kept at e level) k c ≡ true
moved_blocks [] at e level k c is up h = absurd cc
moved_blocks (x ∷ xs) zero e level k c is up h =
    let same : x ≡ e = same_Some x e is in
    let higher : Entry = record { clause = e.clause; level = level } in
    ⊎_elim
    (λ here.
    let both = and_parts (nat_le k e.level) (is_part e.clause c) (subst (λ (y : Entry). is_blocked_by k c y ≡ true) same here) in
    or_left (is_blocked_by k c higher) (is_blocked xs k c)
    (and_both (nat_le k level) (is_part e.clause c) (le_true k level (omega (arith, true_le k e.level both.0, up))) both.1))
    (λ later. or_right (is_blocked_by k c higher) (is_blocked xs k c) later)
    (or_cases (is_blocked_by k c x) (is_blocked xs k c) h)
moved_blocks (x ∷ xs) (suc at) e level k c is up h =
    ⊎_elim (λ here. or_left (is_blocked_by k c x) (is_blocked (moved xs at e level) k c) here)
    (λ later. or_right (is_blocked_by k c x) (is_blocked (moved xs at e level) k c) (moved_blocks xs at e level k c is up later))
    (or_cases (is_blocked_by k c x) (is_blocked xs k c) h)

pub stays_pushed : (t : VerificationTask) (known : List (List ℕ)) (f : Levels) (count after : ℕ) (clauses more : List (List ℕ))
    → IsCore t known f count clauses → after ≡ count → more ≡ clauses → Pushes t known f f after more
stays_pushed t known f count after clauses more core count_is added_is = record {
  core = subst (λ n. IsCore t known f n more) (sym count_is)
      (subst (λ (cs : List (List ℕ)). IsCore t known f count cs) (sym added_is) core);
  top = refl;
  length = refl;
  tighter = record { rises = λ c. omega arith; back = λ k s h. h };
  stays = λ c h. h;
}

pub moved_is_pushed : (t : VerificationTask) (known : List (List ℕ)) (old new : Levels) (count after : ℕ) (clauses more : List (List ℕ))
    (at level : ℕ) → IsCore t known old count clauses → at < length old.kept → level < old.top
    → IfEntry old.kept at (λ (e : Entry). e.level ≡ level) → IfEntry old.kept at (λ (e : Entry). IsKeptAt t known old level e.clause)
    → IfEntry old.kept at (λ (e : Entry). new.kept ≡ moved old.kept at e (level + 1)) → new.top ≡ old.top
    → Serves t.design known new after more → Pushes t known old new after more
moved_is_pushed t known old new count after clauses more at level core within high stands kept kept_is top_is serves = record {
  core = record {
    sound = subst (λ (ks : List Entry). AreSound (circuit t.design) t.expected known ks) (sym is)
        (gains_are_sound (circuit t.design) t.expected known old.kept (moved old.kept at e (level + 1)) level e.clause core.sound blocked gains);
    apart = subst AreApart (sym is) (moves_stay_apart old.kept at e (level + 1) core.apart there);
    own = subst (λ (ks : List Entry). All (λ (e : Entry). is_foreign (circuit t.design) e.clause ≡ false) ks) (sym is)
        (all_moved (λ (e : Entry). is_foreign (circuit t.design) e.clause ≡ false) old.kept at e (level + 1) core.own
        (all_at (λ (e : Entry). is_foreign (circuit t.design) e.clause ≡ false) old.kept at e there core.own));
    levels = subst (λ (ks : List Entry). All (λ (e : Entry). (1 ≤ e.level) × (e.level ≤ new.top)) ks) (sym is)
        (subst (λ top. All (λ (e : Entry). (1 ≤ e.level) × (e.level ≤ top)) (moved old.kept at e (level + 1))) (sym top_is)
        (all_moved (λ (e : Entry). (1 ≤ e.level) × (e.level ≤ old.top)) old.kept at e (level + 1) core.levels (omega arith, omega (arith, high))));
    serves = serves;
  };
  top = top_is;
  length = ap length is ∙ moved_length old.kept at e (level + 1);
  tighter = record {
    rises = λ c. subst (λ (ks : List Entry). greatest old.kept c ≤ greatest ks c) (sym is)
        (moves_never_lower old.kept at e (level + 1) c there up);
    back = λ k s h. (moves_gain (circuit t.design) old.kept at e (level + 1) there up).back k s
        (subst (λ (ks : List Entry). MeetsAt (circuit t.design) s ks k) is h);
  };
  stays = λ c h. subst (λ (ks : List Entry). is_blocked ks new.top c ≡ true) (sym is)
      (subst (λ top. is_blocked (moved old.kept at e (level + 1)) top c ≡ true) (sym top_is)
      (moved_blocks old.kept at e (level + 1) old.top c there up h));
}
  where
    found : (e : Entry) × (slice_get old.kept at ≡ Some e)
    found = entry_of old.kept at within

    e : Entry
    e = found.0

    there : slice_get old.kept at ≡ Some e
    there = found.1

    is : new.kept ≡ moved old.kept at e (level + 1)
    is = kept_is e there

    up : e.level ≤ level + 1
    up = omega (arith, stands e there)

    blocked : IsBlockedFrom (circuit t.design) t.expected known old.kept level e.clause
    blocked = kept_is_blocked t known old level e.clause (kept_begins t known old count clauses at e core there) (kept e there)

    gains : Gains (circuit t.design) (level + 1) e.clause old.kept (moved old.kept at e (level + 1))
    gains = moves_gain (circuit t.design) old.kept at e (level + 1) there up

pub pushes_then : (t : VerificationTask) (known : List (List ℕ)) (first second third : Levels) (count after : ℕ)
    (clauses more : List (List ℕ)) → Pushes t known first second count clauses → Pushes t known second third after more
    → Pushes t known first third after more
pushes_then t known first second third count after clauses more a b = record {
  core = b.core;
  top = b.top ∙ a.top;
  length = b.length ∙ a.length;
  tighter = record {
    rises = λ c. omega (arith, a.tighter.rises c, b.tighter.rises c);
    back = λ k s h. a.tighter.back k s (b.tighter.back k s h);
  };
  stays = λ c h. b.stays c (a.stays c h);
}

-- one more level at the top changes no kept clause
grown_core : (t : VerificationTask) (known : List (List ℕ)) (f : Levels) (count after : ℕ) (clauses more : List (List ℕ))
    → IsCore t known f count clauses → Serves t.design known (record { top = f.top + 1; kept = f.kept }) after more
    → IsCore t known (record { top = f.top + 1; kept = f.kept }) after more
grown_core t known f count after clauses more core serves = record {
  sound = core.sound;
  apart = core.apart;
  own = core.own;
  levels = λ k d within. let is = core.levels k d within in (is.0, omega (arith, is.1));
  serves = serves;
}

-- the levels once known clauses stand at the new top
pub put_core : (t : VerificationTask) (known : List (List ℕ)) (old grown put : Levels) (count after : ℕ) (clauses more : List (List ℕ))
    → IsKnown (problem t) known → IsCore t known old count clauses → grown ≡ record { top = old.top + 1; kept = old.kept }
    → Serves t.design known grown after more → put.top ≡ grown.top → put.kept ≡ put_all grown.top known grown.kept
    → IsCore t known put after more
put_core t known old grown put count after clauses more is core grown_is serves top_is kept_is =
    let there = grown_core t known old count after clauses more core (subst (λ (f : Levels). Serves t.design known f after more) grown_is serves) in
    let base = subst (λ (f : Levels). IsCore t known f after more) (sym grown_is) there in
    let puts = known_is_put t known is.inductive is.own grown.top grown.kept (low grown_is) in
    let done = puts.put.core after more base in
    subst (λ top. IsCore t known (record { top = top; kept = put.kept }) after more) (sym top_is)
    (subst (λ (kept : List Entry). IsCore t known (record { top = grown.top; kept = kept }) after more) (sym kept_is) done)
  where
    low : grown ≡ record { top = old.top + 1; kept = old.kept } → 1 ≤ grown.top
    low e = let h = ap (λ (f : Levels). f.top) e in omega (arith, h)

pub raised_by : (t : VerificationTask) (known : KnownList) (old grown put new : Levels) (queue : List Obligation) (count last : ℕ)
    (clauses rest : List (List ℕ)) → IsKnown (problem t) (all_of known) → IsCore t (all_of known) old count clauses
    → grown ≡ record { top = old.top + 1; kept = old.kept } → put.top ≡ grown.top
    → put.kept ≡ put_all grown.top (all_of known) grown.kept → Pushes t (all_of known) put new last rest
    → IsRaised t (old.top + 1) (state known old queue count clauses) (state known new queue last rest)
raised_by t known old grown put new queue count last clauses rest is core grown_is top_is kept_is pushed =
    let puts = known_is_put t (all_of known) is.inductive is.own grown.top grown.kept low in
    let tops : put.top ≡ old.top + 1 = top_is ∙ ap (λ (f : Levels). f.top) grown_is in
    record {
      search = record {
        core = pushed.core;
        low = omega (arith, pushed.top, tops);
        blocked = λ k d within. pushed.stays (get_or (all_of known) k d)
            (subst (λ (kept : List Entry). is_blocked kept put.top (get_or (all_of known) k d) ≡ true) (sym kept_is)
            (subst (λ top. is_blocked (put_all grown.top (all_of known) grown.kept) top (get_or (all_of known) k d) ≡ true) (sym top_is)
            (puts.blocked k d within)));
      };
      top_is = pushed.top ∙ tops;
      tighter = record {
        rises = λ c.
            let first = subst (λ (kept : List Entry). greatest kept c ≤ greatest (put_all grown.top (all_of known) grown.kept) c)
            (ap (λ (f : Levels). f.kept) grown_is) (puts.put.tighter.rises c) in
            let second = subst (λ (kept : List Entry). greatest kept c ≤ greatest new.kept c) kept_is (pushed.tighter.rises c) in
            omega (arith, first, second);
        back = λ k s h.
            subst (λ (kept : List Entry). MeetsAt (circuit t.design) s kept k) (ap (λ (f : Levels). f.kept) grown_is)
            (puts.put.tighter.back k s
            (subst (λ (kept : List Entry). MeetsAt (circuit t.design) s kept k) kept_is (pushed.tighter.back k s h)));
      };
      queue = refl;
    }
  where
    low : 1 ≤ grown.top
    low = let h = ap (λ (f : Levels). f.top) grown_is in omega (arith, h)
