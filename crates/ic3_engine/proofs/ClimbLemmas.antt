-- The top is covered: what a fixed level and a new top leave.
use Rattle.std.proofs.Common.{◌≡◌, ℕ, suc, zero, ◌+◌, ◌^◌, ◌≤◌, true, false, List, [], length, get_or, sym, ◌∙◌, arith}
use Rattle.std.proofs.lemmas.Bool.{false≢true}
use Rattle.ja_base.specs.Invariants.{Covers}
use Rattle.aig_model.specs.Netlist.{circuit}
use Rattle.aig_model.specs.Task.{VerificationTask, problem}
use Rattle.ic3_frames.specs.Apart.{IsTighter}
use Rattle.ic3_frames.specs.Levels.{Levels, HasOwnBelow}
use Rattle.ic3_frames.specs.Soundness.{IsIn}
use Rattle.ic3_frames.specs.Sums.{clauses_over, greatest, potential}
use Rattle.ic3_frames.proofs.SoundLemmas.{in_higher}
use Rattle.ic3_frames.proofs.SumLemmas.{sum_rises}
use Rattle.ic3_frames.proofs.TopLemmas.{top_is_bounded}
use Rattle.ic3_query.specs.Known.{all_of}
use Rattle.ic3_query.specs.Questions.{IsGoodFrom}
use Rattle.ic3_engine.specs.Climbing.{Climbs}
use Rattle.ic3_engine.specs.Raising.{IsRaised}
use Rattle.ic3_engine.specs.Searching.{IsSearch, latch_vars}
use Rattle.ic3_engine.specs.Turns.{State}
use Rattle.ic3_engine.proofs.ClauseLemmas.{own_is_over}

-- what no row of a level breaks, no row of a lower one breaks
pub good_lower : (t : VerificationTask) (known : List (List ℕ)) (f : Levels) (count : ℕ) (clauses : List (List ℕ)) (low high p : ℕ)
    → IsSearch t known f count clauses → low ≤ high → IsGoodFrom t known f high p → IsGoodFrom t known f low p
good_lower t known f count clauses low high p s up good st x v step met there constrained =
    good st x v step met (in_higher (circuit t.design) t.expected known f.kept s.core.sound low high st up there) constrained

-- and no row of levels that are tighter
pub good_tighter : (t : VerificationTask) (known : List (List ℕ)) (old new : Levels) (k p : ℕ) → IsTighter (circuit t.design) old.kept new.kept
    → IsGoodFrom t known old k p → IsGoodFrom t known new k p
good_tighter t known old new k p tighter good st x v step met there constrained = good st x v step met (was_in k there) constrained
  where
    was_in : (k : ℕ) → IsIn (circuit t.design) new.kept k st → IsIn (circuit t.design) old.kept k st
    was_in zero h = h
    was_in (suc k) h = tighter.back (suc k) st h

pub sum_is_higher : (t : VerificationTask) (old new : Levels) → IsTighter (circuit t.design) old.kept new.kept
    → potential (latch_vars t.design) old.kept ≤ potential (latch_vars t.design) new.kept
sum_is_higher t old new tighter = sum_rises (greatest old.kept) (greatest new.kept) tighter.rises (clauses_over (latch_vars t.design))

pub top_is_low : (t : VerificationTask) (known : List (List ℕ)) (f : Levels) (count : ℕ) (clauses : List (List ℕ))
    → IsSearch t known f count clauses → HasOwnBelow f.kept f.top → f.top ≤ 3 ^ length (latch_vars t.design) + 1
top_is_low t known f count clauses s own =
    top_is_bounded (latch_vars t.design) f (λ k d within. own_is_over t.design (get_or f.kept k d).clause (s.core.own k d within)) s.core.apart own

-- a fixed level was found, after the top rose or at once
pub fixed_climbs : (t : VerificationTask) (p top : ℕ) (old between new : State) → IsTighter (circuit t.design) old.frames.kept between.frames.kept
    → IsRaised t top between new → between.queue ≡ [] → problem new.known.task ≡ problem t → top ≤ 3 ^ length (latch_vars t.design) + 2
    → Covers (circuit t.design) (all_of new.known) p → Climbs t p old new true
fixed_climbs t p top old between new tighter raised empty task high covers = record {
  engine = record {
    search = raised.search;
    task = task;
    high = omega (arith, high, raised.top_is);
  };
  empty = raised.queue ∙ empty;
  rises =
      let first = sum_is_higher t old.frames between.frames tighter in
      let second = sum_is_higher t between.frames new.frames raised.tighter in
      omega (arith, first, second);
  covers = λ is. covers;
  higher = λ is. absurd (false≢true (sym is));
}

-- none was found
pub raised_climbs : (t : VerificationTask) (p : ℕ) (old new : State) → IsRaised t (old.frames.top + 1) old new → old.queue ≡ []
    → problem new.known.task ≡ problem t → HasOwnBelow new.frames.kept new.frames.top → Climbs t p old new false
raised_climbs t p old new raised empty task own = record {
  engine = record {
    search = raised.search;
    task = task;
    high = let low = top_is_low t (all_of new.known) new.frames new.count new.added raised.search own in omega (arith, low);
  };
  empty = raised.queue ∙ empty;
  rises = sum_is_higher t old.frames new.frames raised.tighter;
  covers = λ is. absurd (false≢true is);
  higher = λ is. raised.top_is;
}
