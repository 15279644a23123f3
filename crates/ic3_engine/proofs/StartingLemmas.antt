-- The first levels.
use Rattle.std.proofs.Common.{◌≡◌, ℕ, ◌+◌, ◌≤◌, true, false, List, [], sym, ap, subst, arith}
use Rattle.std.specs.Prelude.{All}
use Rattle.std.proofs.lemmas.List.Elements.{All-nil}
use Rattle.aig_model.specs.Netlist.{circuit}
use Rattle.aig_model.specs.Task.{VerificationTask, problem}
use Rattle.ja_project.specs.Latches.{is_foreign}
use Rattle.ic3_frames.specs.Levels.{Entry, Levels, is_blocked}
use Rattle.ic3_frames.specs.Soundness.{Meets}
use Rattle.ic3_query.specs.Known.{IsKnown, KnownList, all_of}
use Rattle.ic3_query.specs.Serving.{Serves}
use Rattle.ic3_engine.specs.Climbing.{IsEngine}
use Rattle.ic3_engine.specs.Putting.{put_all}
use Rattle.ic3_engine.specs.Searching.{IsCore}
use Rattle.ic3_engine.specs.Turns.{state}
use Rattle.ic3_engine.proofs.PutLemmas.{known_is_put}
use Rattle.ic3_engine.proofs.RaiseLemmas.{put_core}

no_levels : (t : VerificationTask) (known : List (List ℕ)) (count : ℕ) (clauses : List (List ℕ))
    → Serves t.design known (record { top = 0; kept = [] }) count clauses → IsCore t known (record { top = 0; kept = [] }) count clauses
no_levels t known count clauses serves = record {
  sound = record {
    starts = λ s initial. All-nil (λ (e : Entry). 0 ≤ e.level → Meets (circuit t.design) s e.clause);
    steps = λ k s x v step met there constrained held. All-nil _;
  };
  apart = λ i j d before within. absurd (omega (arith, within));
  own = All-nil (λ (e : Entry). is_foreign (circuit t.design) e.clause ≡ false);
  levels = All-nil (λ (e : Entry). (1 ≤ e.level) × (e.level ≤ 0));
  serves = serves;
}

pub first_is_engine : (t : VerificationTask) (known : KnownList) (grown put : Levels) (count after : ℕ) (clauses more : List (List ℕ))
    → IsKnown (problem t) (all_of known) → problem known.task ≡ problem t
    → Serves t.design (all_of known) (record { top = 0; kept = [] }) count clauses → grown ≡ record { top = 0 + 1; kept = [] }
    → Serves t.design (all_of known) grown after more → put.top ≡ grown.top → put.kept ≡ put_all grown.top (all_of known) grown.kept
    → IsEngine t (state known put [] after more)
first_is_engine t known grown put count after clauses more is task opened grown_is serves top_is kept_is =
    let one : grown.top ≡ 1 = ap (λ (f : Levels). f.top) grown_is in
    let puts = known_is_put t (all_of known) is.inductive is.own grown.top grown.kept (omega (arith, one)) in
    record {
      search = record {
        core = put_core t (all_of known) (record { top = 0; kept = [] }) grown put count after clauses more is
            (no_levels t (all_of known) count clauses opened) grown_is serves top_is kept_is;
        low = omega (arith, top_is, one);
        blocked = subst (λ (kept : List Entry). All (λ c. is_blocked kept put.top c ≡ true) (all_of known)) (sym kept_is)
            (subst (λ top. All (λ c. is_blocked (put_all grown.top (all_of known) grown.kept) top c ≡ true) (all_of known)) (sym top_is)
            puts.blocked);
      };
      task = task;
      high = omega (arith, top_is, one);
    }
