-- Rounds at the top.
use Rattle.std.proofs.Common.{◌≡◌, ℕ, ◌*◌, ◌-◌, ◌^◌, ◌<◌, ◌≤◌, Bool, false, List, length, refl, sym, ap, subst, arith}
use Rattle.ja_base.specs.Valuation.{latch_row}
use Rattle.aig_model.specs.Netlist.{IsSound, circuit}
use Rattle.aig_model.specs.Task.{VerificationTask}
use Rattle.ic3_general.specs.declared.aim.Aim.{Aim}
use Rattle.ic3_frames.specs.Levels.{Levels, is_blocked}
use Rattle.ic3_frames.specs.Soundness.{IsIn}
use Rattle.ic3_frames.specs.Sums.{potential}
use Rattle.ic3_frames.proofs.TopLemmas.{sum_is_bounded}
use Rattle.ic3_oblig.specs.declared.obligation.Obligation.{Obligation}
use Rattle.ic3_query.specs.Known.{KnownList, all_of}
use Rattle.ic3_engine.specs.Clearing.{GoesOn, room_above}
use Rattle.ic3_engine.specs.Covering.{IsTopCube}
use Rattle.ic3_engine.specs.Searching.{IsSearch, latch_vars}
use Rattle.ic3_engine.specs.Turns.{IsSearching, State, state}
use Rattle.ic3_engine.proofs.TurnLemmas.{lower_waits}

pub top_cube_is_free : (t : VerificationTask) (a : Aim) (f : Levels) (vals : List Bool) (o : Obligation) → IsSound t.design
    → IsTopCube t a f.top vals o → IsIn (circuit t.design) f.kept f.top (latch_row (circuit t.design) vals)
    → is_blocked f.kept o.level o.clause ≡ false
top_cube_is_free t a f vals o sound cube there =
    subst (λ k. is_blocked f.kept k o.clause ≡ false) (sym cube.level_is)
    (lower_waits t.design f.kept o.clause (latch_row (circuit t.design) vals) f.top sound cube.begins cube.around there).1

-- a question changes nothing
pub asked_goes_on : (t : VerificationTask) (a : Aim) (known : KnownList) (f : Levels) (queue : List Obligation) (count next_count : ℕ)
    (added next_added : List (List ℕ)) → IsSearching t a (state known f queue count added) → next_count ≡ count → next_added ≡ added
    → GoesOn t a (state known f queue count added) (state known f queue next_count next_added)
asked_goes_on t a known f queue count next_count added next_added s count_is added_is = record {
  searching = record {
    search = subst (λ n. IsSearch t (all_of known) f n next_added) (sym count_is)
        (subst (λ (clauses : List (List ℕ)). IsSearch t (all_of known) f count clauses) (sym added_is) s.search);
    task = s.task;
    waiting = s.waiting;
  };
  top = refl;
  rises = omega arith;
}

-- where the sum rose, less room is left above it
pub risen_is_less : (t : VerificationTask) (a : Aim) (old new : State) → GoesOn t a old new
    → potential (latch_vars t.design) old.frames.kept < potential (latch_vars t.design) new.frames.kept → room_above t new < room_above t old
risen_is_less t a old new g rises =
    let vars = latch_vars t.design in
    let within = sum_is_bounded vars new.frames g.searching.search.core.levels in
    let here = subst (λ top. potential vars new.frames.kept ≤ 3 ^ length vars * top) g.top within in
    let same : room_above t new ≡ 3 ^ length vars * old.frames.top - potential vars new.frames.kept =
    ap (λ top. 3 ^ length vars * top - potential vars new.frames.kept) g.top in
    omega (arith, rises, here, same)
