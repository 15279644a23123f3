-- What a push and a new top do to the levels.
use Rattle.std.specs.Prelude.{◌≡◌, ℕ, true, List, length}
use Rattle.aig_model.specs.Netlist.{circuit}
use Rattle.aig_model.specs.Task.{VerificationTask}
use Rattle.ic3_frames.specs.Apart.{IsTighter}
use Rattle.ic3_frames.specs.Levels.{Levels, is_blocked}
use Rattle.ic3_query.specs.Known.{all_of}
use Rattle.ic3_engine.specs.Searching.{IsCore, IsSearch}
use Rattle.ic3_engine.specs.Turns.{State}

-- Clauses moved up: the same top and as many clauses, levels at least as tight, and what was blocked at the top is.
pub record Pushes (t : VerificationTask) (known : List (List ℕ)) (old new : Levels) (count : ℕ)
    (clauses : List (List ℕ)) : Type 0 where
  pub core : IsCore t known new count clauses
  pub top : new.top ≡ old.top
  pub length : length new.kept ≡ length old.kept
  pub tighter : IsTighter (circuit t.design) old.kept new.kept
  pub stays : (c : List ℕ) → is_blocked old.kept old.top c ≡ true → is_blocked new.kept new.top c ≡ true

-- a search whose levels are at least as tight, with this top; what is known and what waits is the same
pub record IsRaised (t : VerificationTask) (top : ℕ) (old new : State) : Type 0 where
  pub search : IsSearch t (all_of new.known) new.frames new.count new.added
  pub top_is : new.frames.top ≡ top
  pub tighter : IsTighter (circuit t.design) old.frames.kept new.frames.kept
  pub queue : new.queue ≡ old.queue
