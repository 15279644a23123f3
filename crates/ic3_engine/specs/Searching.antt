-- What a search keeps of its levels and its solver, and how a descent changes them.
use Rattle.std.specs.Prelude.{◌≡◌, ℕ, ◌<◌, ◌≤◌, true, false, List, map, All}
use Rattle.ja_base.specs.Circuit as plain
use Rattle.aig_model.specs.Netlist.{Netlist, circuit}
use Rattle.aig_model.specs.Task.{VerificationTask}
use Rattle.ja_project.specs.Latches.{is_foreign}
use Rattle.ja_base.specs.Clauses.{is_part}
use Rattle.ic3_frames.specs.Levels.{Levels, AreLevels, is_blocked}
use Rattle.ic3_frames.specs.Soundness.{AreSound}
use Rattle.ic3_frames.specs.Sums.{potential}
use Rattle.ic3_frames.specs.Apart.{AreApart}
use Rattle.ic3_query.specs.Known.{IsForGood, KnownList}
use Rattle.ic3_query.specs.Questions.{AreOwnLevels}
use Rattle.ic3_query.specs.Serving.{Serves}

-- the variables of the latches, over which clauses of the levels are
abbrev pub latch_vars : Netlist → List ℕ
latch_vars n = map (λ (l : plain.Latch). l.var) (circuit n).latches

-- The levels are sound, their clauses are apart and over latches, each stands at a level from 1 to the top, and the solver serves
-- them.
pub record IsCore (t : VerificationTask) (known : List (List ℕ)) (f : Levels) (count : ℕ)
    (clauses : List (List ℕ)) : Type 0 where
  pub sound : AreSound (circuit t.design) t.expected known f.kept
  pub apart : AreApart f.kept
  pub own : AreOwnLevels t.design f.kept
  pub levels : AreLevels f
  pub serves : Serves t.design known f count clauses

-- besides, there is a level above the first, and each known clause is blocked at the top
pub record IsSearch (t : VerificationTask) (known : List (List ℕ)) (f : Levels) (count : ℕ)
    (clauses : List (List ℕ)) : Type 0 where
  pub core : IsCore t known f count clauses
  pub low : 1 ≤ f.top
  pub blocked : All (λ clause. is_blocked f.kept f.top clause ≡ true) known

-- what is closed of it is the same
pub record HasClosed (old new : KnownList) : Type 0 where
  pub task : new.task ≡ old.task
  pub list : new.list ≡ old.list

-- a part of a clause that is inductive with what is known
pub record IsGoodPart (t : VerificationTask) (known : List (List ℕ)) (clause part : List ℕ) : Type 0 where
  pub within : is_part part clause ≡ true
  pub own : is_foreign (circuit t.design) part ≡ false
  pub good : IsForGood (circuit t.design) t.expected known part

-- the same top, and a sum that rose
pub record IsStep (t : VerificationTask) (known : List (List ℕ)) (old new : Levels) (count : ℕ)
    (clauses : List (List ℕ)) : Type 0 where
  pub search : IsSearch t known new count clauses
  pub top : new.top ≡ old.top
  pub rises : potential (latch_vars t.design) old.kept < potential (latch_vars t.design) new.kept

-- the same top, and a sum that did not fall
pub record IsSteps (t : VerificationTask) (known : List (List ℕ)) (old new : Levels) (count : ℕ)
    (clauses : List (List ℕ)) : Type 0 where
  pub search : IsSearch t known new count clauses
  pub top : new.top ≡ old.top
  pub rises : potential (latch_vars t.design) old.kept ≤ potential (latch_vars t.design) new.kept
