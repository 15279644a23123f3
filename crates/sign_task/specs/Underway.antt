-- The board of a sign-off while it goes on, and once it is over.
use Rattle.std.specs.Prelude.{◌≡◌, ℕ, ◌<◌, true, Some, length, is_some, IsSome, IsTrue}
use Rattle.ja_base.specs.Literals.{bit}
use Rattle.aig_model.specs.Task.{VerificationTask, problem}
use Rattle.inv_cert.specs.Closed.{ClosedList}
use Rattle.local_stim.specs.Found.{FoundFailure}
use Rattle.store_core.specs.declared.mark.Mark.TheVariants.{Fails}
use Rattle.store_core.specs.Steps.{mark_of}
use Rattle.store_core.specs.Boards.{BoardValue}
use Rattle.job_plan.specs.Plans.{IsPlan}
use Rattle.sign_task.specs.declared.terms.Terms.{Terms}
use Rattle.sign_task.specs.Openings.{opening_of}

-- a board of closed lists and local failures
abbrev pub SignBoard : Type 0
SignBoard = BoardValue ClosedList FoundFailure

-- the board is one of the task, opened with its plan on these terms
pub record IsUnderway (t : VerificationTask) (terms : Terms) (board : SignBoard) : Type 0 where
  pub plan : IsPlan (problem t) board.opening.plan
  pub opening : board.opening ≡ opening_of t.expected board.opening.plan terms
  pub task : problem board.list.task ≡ problem t
  pub width : length board.state.marks ≡ length t.design.bads

-- a Cancel stands
abbrev pub IsStopped : SignBoard → Type 0
IsStopped board = IsTrue (is_some board.state.cancel)

-- under fail-fast a Cancel stands if this property is expected to hold and fails
abbrev pub IsHaltedAt : VerificationTask → SignBoard → ℕ → Type 0
IsHaltedAt t board p = board.opening.fail_fast ≡ true → bit t.expected p ≡ true
    → mark_of board.state.marks p ≡ Some Fails → IsStopped board

-- so it is of each property
abbrev pub IsHalted : VerificationTask → SignBoard → Type 0
IsHalted t board = (p : ℕ) → IsHaltedAt t board p

-- the property has a mark
abbrev pub IsMarked : SignBoard → ℕ → Type 0
IsMarked board p = IsSome (mark_of board.state.marks p)

-- each property below n has a mark
abbrev pub AreMarked : SignBoard → ℕ → Type 0
AreMarked board n = (p : ℕ) → p < n → IsMarked board p

-- each property of the task has a mark
abbrev pub IsOver : VerificationTask → SignBoard → Type 0
IsOver t board = AreMarked board (length t.design.bads)

-- marks and a Cancel stay, and nothing but these, the clauses, the failures and the journal changed
pub record Keeps (before after : SignBoard) : Type 0 where
  pub opening : after.opening ≡ before.opening
  pub task : problem after.list.task ≡ problem before.list.task
  pub place : after.state.place ≡ before.state.place
  pub width : length after.state.marks ≡ length before.state.marks
  pub stay : (q : ℕ) → IsMarked before q → IsMarked after q
  pub stopped : IsStopped before → IsStopped after

-- besides, no mark came
pub record KeepsMarks (before after : SignBoard) : Type 0 where
  pub keeps : Keeps before after
  pub marks : after.state.marks ≡ before.state.marks
