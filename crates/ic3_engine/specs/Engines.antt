-- What an engine is between two calls, and what a call answers.
use Rattle.std.specs.Prelude.{◌≡◌, ℕ, Bool, true, List, length}
use Rattle.aig_model.specs.Netlist.{Netlist}
use Rattle.aig_model.specs.Task.{VerificationTask, problem}
use Rattle.ic3_query.specs.Questions.{IsRoom}
use Rattle.ic3_engine.specs.declared.engine.Engine.{Engine}
use Rattle.ic3_engine.specs.Climbing.{IsEngine}
use Rattle.ic3_engine.specs.Turns.{State, state}

-- What is known is of the task, and the table is of its design; `failed` has a bit for each property. Where the engine is live,
-- its levels and its solver are of the task too.
pub record IsReady (t : VerificationTask) (s : State) (table : Netlist) (failed : List Bool)
    (live : Bool) : Type 0 where
  pub task : problem s.known.task ≡ problem t
  pub table_is : table ≡ t.design
  pub wide : length failed ≡ length t.design.bads
  pub engine : live ≡ true → IsEngine t s

-- The engine is ready for a property of the task, and its certifier is of the task; `count` and `added` tell the variables and the
-- clauses of its solver.
pub record IsReadyFor {S L : Type 0} (count : S → ℕ) (added : S → List (List ℕ))
    (t : VerificationTask) (engine : Engine S L) : Type 0 where
  pub ready : IsReady t
      (state engine.search.known engine.search.frames engine.search.queue
      (count engine.search.solver) (added engine.search.solver))
      engine.table engine.failed engine.live
  pub room : IsRoom t.design engine.search.room.row engine.search.room.vals
  pub certifier : engine.certifier ≡ t
