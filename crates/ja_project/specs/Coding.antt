-- What a coded task keeps, and how it is made.
use Rattle.std.specs.Prelude.{◌≡◌, ℕ, ◌+◌, ◌==◌, ◌||◌, Bool, Some, List, length, slice_get}
use Rattle.std.specs.List.{list_any}
use Rattle.ja_base.specs.Literals.{bit, variable}
use Rattle.aig_model.specs.declared.netlist.Latch.{Latch}
use Rattle.aig_model.specs.Netlist.{Netlist, IsSound}
use Rattle.aig_model.specs.Task.{VerificationTask}
use Rattle.ja_project.specs.CodedClauses.{coded_clauses, held_literals}

-- a literal for each variable; at that of a latch, what the latch holds one step later
pub record HasNexts (n : Netlist) (nexts : List ℕ) : Type 0 where
  pub width : length nexts ≡ n.vars + 1
  pub each : (k : ℕ) (latch : Latch) → slice_get n.latches k ≡ Some latch
      → slice_get nexts (variable latch.lit) ≡ Some latch.next

-- the clauses, the held literals and the table of this task, which is well formed
pub record IsCoding (t : VerificationTask) (clauses : List (List ℕ))
    (held nexts : List ℕ) : Type 0 where
  pub sound : IsSound t.design
  pub expected : length t.expected ≡ length t.design.bads
  pub clauses_are : clauses ≡ coded_clauses t.design
  pub held_are : held ≡ held_literals t
  pub nexts_are : HasNexts t.design nexts

-- in the new row the bits of these variables are 1 too
pub record Marks (vars : List ℕ) (old new : List Bool) : Type 0 where
  pub width : length new ≡ length old
  pub marked : (u : ℕ) → bit new u ≡ (bit old u || list_any (λ v. u == v) vars)
