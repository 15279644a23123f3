-- Statements over the definitions alone.
use Rattle.std.specs.Prelude.{◌≡◌, ℕ, true, List, All}
use Rattle.ja_base.specs.Invariants.{IsInductive}
use Rattle.aig_model.specs.Netlist.{circuit}
use Rattle.aig_model.specs.Task.{VerificationTask}
use Rattle.ic3_frames.specs.Levels.{Levels, is_blocked}
use Rattle.ic3_query.specs.Serving.{Fits, FitsFrames}

-- where each known clause is blocked at the top, the levels alone say what the solver says up to the top
abbrev pub FramesFit : Type 0
FramesFit = (t : VerificationTask) (known : List (List ℕ)) (f : Levels) (clauses : List (List ℕ))
    → IsInductive (circuit t.design) t.expected known
    → All (λ clause. is_blocked f.kept f.top clause ≡ true) known
    → Fits t.design known f clauses → FitsFrames t.design f clauses
