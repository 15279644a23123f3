-- What contracts see of a report.
use Rattle.std.specs.Prelude.{ℕ, ◌+◌, Bool, List, [], ◌∷◌, map, if◌then◌else◌}
use Rattle.store_core.specs.declared.journal.Entry.{Entry}
use Rattle.store_core.specs.declared.mark.Mark.{Mark}
use Rattle.store_core.specs.MarkKinds.{fails}
use Rattle.report.specs.declared.parts.Sizes.{Sizes}
use Rattle.report.specs.declared.parts.PropLine.{PropLine}
use Rattle.report.specs.declared.parts.PropStim.{PropStim}

pub record Findings : Type 0 where
  pub sizes : Sizes
  pub lines : List PropLine
  pub clauses : List (List ℕ)
  pub stimuli : List PropStim
  pub joined : Bool
  pub set : List ℕ
  pub journal : List Entry
  pub shown : Bool

-- the marks of all properties
abbrev pub marks_of : List PropLine → List Mark
marks_of lines = map (λ (l : PropLine). l.mark) lines

-- the properties that fail, where the first of these marks is the one of p
abbrev pub failing_from : ℕ → List Mark → List ℕ
failing_from p [] = []
failing_from p (m ∷ marks) = if fails m then p ∷ failing_from (p + 1) marks else failing_from (p + 1) marks

-- the report without the journal that its text does not show
abbrev pub as_shown : Findings → Findings
as_shown r = if r.shown then r else record r { journal = [] }
