use Rattle.std.proofs.Common.{◌≡◌, false, take}
use Rattle.std.specs.List.{All}
use Rattle.sat_cdcl.specs.Questions.{is_tainted}
use Rattle.sat_cdcl.proofs.question.Question.rests_on.Given as goal

abbrev pub invariant-loop-at : goal.invariant-loop-at
invariant-loop-at l = All (λ n. is_tainted l.self.first l.self.taints.items n ≡ false) (take l.at l.hints)
