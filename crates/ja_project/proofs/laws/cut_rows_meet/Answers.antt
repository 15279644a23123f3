use Rattle.ja_project.proofs.CutLemmas.{cut_meets}
use Rattle.ja_project.proofs.laws.cut_rows_meet.Goals as goal

pub returns : goal.returns
returns c = λ n row sound holds. cut_meets n row sound holds
