use Rattle.ja_project.proofs.NextLemmas.{HasFirst}
use Rattle.ja_project.proofs.nexts.next_table.Given as goal

abbrev pub invariant-loop-at : goal.invariant-loop-at
invariant-loop-at l = HasFirst l.design l.at l.nexts.items
