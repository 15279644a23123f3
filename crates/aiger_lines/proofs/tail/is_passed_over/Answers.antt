use Rattle.std.proofs.Common.{arith}
use Rattle.std.proofs.lemmas.Bool.Decides.{nat_tests}
use Rattle.aiger_lines.proofs.TailLemmas.{passed_over_is}
use Rattle.aiger_lines.proofs.tail.is_passed_over.Goals as goal

pub returns-else-is_empty : goal.returns-else-is_empty
returns-else-is_empty c = rw c.symbol.ensures
    (passed_over_is c.args.header.now c.args.line.now c.requires (grind (arith, nat_tests)))
