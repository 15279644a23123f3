use Rattle.report.proofs.DecodeLemmas.{told}
use Rattle.report.proofs.NumbersLemmas.{set_tested}
use Rattle.report.proofs.read_set.is_set.Goals as goal

pub returns-then-ascend : goal.returns-then-ascend
returns-then-ascend c =
    set_tested c.are_below.result c.args.count c.args.props.now (told c.ascend.result c.if-ascend.true c.ascend.ensures)
    c.are_below.ensures
