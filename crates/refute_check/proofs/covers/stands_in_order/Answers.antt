use Rattle.std.proofs.Common.{◌∙◌}
use Rattle.refute_check.proofs.SearchLemmas.{search_is_exact}
use Rattle.refute_check.proofs.covers.stands_in_order.Goals as goal

pub returns : goal.returns
returns c =
    c.is_ok.ensures.value
    ∙ search_is_exact c.args.lits.now c.args.lit c.binary_search.result c.requires c.binary_search.ensures.position
