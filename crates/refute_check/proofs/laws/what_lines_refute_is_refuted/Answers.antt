use Rattle.std.proofs.Common.{◌≡◌, true, get_or}
use Rattle.std.proofs.lemmas.List.Elements.{All-contains}
use Rattle.ja_base.specs.Literals.{value}
use Rattle.ja_base.proofs.ClauseLemmas.{is_part_decides}
use Rattle.refute_check.proofs.Covered.{covered_by_lines}
use Rattle.refute_check.proofs.laws.what_lines_refute_is_refuted.Goals as goal

pub returns : goal.returns
returns c = λ vars clauses under refuted h row meets.
    covered_by_lines vars clauses refuted.lines refuted.core h.accepted h.covered row (record {
      width = meets.width;
      clauses_hold = meets.clauses_hold;
      under_holds = λ k d less.
          All-contains (λ l. value row l ≡ true) under (get_or refuted.core k d) meets.under_holds
          ((is_part_decides refuted.core under).0 h.part k d less);
    })
