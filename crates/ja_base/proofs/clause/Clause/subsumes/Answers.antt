use Rattle.std.proofs.Common.{◌≡◌}
use Rattle.std.proofs.lemmas.Bool.Decides.{Decides-at}
use Rattle.ja_base.specs.Clauses.{is_part}
use Rattle.ja_base.proofs.ClauseLemmas.{is_part_decides}
use Rattle.ja_base.proofs.clause.Clause.subsumes.Goals as goal

pub returns-clause-exact : goal.returns-clause-exact
returns-clause-exact c =
    let e : c.is_among.result ≡ is_part c.args.self.now c.args.other.now = cc in
    Decides-at c.is_among.result (is_part c.args.self.now c.args.other.now) e (is_part_decides c.args.self.now c.args.other.now)
