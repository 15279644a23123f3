use Rattle.std.proofs.Common.{ap, ◌∙◌}
use Rattle.aig_model.specs.Netlist.{circuit}
use Rattle.ic3_query.specs.Known.{KnownList}
use Rattle.ic3_engine.proofs.ViewLemmas.{both, covers_known}
use Rattle.ic3_engine.proofs.local.find.Goals as goal

pub proved_by-requires-clause-covers : goal.proved_by-requires-clause-covers
proved_by-requires-clause-covers g c = c.in_ok-is_covered.ensures.answer.0 c.if-branch.true

pub returns-clause-covered : goal.returns-clause-covered
returns-clause-covered g c covers =
    absurd (both c.in_ok-is_covered.field-0
    (c.in_ok-is_covered.ensures.answer.1 (covers_known (circuit c.args.coded.now.design) c.of-known.result c.args.view.now.clauses
    c.args.prop (ap (λ (k : KnownList). k.list) c.of-known.ensures ∙ c.in_ok-copy.ensures.clauses)
    (ap (λ (k : KnownList). k.own) c.of-known.ensures) covers))
    c.if-branch.false)

pub returns-clause-few : goal.returns-clause-few
returns-clause-few g c covers =
    absurd (both c.in_ok-is_covered.field-0
    (c.in_ok-is_covered.ensures.answer.1 (covers_known (circuit c.args.coded.now.design) c.of-known.result c.args.view.now.clauses
    c.args.prop (ap (λ (k : KnownList). k.list) c.of-known.ensures ∙ c.in_ok-copy.ensures.clauses)
    (ap (λ (k : KnownList). k.own) c.of-known.ensures) covers))
    c.if-branch.false)
