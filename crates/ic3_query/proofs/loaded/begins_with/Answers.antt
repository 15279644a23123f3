use Rattle.std.proofs.Common.{◌≡◌, sym, ◌∙◌}
use Rattle.std.specs.Prelude.{bytes_eq}
use Rattle.std.proofs.lemmas.Bool.{not-false}
use Rattle.std.proofs.lemmas.Slice.Eq.{bytes_eq-Decides}
use Rattle.ic3_query.proofs.PrefixLemmas.{taken_again}
use Rattle.ic3_query.proofs.loaded.begins_with.Goals as goal

pub loop-at-preserved : goal.loop-at-preserved
loop-at-preserved c =
    let same : c.lits.result.now ≡ c.lits-in-loop-at.result.now =
    (bytes_eq-Decides c.lits.result.now c.lits-in-loop-at.result.now).0
    (not-false (bytes_eq c.lits.result.now c.lits-in-loop-at.result.now) (sym c.if-ne.ensures)) in
    taken_again c.args.list.now.clauses c.args.held.now c.loop-at.at c.clause.result.now c.get.result.now c.loop-at.invariant
    c.clause.ensures c.get.ensures (sym c.lits-in-loop-at.ensures.value ∙ sym same ∙ c.lits.ensures.value)
