use Rattle.std.proofs.Common.{List, ℕ, [], ◌∷◌, ◌++◌, ap, ◌∙◌}
use Rattle.report.proofs.NumbersLemmas.{no_first, not_empty, numbers_end}
use Rattle.report.proofs.read_clauses.numbers_of.Goals as goal

pub returns-in_default : goal.returns-in_default
returns-in_default c = no_first c.args.line.now
    (not_empty c.args.line.now c.is_empty.result c.is_empty.ensures c.if-is_empty.false) c.in_default.ensures.read

pub returns : goal.returns
returns c =
    let begun = c.in_ok-push.ensures.items ∙ ap (λ (v : List ℕ). v ++ c.in-Some.first ∷ []) c.clear.ensures.items in
    numbers_end c.is_empty-2.result c.args.line.now c.in-Some.first c.in-Some.rest.now c.push.new.self.items c.fill.new.lits.items
    c.in_ok-rest.rest.now
    c.is_empty-2.ensures c.in-Some.ensures.read c.in_ok-rest.ensures begun
