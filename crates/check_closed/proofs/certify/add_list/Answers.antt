use Rattle.std.proofs.Common.{◌≡◌, List, ℕ, false, sym, subst, ◌∙◌}
use Rattle.std.specs.Prelude.{All}
use Rattle.std.proofs.lemmas.Option.{get_or_from_slice_get, slice_get_within}
use Rattle.ja_base.specs.Circuit.{Problem}
use Rattle.ja_base.specs.Clauses.{IsBelow}
use Rattle.aig_model.specs.Netlist.{circuit}
use Rattle.ja_project.specs.Latches.{is_foreign}
use Rattle.ja_project.proofs.ForeignLemmas.{own_is_below}
use Rattle.check_closed.proofs.certify.add_list.Goals as goal

pub add-requires : goal.add-requires
add-requires c =
    let n = c.args.coded.now.design in
    let clauses : List (List ℕ) = c.args.closed.now.clauses in
    let at : ℕ = c.loop-at.at in
    let clause : List ℕ = c.clause.result.now in
    let P : Problem → Type 0 = λ t. All (λ clause. is_foreign t.circuit clause ≡ false) clauses in
    let own : All (λ clause. is_foreign (circuit n) clause ≡ false) clauses = subst P c.requires.task
    c.is_closed.ensures.closed.own in
    let Q : List ℕ → Type 0 = λ k. is_foreign (circuit n) k ≡ false in
    let one : Q clause = subst Q (get_or_from_slice_get clauses at clause clause c.clause.ensures)
    (own at clause (slice_get_within clauses at clause c.clause.ensures)) in
    let R : ℕ → Type 0 = λ vars. IsBelow vars clause in
    subst R (sym (c.loop-at.invariant ∙ c.requires.vars)) (own_is_below n c.task-task.ensures.sound clause one)
