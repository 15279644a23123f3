use Rattle.std.proofs.Common.{ℕ, List, [], ◌∷◌, ◌++◌, get_or, take, sym, ◌∙◌, ap}
use Rattle.std.proofs.lemmas.List.{map_push, take_more}
use Rattle.std.proofs.lemmas.Option.{get_or_from_slice_get}
use Rattle.refute_check.specs.Checked.{clauses_at}
use Rattle.sat_cdcl.specs.Files.{list_of}
use Rattle.sat_cdcl.proofs.keep_sat.load.Goals as goal

pub loop-number-preserved : goal.loop-number-preserved
loop-number-preserved g c =
    let list : List (List ℕ) = list_of c.args.db.now in
    let added : List ℕ = c.args.added.now in
    let n : ℕ = c.loop-number.number-index in
    let k : ℕ = get_or added n 0 in
    let f : ℕ → List ℕ = λ j. get_or list j [] in
    record {
      vars = c.in_ok-add.ensures.count ∙ c.loop-number.invariant.vars;
      added = c.in_ok-add.ensures.ok
          ∙ ap (λ v. v ++ c.numbered.result.now ∷ []) c.loop-number.invariant.added
          ∙ ap (λ v. clauses_at list (take n added) ++ v ∷ [])
          (sym (get_or_from_slice_get list k c.numbered.result.now [] c.numbered.ensures.is))
          ∙ sym (map_push f (take n added) k)
          ∙ ap (clauses_at list) (sym (take_more added n 0 c.loop-number-test.true));
    }
