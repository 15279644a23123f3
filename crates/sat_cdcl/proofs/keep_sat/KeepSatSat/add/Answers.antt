use Rattle.std.proofs.Common.{◌≡◌, ℕ, ◌+◌, ◌<◌, ◌^◌, List, [], ◌∷◌, ◌++◌, length, sym, subst, ◌∙◌, ap, arith}
use Rattle.std.proofs.lemmas.Bool.Decides.{nat_tests}
use Rattle.refute_check.specs.Checked.{clauses_at}
use Rattle.refute_check.proofs.ListLemmas.{clauses_at_push}
use Rattle.sat_plain.specs.Solvers.{Solver}
use Rattle.sat_plain.specs.Trails.{Assigned}
use Rattle.sat_cdcl.specs.Files.{list_of}
use Rattle.sat_cdcl.specs.Questions.{IsKeeper}
use Rattle.sat_cdcl.proofs.KeeperLemmas.{keeper_push}
use Rattle.sat_cdcl.proofs.keep_sat.KeepSatSat.add.Goals as goal

pub invariant_of-self-2 : goal.invariant_of-self-2
invariant_of-self-2 c =
    let list : List (List ℕ) = list_of c.self.inside.db in
    let added : List ℕ = c.self.inside.added.items in
    let P : List ℕ → Type 0 = IsKeeper c.self.inside.order c.put.new.self in
    let items : c.push_reserved.new.self.items ≡ added ++ length list ∷ [] =
    c.push_reserved.ensures.items ∙ ap (λ v. v ++ c.len-place.result ∷ []) c.reserve.ensures.items
    ∙ ap (λ n. added ++ n ∷ []) c.len-place.ensures.list in
    let short : length added + 1 < 2 ^ 32 =
    let all = c.self.invariant.short in
    let off = c.if-number.false in
    let is = c.len-number.ensures in
    grind (arith, nat_tests) in
    subst P (sym items)
    (keeper_push c.self.inside.order c.self.inside.db c.put.new.self added c.args.clause.now c.self.invariant
    (ap (λ (t : Assigned). t) c.in_ok-put.ensures.trail)
    (c.in_ok-put.ensures.list ∙ ap (λ k. list ++ k ∷ []) c.in_ok-clause.ensures) short)

pub returns-clause-ok : goal.returns-clause-ok
returns-clause-ok c =
    let list : List (List ℕ) = list_of c.self.inside.db in
    let added : List ℕ = c.self.inside.added.items in
    let clause : List ℕ = c.args.clause.now in
    let items : c.push_reserved.new.self.items ≡ added ++ length list ∷ [] =
    c.push_reserved.ensures.items ∙ ap (λ v. v ++ c.len-place.result ∷ []) c.reserve.ensures.items
    ∙ ap (λ n. added ++ n ∷ []) c.len-place.ensures.list in
    ap (clauses_at (list_of c.put.new.self)) items
    ∙ ap (λ v. clauses_at v (added ++ length list ∷ []))
    (c.in_ok-put.ensures.list ∙ ap (λ k. list ++ k ∷ []) c.in_ok-clause.ensures)
    ∙ clauses_at_push list clause added c.self.invariant.within
    ∙ ap (λ (s : Solver). s.added ++ clause ∷ []) c.self.view_is
