use Rattle.std.proofs.Common.{◌≡◌, ℕ, ◌+◌, ◌-◌, ◌<◌, List, [], ◌∷◌, ◌++◌, length, min, vec_capacity, ◌∙◌, ap, arith}
use Rattle.std.specs.List.{All}
use Rattle.std.proofs.lemmas.List.{length-append}
use Rattle.std.proofs.lemmas.List.Elements.{All-weaker}
use Rattle.refute_check.specs.Checked.{Numbering, clauses_at}
use Rattle.refute_check.proofs.ListLemmas.{clauses_at_more, same_numbering}
use Rattle.refute_check.proofs.numbered.Numbered.put.Goals as goal

pub returns : goal.returns
returns c =
    let items : List (List ℕ) = c.self.inside.clauses.items in
    let places : List ℕ = c.self.inside.added.items in
    let old : Numbering = c.args.self.now in
    let clause : List ℕ = c.args.clause in
    let list : items ≡ old.list = ap (λ (r : Numbering). r.list) c.self.view_is in
    let spare : min (vec_capacity c.self.inside.clauses) 4294967295 - length items ≡ old.spare =
    ap (λ (r : Numbering). r.spare) c.self.view_is in
    let added : clauses_at items places ≡ old.added = ap (λ (r : Numbering). r.added) c.self.view_is in
    let kept : c.self.inside.kept ≡ old.kept = ap (λ (r : Numbering). r.kept) c.self.view_is in
    let news : List (List ℕ) = c.push_reserved.new.self.items in
    let more : news ≡ items ++ clause ∷ [] = c.push_reserved.ensures.items in
    let one : length news ≡ length items + 1 = ap length more ∙ length-append items (clause ∷ []) in
    let room : min (vec_capacity c.push_reserved.new.self) 4294967295 - length news ≡ old.spare - 1 =
    let same : vec_capacity c.push_reserved.new.self ≡ vec_capacity c.self.inside.clauses =
    c.push_reserved.ensures.capacity in
    omega arith in
    let within : All (λ k. k < length items) places =
    All-weaker (λ k. k < c.self.inside.kept) (λ k. k < length items) (λ k less. omega arith) places
    c.self.invariant.2 in
    same_numbering news (old.list ++ clause ∷ []) (clauses_at news places) old.added
    (min (vec_capacity c.push_reserved.new.self) 4294967295 - length news) (old.spare - 1) c.self.inside.kept old.kept
    (more ∙ ap (λ v. v ++ clause ∷ []) list) room
    (ap (λ v. clauses_at v places) more ∙ clauses_at_more items (clause ∷ []) places within ∙ added) kept
