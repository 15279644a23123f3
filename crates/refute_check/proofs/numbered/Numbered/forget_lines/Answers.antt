use Rattle.std.proofs.Common.{◌≡◌, ℕ, ◌+◌, ◌-◌, ◌≤◌, List, length, min, take, vec_capacity, ◌∙◌, ap, arith}
use Rattle.std.proofs.lemmas.List.{length-take}
use Rattle.refute_check.specs.Checked.{Numbering, clauses_at}
use Rattle.refute_check.proofs.ListLemmas.{clauses_at_take, same_numbering}
use Rattle.refute_check.proofs.numbered.Numbered.forget_lines.Goals as goal

pub returns : goal.returns
returns c =
    let items : List (List ℕ) = c.self.inside.clauses.items in
    let places : List ℕ = c.self.inside.added.items in
    let old : Numbering = c.args.self.now in
    let n : ℕ = c.self.inside.kept in
    let list : items ≡ old.list = ap (λ (r : Numbering). r.list) c.self.view_is in
    let spare : min (vec_capacity c.self.inside.clauses) 4294967295 - length items ≡ old.spare =
    ap (λ (r : Numbering). r.spare) c.self.view_is in
    let added : clauses_at items places ≡ old.added = ap (λ (r : Numbering). r.added) c.self.view_is in
    let kept : n ≡ old.kept = ap (λ (r : Numbering). r.kept) c.self.view_is in
    let news : List (List ℕ) = c.truncate.new.self.items in
    let cut : news ≡ take n items = c.truncate.ensures.items in
    let fits : n ≤ length items = c.self.invariant.1 in
    let left : length news ≡ n = ap length cut ∙ omega (arith, length-take n items) in
    let all : length items ≡ length old.list = ap length list in
    let room : min (vec_capacity c.truncate.new.self) 4294967295 - length news
    ≡ old.spare + (length old.list - old.kept) =
    let same : vec_capacity c.truncate.new.self ≡ vec_capacity c.self.inside.clauses = c.truncate.ensures.capacity in
    omega arith in
    same_numbering news (take old.kept old.list) (clauses_at news places) old.added
    (min (vec_capacity c.truncate.new.self) 4294967295 - length news) (old.spare + (length old.list - old.kept)) n old.kept
    (cut ∙ ap (λ v. take v items) kept ∙ ap (take old.kept) list) room
    (ap (λ v. clauses_at v places) cut ∙ clauses_at_take items n places fits c.self.invariant.2 ∙ added) kept
