use Rattle.std.proofs.Common.{◌≡◌, ℕ, ◌+◌, ◌-◌, ◌<◌, List, [], ◌∷◌, ◌++◌, length, min, vec_capacity, sym, ◌∙◌, ap, arith}
use Rattle.std.specs.List.{All}
use Rattle.std.proofs.lemmas.List.{length-append}
use Rattle.std.proofs.lemmas.List.Elements.{All-weaker}
use Rattle.refute_check.specs.Checked.{Numbering, clauses_at}
use Rattle.refute_check.proofs.ListLemmas.{clauses_at_push}
use Rattle.refute_check.proofs.numbered.Numbered.add.Goals as goal

pub returns-clause-ok : goal.returns-clause-ok
returns-clause-ok c =
    let items : List (List ℕ) = c.self.inside.clauses.items in
    let places : List ℕ = c.self.inside.added.items in
    let old : Numbering = c.args.self.now in
    let clause : List ℕ = c.args.clause in
    let list : items ≡ old.list = ap (λ (r : Numbering). r.list) c.self.view_is in
    let spare : min (vec_capacity c.self.inside.clauses) 4294967295 - length items ≡ old.spare =
    ap (λ (r : Numbering). r.spare) c.self.view_is in
    let added : clauses_at items places ≡ old.added = ap (λ (r : Numbering). r.added) c.self.view_is in
    let news : List (List ℕ) = c.push_reserved.new.self.items in
    let more : news ≡ items ++ clause ∷ [] = cc in
    let spots : c.push_reserved-2.new.self.items ≡ places ++ length items ∷ [] =
    let number : c.len-number.result ≡ length items = c.len-number.ensures ∙ ap length (sym list) in
    let was : c.reserve.new.self.items ≡ places = c.reserve.ensures.items in
    c.push_reserved-2.ensures.items ∙ ap (λ v. v ++ c.len-number.result ∷ []) was ∙ ap (λ n. places ++ n ∷ []) number in
    let one : length news ≡ length items + 1 = ap length more ∙ length-append items (clause ∷ []) in
    let within : All (λ k. k < length items) places =
    All-weaker (λ k. k < c.self.inside.kept) (λ k. k < length items) (λ k less. omega arith) places
    c.self.invariant.2 in
    record {
      list = more ∙ ap (λ v. v ++ clause ∷ []) list;
      added =
          ap (λ v. clauses_at v c.push_reserved-2.new.self.items) more ∙ ap (clauses_at (items ++ clause ∷ [])) spots
          ∙ clauses_at_push items clause places within ∙ ap (λ v. v ++ clause ∷ []) added;
      kept = omega arith;
      room = omega arith;
    }
