use Rattle.std.proofs.Common.{◌≡◌, ◌∙◌, ap, sym, subst, eqb, length, ℕ, List, drop}
use Rattle.std.specs.List.{refill, dedup}
use Rattle.std.specs.List.Sorted.{IsPermutation}
use Rattle.std.proofs.lemmas.List.{take_at}
use Rattle.ja_base.specs.Clauses.{IsSetOf}
use Rattle.ja_base.proofs.ClauseLemmas.{IsSetOf-sorted}
use Rattle.ja_base.proofs.SetLemmas.{set_of_ascending}
use Rattle.ja_base.proofs.clause.Clause.from_lits.Goals as goal

-- the slice that was sorted is all of the list
pub returns-clause-set : goal.returns-clause-set
returns-clause-set c =
    let old : List ℕ = c.in_ok-lits.lits.items in
    let sorted : List ℕ = c.sort_unstable.new.self in
    let kept : length sorted ≡ length old = c.sort_unstable.ensures.len ∙ ap length c.as_mut_slice.ensures.value in
    let all : refill (length old) old sorted ≡ sorted = take_at sorted (drop (length sorted) old) (length old) kept in
    let given : c.as_mut_slice.result.now ≡ c.args.lits.now = c.as_mut_slice.ensures.value ∙ c.in_ok-lits.ensures.ok in
    let P : List ℕ → Type 0 = λ v. IsPermutation v sorted in
    let same : IsPermutation c.args.lits.now sorted = subst P given c.sort_unstable.ensures.permutation in
    let Q : List ℕ → Type 0 = λ v. IsSetOf c.args.lits.now v in
    let is : c.dedup.new.self.items ≡ dedup eqb sorted = c.dedup.ensures.items ∙ ap (dedup eqb) all in
    subst Q (sym is) (IsSetOf-sorted c.args.lits.now sorted same c.sort_unstable.ensures.sorted)

pub invariant_of-result : goal.invariant_of-result
invariant_of-result c = let all : IsSetOf c.args.lits.now c.dedup.new.self.items = returns-clause-set c in all.ascends

pub returns-clause-ascending : goal.returns-clause-ascending
returns-clause-ascending c = λ up. set_of_ascending c.args.lits.now c.dedup.new.self.items up (returns-clause-set c)
