use Rattle.std.proofs.Common.{◌≡◌, ℕ, ◌*◌, Bool, List, length, false, sym, ◌∙◌, ap, arith}
use Rattle.std.proofs.lemmas.List.{length-replicate}
use Rattle.refute_check.specs.Lines.{outcome, assumed, withdrawn, released, unknown}
use Rattle.refute_check.proofs.Undone.{undone}
use Rattle.refute_check.proofs.judge.judge.Goals as goal

pub returns-clause-same : goal.returns-clause-same
returns-clause-same c =
    let vars : ℕ = c.args.vars in
    let list : List (List ℕ) = c.args.clauses.now.list in
    let clause : List ℕ = c.args.line.now.clause in
    let hints : List ℕ = c.args.line.now.hints in
    let last : List Bool = c.follow-refused.new.values in
    let start : c.assume.new.values ≡ assumed clause (unknown vars) =
    c.assume.ensures ∙ ap (λ v. assumed v c.args.values.now) c.lits-lits.ensures.value
    ∙ ap (assumed clause) c.requires.values in
    let is : last ≡ (outcome list hints (assumed clause (unknown vars)) 0).0 =
    c.follow-refused.ensures.row ∙ ap (λ v. (outcome list v c.assume.new.values 0).0) c.as_slice-hints.ensures.value
    ∙ ap (λ v. (outcome list hints v 0).0) start in
    let all : length c.args.values.now ≡ 2 * vars = ap length c.requires.values ∙ length-replicate (2 * vars) false in
    let width : length last ≡ 2 * vars = omega arith in
    c.withdraw.ensures ∙ ap (λ v. withdrawn v c.release.new.values) c.lits-lits.ensures.value
    ∙ ap (withdrawn clause) (c.release.ensures ∙ ap (λ v. released list v last) c.as_slice-hints.ensures.value)
    ∙ undone vars list clause hints last is width ∙ sym c.requires.values
