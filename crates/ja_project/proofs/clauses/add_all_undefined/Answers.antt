use Rattle.std.proofs.Common.{◌≡◌, ◌-◌, ◌+◌, ◌++◌, [], ◌∷◌, ℕ, Bool, cond, true, ap, subst, ◌∙◌, arith}
use Rattle.std.specs.List.{flat_map, range_with_len}
use Rattle.ja_base.specs.Literals.{literal_of}
use Rattle.ja_project.specs.CodedClauses.{undefined_clauses}
use Rattle.ja_project.proofs.RangeLemmas.{flat_range_more}
use Rattle.ja_project.proofs.clauses.add_all_undefined.Goals as goal

pub loop-var-preserved : goal.loop-var-preserved
loop-var-preserved c =
    let u = c.loop-var.var in
    let low : 1 + (u - 1) ≡ u = omega arith in
    let made : c.add_undefined.new.clauses ≡ c.loop-var.clauses ++ undefined_clauses c.args.design.now u
    = c.in_ok-add_undefined.ensures
    ∙ ap (λ (b : Bool). c.loop-var.clauses ++ cond b [] ((literal_of u true ∷ []) ∷ [])) (c.in_ok-defined.ensures.marked u) in
    flat_range_more (undefined_clauses c.args.design.now) c.args.clauses.now c.loop-var.clauses c.add_undefined.new.clauses 1
    (u - 1) (u + 1 - 1) u (omega arith) (omega arith) c.loop-var.invariant made

pub returns : goal.returns
returns c =
    let all : c.loop-var.var - 1 ≡ c.args.design.now.vars = omega arith in
    let P : ℕ
    → Type 0 = λ n. c.loop-var.clauses ≡ c.args.clauses.now ++ flat_map (undefined_clauses c.args.design.now)
    (range_with_len 1 n) in
    subst P all c.loop-var.invariant
