use Rattle.std.proofs.Common.{List, ℕ, Bool, ◌+◌, ◌<◌, sym, ap, subst, ◌∙◌, arith}
use Rattle.ja_base.specs.Literals.{variable, value}
use Rattle.ja_project.specs.Coding.{IsCoding}
use Rattle.ja_project.proofs.CodingLemmas.{seen_as, says_next}
use Rattle.ja_project.proofs.OverLemmas.{HasLatch, HasLatch-from_test}
use Rattle.ja_project.proofs.NextLemmas.{Says, is_over_within, next_is_exact, next_is_first, next_value, next_is_below}
use Rattle.ja_project.proofs.coded.Coded.next.Goals as goal

coding : (c : goal.After-with_sign_of)
    → IsCoding c.args.self.now c.self.inside.clauses c.self.inside.held c.self.inside.nexts.items
coding c = seen_as c.self.inside.task c.args.self.now c.self.inside.clauses c.self.inside.held c.self.inside.nexts.items
    c.self.invariant c.self.view_is

over : (c : goal.After-with_sign_of) → HasLatch c.args.self.now.design c.args.lit
over c = HasLatch-from_test c.args.self.now.design c.args.lit c.requires

says : (c : goal.After-with_sign_of) → Says c.self.inside.nexts.items c.args.lit c.index-next.result.now
says c =
    says_next c.args.self.now c.self.inside.clauses c.self.inside.held c.self.inside.nexts.items
    (coding c) c.args.lit c.number.result c.index-next.result.now (over c)
    (c.number.ensures ∙ c.var.ensures) c.index-next.ensures

pub returns-clause-exact : goal.returns-clause-exact
returns-clause-exact c =
    λ k latch is var. c.with_sign_of.ensures
    ∙ next_is_exact c.args.self.now.design c.self.inside.nexts.items (coding c).nexts_are c.args.lit c.index-next.result.now
    (says c) k latch is var

pub returns-clause-value : goal.returns-clause-value
returns-clause-value c =
    c.with_sign_of.ensures
    ∙ next_is_first c.args.self.now.design c.self.inside.nexts.items (coding c).nexts_are c.args.lit c.index-next.result.now
    (says c) (over c)

pub returns-clause-meaning : goal.returns-clause-meaning
returns-clause-meaning c =
    λ (row : List Bool). ap (value row) c.with_sign_of.ensures
    ∙ next_value c.args.self.now.design c.self.inside.nexts.items (coding c).nexts_are c.args.lit c.index-next.result.now (says c)
    (over c) row

pub returns-clause-below : goal.returns-clause-below
returns-clause-below c =
    let P : ℕ → Type 0 = λ l. variable l < c.args.self.now.design.vars + 1 in
    subst P (sym c.with_sign_of.ensures)
    (next_is_below c.args.self.now.design c.self.inside.nexts.items (coding c).nexts_are c.args.lit c.index-next.result.now
    (says c) (coding c).sound (over c))

pub index-next-requires : goal.index-next-requires
index-next-requires c =
    let n = c.args.self.now.design in
    let coded = seen_as c.self.inside.task c.args.self.now c.self.inside.clauses c.self.inside.held c.self.inside.nexts.items
    c.self.invariant
    c.self.view_is in
    let within = is_over_within n c.self.inside.nexts.items c.args.lit coded.nexts_are
    (HasLatch-from_test n c.args.lit c.requires) in
    omega (arith, within, c.number.ensures, c.var.ensures)
