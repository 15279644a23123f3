use Rattle.std.proofs.Common.{◌≡◌, ℕ, Bool, List, true, subst}
use Rattle.std.specs.Prelude.{OnOk}
use Rattle.ja_base.specs.Literals.{bit, value, negated}
use Rattle.ic3_query.specs.Opening.{IsReset, Says}
use Rattle.ic3_query.specs.Switches.{switch_var}
use Rattle.ic3_query.proofs.OpenLemmas.{OnOk-map, says_free, says_zero, says_one}
use Rattle.ic3_query.proofs.opening.add_reset.Goals as goal

pub returns-in-Free-clause-added : goal.returns-in-Free-clause-added
returns-in-Free-clause-added g c = says_free c.args.coded.now.design c.args.latch (g.S.Sat.added c.args.solver.now) c.in-Free.is

pub returns-in-Zero-clause-added : goal.returns-in-Zero-clause-added
returns-in-Zero-clause-added g c =
    let before = g.S.Sat.added c.args.solver.now in
    let after = g.S.Sat.added c.add_at_start.new.solver in
    let on : List Bool → Type 0 = λ row. bit row (switch_var c.args.coded.now.design 0) ≡ true in
    let P : ℕ → Type 0 = λ l. OnOk c.add_at_start.result (Says (λ row. on row → value row l ≡ true) before after) in
    OnOk-map c.add_at_start.result (Says (λ row. on row → value row (negated c.args.latch.lit) ≡ true) before after)
    (Says (IsReset c.args.coded.now.design c.args.latch) before after)
    (says_zero c.args.coded.now.design c.args.latch before after c.in-Zero.is c.requires.latch)
    (subst P c.not.ensures c.add_at_start.ensures.added)

pub returns-in-One-clause-added : goal.returns-in-One-clause-added
returns-in-One-clause-added g c =
    let before = g.S.Sat.added c.args.solver.now in
    let after = g.S.Sat.added c.add_at_start-in-One.new.solver in
    let on : List Bool → Type 0 = λ row. bit row (switch_var c.args.coded.now.design 0) ≡ true in
    OnOk-map c.add_at_start-in-One.result (Says (λ row. on row → value row c.args.latch.lit ≡ true) before after)
    (Says (IsReset c.args.coded.now.design c.args.latch) before after)
    (says_one c.args.coded.now.design c.args.latch before after c.in-One.is c.requires.latch) c.add_at_start-in-One.ensures.added
