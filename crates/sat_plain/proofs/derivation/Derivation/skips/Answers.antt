use Rattle.std.proofs.Common.{◌≡◌, ◌<◌, length, arith, not, false, sym, ◌∙◌, ap}
use Rattle.std.proofs.lemmas.Bool.{OnTrue_from, not-true}
use Rattle.std.proofs.lemmas.List.{get_or_read}
use Rattle.ja_base.specs.Literals.{bit}
use Rattle.sat_plain.specs.Derive.{Derived, Skips}
use Rattle.sat_plain.proofs.DeriveLemmas.{skipped}
use Rattle.sat_plain.proofs.derivation.Derivation.skips.Goals as goal

pub returns-clause-skips : goal.returns-clause-skips
returns-clause-skips c =
    OnTrue_from (not c.index.result.now) (Skips c.args.self.now c.args.lit)
    (λ e vars clauses trail p there h.
    let free : bit c.args.self.now.marks c.args.lit ≡ false =
    let all : length c.self.inside.marks.items ≡ length c.args.self.now.marks =
    ap (λ (d : Derived). length d.marks) c.self.view_is in
    let within : c.number.result < length c.self.inside.marks.items =
    let r = c.requires in let e = c.number.ensures in omega arith in
    let value : c.index.result.now ≡ bit c.args.self.now.marks c.args.lit =
    get_or_read c.self.inside.marks.items c.number.result c.index.result.now within c.index.ensures false
    ∙ ap (bit c.self.inside.marks.items) c.number.ensures
    ∙ ap (λ (d : Derived). bit d.marks c.args.lit) c.self.view_is in
    sym value ∙ not-true c.index.result.now e in
    skipped vars clauses trail p c.args.lit c.args.self.now there free h)
