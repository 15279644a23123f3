use Rattle.std.proofs.Common.{◌≡◌, [], ◌∷◌, ◌++◌, sym, subst, ◌∙◌, ap}
use Rattle.ja_base.specs.Literals.{negated}
use Rattle.sat_plain.specs.Derive.{Derived, IsDerived}
use Rattle.sat_plain.proofs.DeriveLemmas.{kept_one, same_derived}
use Rattle.sat_plain.proofs.derivation.Derivation.keep.Goals as goal

pub returns-clause-keeps : goal.returns-clause-keeps
returns-clause-keeps c = λ vars clauses trail p there h.
    let old : Derived = c.args.self.now in
    let P : Derived → Type 0 = λ d. IsDerived vars clauses trail p d in
    let marks : c.self.inside.marks.items ≡ old.marks = ap (λ (d : Derived). d.marks) c.self.view_is in
    let lits : c.push.new.self.items ≡ old.lits ++ negated c.args.lit ∷ [] =
    c.in_ok-push.ensures.items ∙ ap (λ v. v ++ c.not.result ∷ []) (ap (λ (d : Derived). d.lits) c.self.view_is)
    ∙ ap (λ k. old.lits ++ k ∷ []) c.not.ensures in
    let hints : c.self.inside.hints.items ≡ old.hints = ap (λ (d : Derived). d.hints) c.self.view_is in
    subst P
    (sym (same_derived c.self.inside.marks.items old.marks c.push.new.self.items (old.lits ++ negated c.args.lit ∷ [])
    c.self.inside.hints.items old.hints marks lits hints))
    (kept_one vars clauses trail p c.args.lit old there c.requires h)
