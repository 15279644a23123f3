use Rattle.std.proofs.Common.{◌≡◌, ℕ, Bool, false, List, [], ◌∷◌, ◌++◌, set, length, sym, subst, ◌∙◌, ap}
use Rattle.std.specs.Vec.{with_items}
use Rattle.std.proofs.lemmas.List.{with_items_is}
use Rattle.ja_base.specs.Literals.{negated}
use Rattle.refute_check.specs.Lines.{assumed}
use Rattle.sat_plain.specs.Derive.{Derived, IsDerived}
use Rattle.sat_plain.proofs.AssumedLemmas.{length_assumed}
use Rattle.sat_plain.proofs.DeriveLemmas.{same_derived}
use Rattle.sat_plain.proofs.ResolveLemmas.{resolved}
use Rattle.sat_plain.proofs.derivation.Derivation.resolve.Goals as goal

pub returns-clause-resolves : goal.returns-clause-resolves
returns-clause-resolves c = λ vars clauses trail p there given reason walked h.
    let old : Derived = c.args.self.now in
    let clause : List ℕ = c.args.clause.now in
    let l : ℕ = c.args.lit in
    let P : Derived → Type 0 = λ d. IsDerived vars clauses trail p d in
    let was : c.self.inside.marks.items ≡ old.marks = ap (λ (d : Derived). d.marks) c.self.view_is in
    let news : List Bool = c.assume.new.values in
    let start : news ≡ assumed clause old.marks =
    c.assume.ensures ∙ ap (λ v. assumed v c.deref_mut.result.now) c.lits.ensures.value
    ∙ ap (assumed clause) (c.deref_mut.ensures.value ∙ was) in
    let same : length news ≡ length c.deref_mut.result.now =
    ap length c.assume.ensures ∙ length_assumed c.lits.result.now c.deref_mut.result.now in
    let all : (with_items c.self.inside.marks news).items ≡ news =
    with_items_is c.self.inside.marks news (same ∙ c.deref_mut.ensures.len) in
    let marks : set (set (with_items c.self.inside.marks news).items c.number.result false) c.number-2.result false
    ≡ set (set (assumed clause old.marks) l false) (negated l) false =
    ap (λ v. set (set v c.number.result false) c.number-2.result false) (all ∙ start)
    ∙ ap (λ k. set (set (assumed clause old.marks) k false) c.number-2.result false) c.number.ensures
    ∙ ap (λ k. set (set (assumed clause old.marks) l false) k false) (c.number-2.ensures ∙ c.not.ensures) in
    let lits : c.self.inside.lits.items ≡ old.lits = ap (λ (d : Derived). d.lits) c.self.view_is in
    let hints : c.push.new.self.items ≡ old.hints ++ c.args.number ∷ [] =
    c.in_ok-push.ensures.items ∙ ap (λ v. v ++ c.args.number ∷ []) (ap (λ (d : Derived). d.hints) c.self.view_is) in
    subst P
    (sym (same_derived (set (set (with_items c.self.inside.marks news).items c.number.result false) c.number-2.result false)
    (set (set (assumed clause old.marks) l false) (negated l) false) c.self.inside.lits.items old.lits
    c.push.new.self.items (old.hints ++ c.args.number ∷ []) marks lits hints))
    (resolved vars clauses trail p l c.args.number clause old there given c.lits.ensures.ascends reason walked h)
