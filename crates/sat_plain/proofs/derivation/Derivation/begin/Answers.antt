use Rattle.std.proofs.Common.{rules, ◌≡◌, ℕ, Bool, List, [], ◌∷◌, ◌++◌, length, sym, subst, ◌∙◌, ap}
use Rattle.std.specs.Vec.{with_items}
use Rattle.std.proofs.lemmas.List.{with_items_is}
use Rattle.refute_check.specs.Lines.{assumed, unknown}
use Rattle.sat_plain.specs.Derive.{Derived, IsDerived}
use Rattle.sat_plain.proofs.AssumedLemmas.{length_assumed}
use Rattle.sat_plain.proofs.DeriveLemmas.{begun, same_derived}
use Rattle.sat_plain.proofs.derivation.Derivation.begin.Goals as goal

pub returns-clause-begins : goal.returns-clause-begins
returns-clause-begins c = λ clauses trail there wrong.
    let clause : List ℕ = c.args.clause.now in
    let news : List Bool = c.assume.new.values in
    let empty : c.in_ok-marks.marks.items ≡ unknown c.args.vars = search rules in
    let start : news ≡ assumed clause (unknown c.args.vars) =
    c.assume.ensures ∙ ap (λ v. assumed v c.deref_mut.result.now) c.lits.ensures.value
    ∙ ap (assumed clause) (c.deref_mut.ensures.value ∙ empty) in
    let same : length news ≡ length c.deref_mut.result.now =
    ap length c.assume.ensures ∙ length_assumed c.lits.result.now c.deref_mut.result.now in
    let marks : (with_items c.in_ok-marks.marks news).items ≡ assumed clause (unknown c.args.vars) =
    with_items_is c.in_ok-marks.marks news (same ∙ c.deref_mut.ensures.len) ∙ start in
    let hints : c.push.new.self.items ≡ c.args.number ∷ [] =
    c.in_ok-push.ensures.items ∙ ap (λ v. v ++ c.args.number ∷ []) c.new-hints.ensures.items in
    let P : Derived → Type 0 = λ d. IsDerived c.args.vars clauses trail (length trail) d in
    subst P
    (sym (same_derived (with_items c.in_ok-marks.marks news).items (assumed clause (unknown c.args.vars)) c.new.result.items []
    c.push.new.self.items (c.args.number ∷ []) marks c.new.ensures.items hints))
    (begun c.args.vars c.args.number clause clauses trail c.requires there wrong)
