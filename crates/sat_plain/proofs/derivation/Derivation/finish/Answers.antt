use Rattle.std.proofs.Common.{◌≡◌, ℕ, List, reverse, subst, ◌∙◌, ap}
use Rattle.ja_base.specs.Clauses.{IsSetOf}
use Rattle.refute_check.specs.Lines.{refusal}
use Rattle.sat_plain.specs.Derive.{Derived}
use Rattle.sat_plain.proofs.FinishLemmas.{finished}
use Rattle.sat_plain.proofs.derivation.Derivation.finish.Goals as goal

pub returns-clause-accepted : goal.returns-clause-accepted
returns-clause-accepted c = λ vars clauses trail walked h.
    let old : Derived = c.args.self in
    let clause : List ℕ = c.in_ok-clause.clause in
    let lits : c.as_slice.result.now ≡ old.lits =
    c.as_slice.ensures.value ∙ ap (λ (d : Derived). d.lits) c.self.view_is in
    let hints : c.from_vec.result ≡ reverse old.hints =
    c.from_vec.ensures ∙ c.reverse.ensures.items ∙ ap reverse (ap (λ (d : Derived). d.hints) c.self.view_is) in
    let P : List ℕ → Type 0 = λ v. IsSetOf v clause in
    ap (refusal vars clauses clause) hints
    ∙ finished vars clauses trail clause old walked (subst P lits c.in_ok-clause.ensures.set) h
