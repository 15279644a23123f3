use Rattle.std.proofs.Common.{◌≡◌, ℕ, List, sym, subst, ap}
use Rattle.refute_check.specs.Checked.{Checked}
use Rattle.refute_check.proofs.ListLemmas.{IsKept, kept_by_try}
use Rattle.ja_base.specs.Clauses.{IsBelow}
use Rattle.refute_check.proofs.checker.Checker.add.Goals as goal

pub invariant_of-self-2 : goal.invariant_of-self-2
invariant_of-self-2 c =
    let before : IsKept c.self.inside.vars c.self.inside.clauses =
    record { below = c.self.invariant.1; follow = c.self.invariant.2 } in
    let P : List ℕ → Type 0 = IsBelow c.self.inside.vars in
    let vars : c.self.inside.vars ≡ c.args.self.now.vars = ap (λ (r : Checked). r.vars) c.self.view_is in
    let Q : ℕ → Type 0 = λ n. IsBelow n c.args.clause.now in
    let given : IsBelow c.self.inside.vars c.args.clause.now = subst Q (sym vars) c.requires in
    let small : IsBelow c.self.inside.vars c.in_ok-copy.field-0 = subst P (sym c.in_ok-copy.ensures) given in
    let after =
    kept_by_try c.add.result c.self.inside.vars c.self.inside.clauses c.add.new.self c.in_ok-copy.field-0
    c.add.ensures.ok c.add.ensures.err small before in
    (c.self.invariant.0, after.below, after.follow)
