use Rattle.std.proofs.Common.{ℕ, List, sym, subst}
use Rattle.ja_base.specs.Clauses.{IsBelow}
use Rattle.ask_solver.proofs.ask.load.Goals as goal

pub add-requires : goal.add-requires
add-requires g c =
    let B : ℕ → Type 0 = λ n. IsBelow n c.in_ok-clause.clause in
    let L : List ℕ → Type 0 = IsBelow c.args.vars in
    subst B (sym c.loop-lits.invariant) (subst L c.lits.ensures.value c.if-is_below.ensures)
