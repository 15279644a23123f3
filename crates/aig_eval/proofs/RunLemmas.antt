-- Runs, one step longer.
use Rattle.std.proofs.Common.{◌≡◌, Bool, List, [], ◌∷◌, ◌++◌, sym, subst}
use Rattle.ja_base.specs.Circuit.{Circuit}
use Rattle.ja_base.specs.Valuation.{IsValuation, next_state}
use Rattle.aig_eval.specs.Run.{RunsTo}

pub RunsTo-push : (c : Circuit) (first : List Bool) (rows steps : List (List Bool)) (state input v next : List Bool)
    → RunsTo c first rows steps state → IsValuation c state input v → next ≡ next_state c v
    → RunsTo c first (rows ++ input ∷ []) (steps ++ v ∷ []) next
RunsTo-push c first [] [] state input v next r now is =
    record { run = (subst (λ s. IsValuation c s input v) (sym r.next) now, tt); next = sym is }
RunsTo-push c first (x ∷ rows) (w ∷ steps) state input v next r now is =
    let rest = RunsTo-push c (next_state c w) rows steps state input v next (record { run = r.run.1; next = r.next }) now is in
    record { run = (r.run.0, rest.run); next = rest.next }
RunsTo-push c first [] (w ∷ steps) state input v next r now is = absurd r.run
RunsTo-push c first (x ∷ rows) [] state input v next r now is = absurd r.run
