-- Runs put together, and the run that each stimulus of the right widths has.
use Rattle.std.proofs.Common.{◌≡◌, suc, Bool, List, [], ◌∷◌, ◌++◌, length, map, sym, ap, ◌∙◌, subst, refl, All}
use Rattle.std.proofs.lemmas.List.{length-map}
use Rattle.std.proofs.lemmas.List.Elements.{All-head, All-tail}
use Rattle.ja_base.specs.Literals.{value}
use Rattle.ja_base.specs.Circuit as plain
use Rattle.ja_base.specs.Valuation.{next_state}
use Rattle.ja_base.specs.Runs.{IsRun}
use Rattle.aig_model.specs.Netlist.{Netlist, IsSound, circuit, latch_of}
use Rattle.aig_eval.specs.Run.{state_after}
use Rattle.aig_eval.proofs.LawLemmas.{valuation_exists, agree}

pub length-run : (c : plain.Circuit) (state : List Bool) (rows steps : List (List Bool)) → IsRun c state rows steps
    → length steps ≡ length rows
length-run c state [] [] r = refl
length-run c state (x ∷ rows) (v ∷ steps) r = ap suc (length-run c (next_state c v) rows steps r.1)
length-run c state [] (v ∷ steps) r = absurd r
length-run c state (x ∷ rows) [] r = absurd r

-- a run goes on from where another ends
pub IsRun-append : (c : plain.Circuit) (first state : List Bool) (rows steps more vs : List (List Bool))
    → IsRun c first rows steps → state_after c first steps ≡ state → IsRun c state more vs
    → IsRun c first (rows ++ more) (steps ++ vs)
IsRun-append c first state [] [] more vs r next rest = subst (λ s. IsRun c s more vs) (sym next) rest
IsRun-append c first state (x ∷ rows) (v ∷ steps) more vs r next rest =
    (r.0, IsRun-append c (next_state c v) state rows steps more vs r.1 next rest)
IsRun-append c first state [] (v ∷ steps) more vs r next rest = absurd r
IsRun-append c first state (x ∷ rows) [] more vs r next rest = absurd r

length-next : (n : Netlist) (values : List Bool) → length (next_state (circuit n) values) ≡ length n.latches
length-next n values = length-map (map latch_of n.latches) (λ (l : plain.Latch). value values l.next)
    ∙ length-map n.latches latch_of

pub run_exists : (n : Netlist) → IsSound n → (state : List Bool) → length state ≡ length n.latches → (rows : List (List Bool))
    → All (λ row. length row ≡ length n.inputs) rows → (steps : List (List Bool)) × IsRun (circuit n) state rows steps
run_exists n sound state width [] widths = ([], tt)
run_exists n sound state width (x ∷ rows) widths =
    let v = valuation_exists n state x sound width (All-head (λ (row : List Bool). length row ≡ length n.inputs) x rows widths) in
    let rest = run_exists n sound (next_state (circuit n) v.0) (length-next n v.0) rows
    (All-tail (λ (row : List Bool). length row ≡ length n.inputs) x rows widths) in
    (v.0 ∷ rest.0, (v.1, rest.1))

-- an acyclic circuit has at most one run from a latch row over input rows
pub runs_agree : (c : plain.Circuit) → plain.IsAcyclic c → (state : List Bool) (rows vs ws : List (List Bool))
    → IsRun c state rows vs
    → IsRun c state rows ws → vs ≡ ws
runs_agree c acyclic state [] [] [] a b = refl
runs_agree c acyclic state (x ∷ rows) (v ∷ vs) (w ∷ ws) a b =
    let same = agree c acyclic state x v w a.0 b.0 in
    ap (λ u. u ∷ vs) same
    ∙ ap (λ us. w ∷ us) (runs_agree c acyclic (next_state c w) rows vs ws
    (subst (λ u. IsRun c (next_state c u) rows vs) same a.1) b.1)
runs_agree c acyclic state [] (v ∷ vs) ws a b = absurd a
runs_agree c acyclic state (x ∷ rows) [] ws a b = absurd a
runs_agree c acyclic state [] [] (w ∷ ws) a b = absurd b
runs_agree c acyclic state (x ∷ rows) (v ∷ vs) [] a b = absurd b
