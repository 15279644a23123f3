-- The gates of a sound netlist stand in an order in which right sides come first, so its circuit is acyclic.
use Rattle.std.proofs.Common.{◌≡◌, ℕ, zero, suc, ◌+◌, ◌<◌, ◌≤◌, ◌==◌, List, [], ◌∷◌, Some, length, map, cond, slice_get, sym, ap, ◌∙◌, subst, refl, arith, eq-eqb, eqb-true}
use Rattle.std.proofs.lemmas.Bool.{cond_both, cond-true, cond-false, false_from_ne_true}
use Rattle.std.proofs.lemmas.List.{length-map}
use Rattle.std.proofs.lemmas.Option.{slice_get_within, same_Some}
use Rattle.ja_base.specs.Literals.{variable}
use Rattle.ja_base.specs.Circuit.{IsAcyclic}
use Rattle.aig_model.specs.declared.netlist.AndGate.{AndGate}
use Rattle.aig_model.specs.Netlist.{Netlist, IsSound, IsBefore, circuit, gate_var}
use Rattle.aig_eval.proofs.PlaceLemmas.{own_vars, map_at}
use Rattle.aig_eval.proofs.DefinedLemmas.{HasGate, has_gate}

-- one more than the place of the gate of a variable, counted from n; 0 where it has no gate
height_from : ℕ → List AndGate → ℕ → ℕ
height_from n [] u = 0
height_from n (g ∷ gates) u = cond (u == gate_var g) (suc n) (height_from (suc n) gates u)

height_without : (n u : ℕ) (gates : List AndGate) → IsBefore gates 0 u → height_from n gates (variable u) ≡ 0
unfolding height_from
height_without n u [] before = refl
height_without n u (g ∷ gates) before =
    cond-false (variable u == gate_var g) (suc n) (height_from (suc n) gates (variable u))
    (false_from_ne_true (variable u == gate_var g) (λ t. before 0 g (omega arith) refl (eqb-true (variable u) (gate_var g) t)))
    ∙ height_without (suc n) u gates (λ j g' h e. before (suc j) g' (omega arith) e)

height_before : (n k u : ℕ) (gates : List AndGate) → IsBefore gates k u → height_from n gates (variable u) ≤ n + k
unfolding height_from
height_before n k u [] before = omega arith
height_before n zero u (g ∷ gates) before = omega (arith, height_without n u (g ∷ gates) before)
height_before n (suc k) u (g ∷ gates) before =
    let rest = height_before (suc n) k u gates (λ j g' h e. before (suc j) g' (omega arith) e) in
    cond_both (variable u == gate_var g) (suc n) (height_from (suc n) gates (variable u)) (λ m. m ≤ n + suc k) (λ t. omega arith)
    (λ f. omega arith)

height_at : (n k : ℕ) (g : AndGate) (gates : List AndGate) → slice_get gates k ≡ Some g
    → ((j : ℕ) (h : AndGate) → j < k → slice_get gates j ≡ Some h → gate_var h ≡ gate_var g → ⊥)
    → height_from n gates (gate_var g) ≡ suc (n + k)
unfolding height_from
height_at n k g [] e apart = absurd (cc)
height_at n zero g (x ∷ gates) e apart =
    cond-true (gate_var g == gate_var x) (suc n) (height_from (suc n) gates (gate_var g))
    (eq-eqb (gate_var g) (gate_var x) (ap gate_var (sym (same_Some x g e))))
    ∙ omega arith
height_at n (suc k) g (x ∷ gates) e apart =
    cond-false (gate_var g == gate_var x) (suc n) (height_from (suc n) gates (gate_var g))
    (false_from_ne_true (gate_var g == gate_var x)
    (λ t. apart 0 x (omega arith) refl (sym (eqb-true (gate_var g) (gate_var x) t))))
    ∙ height_at (suc n) k g gates e (λ j h l at. apart (suc j) h (omega arith) at)
    ∙ omega arith

pub sound_is_acyclic : (n : Netlist) → IsSound n → IsAcyclic (circuit n)
sound_is_acyclic n sound = record { height = height_from 0 n.gates; rises = λ u rights e. rises u rights (has_gate n u rights e) }
  where
    rises : (u : ℕ) (rights : ℕ × ℕ) → HasGate n.gates u rights
        → (height_from 0 n.gates (variable rights.0) < height_from 0 n.gates u) ×
        (height_from 0 n.gates (variable rights.1) < height_from 0 n.gates u)
    rises u rights h =
        let own = own_vars n sound in
        let place = h.place in
        let within : place < length (map gate_var n.gates) = omega
        (arith, length-map n.gates gate_var, slice_get_within n.gates place h.gate h.is) in
        let at : height_from 0 n.gates (gate_var h.gate) ≡ suc (0 + place) = height_at 0 place h.gate n.gates h.is
        (λ j g l e same. own.gates j place l within (map_at gate_var n.gates j g 0 e ∙ same
        ∙ sym (map_at gate_var n.gates place h.gate 0 h.is))) in
        let low0 = height_before 0 place h.gate.rhs0 n.gates (sound.gates place h.gate h.is).before0 in
        let low1 = height_before 0 place h.gate.rhs1 n.gates (sound.gates place h.gate h.is).before1 in
        let for_var = λ (r : ℕ × ℕ) (w : ℕ). (height_from 0 n.gates (variable r.0) < height_from 0 n.gates w) ×
        (height_from 0 n.gates (variable r.1) < height_from 0 n.gates w) in
        subst (for_var rights) h.var
        (subst (λ r. for_var r (gate_var h.gate)) h.rights_are (omega (arith, at, low0), omega (arith, at, low1)))
