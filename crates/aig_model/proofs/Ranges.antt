-- Lists of literals that are in range, one by one and together.
use Rattle.std.proofs.Common.{ℕ, ◌+◌, ◌*◌, ◌^◌, ◌<◌, ◌≤◌, List, [], ◌∷◌, ◌++◌, map, ⊎_elim, subst}
use Rattle.aig_model.specs.declared.netlist.Latch.{Latch}
use Rattle.aig_model.specs.declared.netlist.AndGate.{AndGate}
use Rattle.aig_model.specs.declared.netlist.Parts.{Parts}
use Rattle.aig_model.specs.Netlist.{IsNew}
use Rattle.aig_model.specs.Refusals.{AreInRange}
use Rattle.aig_model.specs.Ranges.{AreNew, AreUsable}
use Rattle.aig_model.specs.Definitions.{nexts}
use Rattle.aig_model.proofs.Places.{append_cases, push_cases, get_map}
use Rattle.aig_model.proofs.Uses.{outside, rhs0s, rhs1s}

pub AreNew-push : (vars : ℕ) (lits : List ℕ) (l : ℕ) → AreNew vars lits → IsNew vars l → AreNew vars (lits ++ l ∷ [])
AreNew-push vars lits l new is at k at_k =
    ⊎_elim (λ old. new at k old) (λ last. subst (IsNew vars) last.1 is) (push_cases lits l at k at_k)

pub AreUsable-push : (vars : ℕ) (lits : List ℕ) (l : ℕ) → AreUsable vars lits → l ≤ 2 * vars + 1 → AreUsable vars (lits ++ l ∷ [])
AreUsable-push vars lits l usable is at k at_k =
    ⊎_elim (λ old. usable at k old) (λ last. subst (λ x. x ≤ 2 * vars + 1) last.1 is) (push_cases lits l at k at_k)

AreUsable-append : (vars : ℕ) (xs ys : List ℕ) → AreUsable vars xs → AreUsable vars ys → AreUsable vars (xs ++ ys)
AreUsable-append vars xs ys left right at l is =
    ⊎_elim (λ in_xs. left at l in_xs) (λ in_ys. right in_ys.0 l in_ys.2) (append_cases xs ys at l is)

-- lists that are in range one by one
pub record AreListsInRange (p : Parts) : Type 0 where
  pub small : p.vars < 2 ^ 31
  pub inputs : AreNew p.vars p.inputs
  pub latches : AreNew p.vars (map (λ (k : Latch). k.lit) p.latches)
  pub gates : AreNew p.vars (map (λ (g : AndGate). g.lhs) p.gates)
  pub nexts_are : AreUsable p.vars (nexts p.latches)
  pub outputs : AreUsable p.vars p.outputs
  pub bads : AreUsable p.vars p.bads
  pub constraints : AreUsable p.vars p.constraints
  pub rhs0 : AreUsable p.vars (map (λ (g : AndGate). g.rhs0) p.gates)
  pub rhs1 : AreUsable p.vars (map (λ (g : AndGate). g.rhs1) p.gates)

pub in_range_from_lists : (p : Parts) → AreListsInRange p → AreInRange p
in_range_from_lists p r =
    record {
      small = r.small;
      inputs = r.inputs;
      latches = λ at latch is. r.latches at latch.lit (get_map (λ (k : Latch). k.lit) p.latches at latch is);
      gates = λ at gate is. r.gates at gate.lhs (get_map (λ (g : AndGate). g.lhs) p.gates at gate is);
      used =
          AreUsable-append p.vars (outside p ++ rhs0s p) (rhs1s p)
          (AreUsable-append p.vars (outside p) (rhs0s p)
          (AreUsable-append p.vars (nexts p.latches ++ p.outputs ++ p.bads) p.constraints
          (AreUsable-append p.vars (nexts p.latches ++ p.outputs) p.bads
          (AreUsable-append p.vars (nexts p.latches) p.outputs r.nexts_are r.outputs) r.bads)
          r.constraints)
          r.rhs0)
          r.rhs1;
    }
