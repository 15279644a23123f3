-- Gates that read latches alone make no cycle.
use Rattle.std.proofs.Common.{◌≡◌, ℕ, ◌<◌, ◌≤◌, List, [], ◌∷◌, length, ap, sym, ◌∙◌, inl, inr, arith}
use Rattle.std.specs.Prelude.{slice_index}
use Rattle.std.specs.List.{AllByRecursion}
use Rattle.ja_base.specs.Literals.{variable}
use Rattle.aig_model.specs.declared.netlist.AndGate.{AndGate}
use Rattle.aig_model.specs.Netlist.{gate_var}
use Rattle.aig_model.specs.Refusals.{Leads, IsPath, ReachesCycle}
use Rattle.aiger_lines.proofs.ListLemmas.{all_at}

-- the gate's variable is above n, and its right sides are over variables up to n
pub record ReadsBelow (n : ℕ) (g : AndGate) : Type 0 where
  pub own : n < gate_var g
  pub rhs0 : variable g.rhs0 ≤ n
  pub rhs1 : variable g.rhs1 ≤ n

record LeadsDown (n u w : ℕ) : Type 0 where
  from : n < u
  to : w ≤ n

leads_down : (n : ℕ) (gates : List AndGate) (u w : ℕ) → AllByRecursion (ReadsBelow n) gates → Leads gates u w → LeadsDown n u w
leads_down n gates u w all leads =
    let reads = all_at (ReadsBelow n) gates all leads.at leads.gate leads.is in
    record {
      from = omega (arith, reads.own, leads.from);
      to = elim leads.to [
        | inl e ↦ omega (arith, e, reads.rhs0)
        | inr e ↦ omega (arith, e, reads.rhs1)
      ];
    }

no_way_back : (n : ℕ) (gates : List AndGate) (v : ℕ) (path : List ℕ) (one other : ℕ) → AllByRecursion (ReadsBelow n) gates
    → IsPath gates (v ∷ path) → one < other → other < length (v ∷ path)
    → slice_index (v ∷ path) one ≡ slice_index (v ∷ path) other → ⊥
no_way_back n gates v [] one other all path apart within meets = omega arith
no_way_back n gates v (w ∷ []) one other all path apart within meets =
    let down = leads_down n gates v w all path.0 in
    let first : one ≡ 0 = omega arith in
    let last : other ≡ 1 = omega arith in
    let same : v ≡ w =
    sym (ap (slice_index (v ∷ w ∷ [])) first) ∙ meets ∙ ap (slice_index (v ∷ w ∷ [])) last in
    omega (arith, down.from, down.to, same)
no_way_back n gates v (w ∷ z ∷ rest) one other all path apart within meets =
    let down = leads_down n gates v w all path.0 in
    let further = leads_down n gates w z all path.1.0 in
    omega (arith, down.to, further.from)

pub no_cycle : (n : ℕ) (gates : List AndGate) → AllByRecursion (ReadsBelow n) gates → (v : ℕ) → ReachesCycle gates v → ⊥
no_cycle n gates all v reaches =
    no_way_back n gates v reaches.path reaches.one reaches.other all reaches.is_path reaches.apart reaches.within reaches.meets
