-- What stands when no gate waits and the path is empty.
use Rattle.std.proofs.Common.{◌≡◌, ℕ, ◌+◌, ◌<◌, ◌≤◌, true, false, List, [], length, Some, slice_get, ⊎_elim, refl, sym, ap, ◌∙◌, arith}
use Rattle.std.proofs.lemmas.Option.{slice_get_within, same_Some}
use Rattle.std.proofs.lemmas.Bool.{cases_eq, false_from_ne_true}
use Rattle.ja_base.specs.Literals.{variable}
use Rattle.ja_base.specs.Replay.{IsLeast}
use Rattle.aig_model.specs.declared.netlist.AndGate.{AndGate}
use Rattle.aig_model.specs.declared.order.Standing.{Standing}
use Rattle.aig_model.specs.declared.order.Standing.TheVariants.{Ready, Waiting, Reached}
use Rattle.aig_model.specs.declared.order.Walk.{Walk}
use Rattle.aig_model.specs.Netlist.{gate_var, IsBefore}
use Rattle.aig_model.specs.Refusals.{Leads, ReachesCycle}
use Rattle.aig_model.specs.Order.{HasGate, standing_of, is_waiting, is_reached, IsPart, IsWalkPath, IsOrderOf, IsWalk, AreMet, StaysMet}
use Rattle.aig_model.proofs.GateHeights.{height, height_at, height_before}
use Rattle.aig_model.proofs.WalkTable.{reached_within}
use Rattle.aig_model.proofs.Cycles.{reaches_from_endless, no_cycle}

-- a gate at a place, with both right sides before it, is higher than they are
lower : (order : List AndGate) (j : ℕ) (gate : AndGate) (u l w : ℕ) → slice_get order j ≡ Some gate → gate_var gate ≡ u
    → IsBefore order j l → variable l ≡ w → height order w < height order u
lower order j gate u l w is var before to =
    let here = height_at order j gate u is var in
    let there = height_before order j (variable l) before in
    rw (← to) (omega arith)

ordered_falls : (gates order : List AndGate) → IsOrderOf gates order → (u w : ℕ) → Unit {0} → Leads gates u w
    → Unit {0} × (height order w < height order u)
ordered_falls gates order is u w p l =
    let has = is.all l.at l.gate l.is in (
      tt,
      ⊎_elim
          (λ to. lower order has.0 l.gate u l.gate.rhs0 w has.1 l.from (is.before0 has.0 l.gate has.1) to)
          (λ to. lower order has.0 l.gate u l.gate.rhs1 w has.1 l.from (is.before1 has.0 l.gate has.1) to)
          l.to,
    )

-- gates that have an order have no cycle
pub acyclic_from_order : (gates order : List AndGate) → IsOrderOf gates order → (v : ℕ) → ReachesCycle gates v → ⊥
acyclic_from_order gates order is v c = no_cycle gates (λ u. Unit {0}) (height order) (ordered_falls gates order is) v tt c

ready_from : (s : Standing) → is_waiting s ≡ false → is_reached s ≡ false → s ≡ Ready
ready_from Ready w r = refl
ready_from (Waiting at) w r = absurd (cc)
ready_from (Reached at) w r = absurd (cc)

-- no gate waits, and nothing is left to walk
pub record IsDone (gates : List AndGate) (tab : List Standing) (order : List AndGate) : Type 0 where
  pub path : IsWalkPath gates tab []
  pub part : IsPart gates tab order
  pub met : (at : ℕ) (gate : AndGate) → slice_get gates at ≡ Some gate → is_waiting (standing_of tab (gate_var gate)) ≡ false

module _ (gates : List AndGate) (tab : List Standing) (order : List AndGate) (done : IsDone gates tab order) where
  IsGone : ℕ → Type 0
  IsGone v = is_reached (standing_of tab v) ≡ true

  goes_on : (u : ℕ) → IsGone u → (w : ℕ) × Leads gates u w × IsGone w
  unfolding IsGone
  goes_on u gone = ⊎_elim (λ has. absurd (let none = has.1 in cc)) (λ away. (away.to, away.leads, away.reached))
      (done.path.all u gone)

  reaches : (v : ℕ) → IsGone v → ReachesCycle gates v
  unfolding IsGone
  reaches v gone = reaches_from_endless gates IsGone goes_on (length tab) (reached_within tab) v gone

  -- a gate that was not reached is in the order
  in_order : (at : ℕ) (gate : AndGate) → slice_get gates at ≡ Some gate → is_reached (standing_of tab (gate_var gate)) ≡ false
      → HasGate order gate
  in_order at gate is kept = done.part.all at gate is (ready_from _ (done.met at gate is) kept)

  kept_falls : (u w : ℕ) → is_reached (standing_of tab u) ≡ false → Leads gates u w
      → (is_reached (standing_of tab w) ≡ false) × (height order w < height order u)
  kept_falls u w kept l =
      let has = in_order l.at l.gate l.is (ap (λ x. is_reached (standing_of tab x)) l.from ∙ kept) in
      let p = done.part.placed has.0 l.gate has.1 in
      ⊎_elim
      (λ to. (
        ap (λ x. is_reached (standing_of tab x)) (sym to)
            ∙ ap is_reached p.ready0,
        lower order has.0 l.gate u l.gate.rhs0 w has.1 l.from p.before0 to,
      ))
      (λ to. (
        ap (λ x. is_reached (standing_of tab x)) (sym to)
            ∙ ap is_reached p.ready1,
        lower order has.0 l.gate u l.gate.rhs1 w has.1 l.from p.before1 to,
      ))
      l.to

  -- the least variable that was reached is the least from which a cycle can be reached
  pub least_cycle : (v : ℕ) → IsLeast (λ u. is_reached (standing_of tab u) ≡ true) v → IsLeast (ReachesCycle gates) v
  unfolding IsGone
  least_cycle v least = (
    reaches v least.0,
    λ j lt c. no_cycle gates (λ u. is_reached (standing_of tab u) ≡ false) (height order) kept_falls j
        (false_from_ne_true _ (λ gone. least.1 j lt gone)) c,
  )

  -- where nothing was reached, the order is whole
  pub whole_order : ((v : ℕ) → is_reached (standing_of tab v) ≡ true → ⊥) → IsOrderOf gates order
  whole_order none =
      record {
        from = λ at gate is. (done.part.placed at gate is).from;
        all = λ at gate is. in_order at gate is (false_from_ne_true _ (none (gate_var gate)));
        apart = done.part.apart;
        before0 = λ at gate is. (done.part.placed at gate is).before0;
        before1 = λ at gate is. (done.part.placed at gate is).before1;
      }

pub done_from : (gates : List AndGate) (n : ℕ) (walk : Walk) → IsWalk gates walk → walk.path.items ≡ [] → AreMet gates n walk
    → length gates ≤ n
    → IsDone gates walk.standings.items walk.order.items
done_from gates n walk w empty met all =
    record {
      path = rw empty at w.path;
      part = w.order;
      met = λ at gate is. met at gate (let lt = slice_get_within gates at gate is in omega arith) is;
    }

-- one more gate does not wait
pub met_more : (gates : List AndGate) (n v : ℕ) (old new : Walk) (gate : AndGate) → slice_get gates n ≡ Some gate
    → v ≡ gate_var gate → AreMet gates n old → StaysMet old new
    → is_waiting (standing_of new.standings.items v) ≡ false → AreMet gates (n + 1) new
met_more gates n v old new gate is_n var met stays visited at other lt is =
    ⊎_elim
    (λ e.
    let same : other ≡ gate = same_Some other gate (sym is ∙ ap (slice_get gates) e ∙ is_n) in
    ap (λ (g : AndGate). is_waiting (standing_of new.standings.items (gate_var g))) same
    ∙ ap (λ u. is_waiting (standing_of new.standings.items u)) (sym var) ∙ visited)
    (λ ne. stays (gate_var other) (met at other (omega arith) is))
    (cases_eq at n)
