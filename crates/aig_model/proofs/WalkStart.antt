-- The table in which each gate waits, and the walk that begins with it.
use Rattle.std.proofs.Common.{◌≡◌, ◌≢◌, ℕ, ◌+◌, ◌<◌, cond, List, [], length, set, replicate, Some, slice_get, ⊎_elim, sym, ap, ◌∙◌, arith}
use Rattle.std.proofs.lemmas.List.{length-replicate, get_or-replicate, get_or_past}
use Rattle.std.proofs.lemmas.List.Sums.{sum_by-set}
use Rattle.std.proofs.lemmas.List.Folds.{sum_by-replicate}
use Rattle.std.proofs.lemmas.Option.{slice_get_within, same_Some}
use Rattle.std.proofs.lemmas.Bool.{cases_lt, false≢true}
use Rattle.aig_model.specs.declared.netlist.AndGate.{AndGate}
use Rattle.aig_model.specs.declared.order.Standing.{Standing}
use Rattle.aig_model.specs.declared.order.Standing.TheVariants.{Ready, Waiting}
use Rattle.aig_model.specs.declared.order.Walk.{Walk}
use Rattle.aig_model.specs.Netlist.{gate_var}
use Rattle.aig_model.specs.Order.{AreGates, standing_of, is_waiting, is_reached, AreWaiting, HasRoom, IsWalk}
use Rattle.aig_model.proofs.WalkTable.{set_cases}

all_ready : (n v : ℕ) → standing_of (replicate n Ready) v ≡ Ready
all_ready n v =
    ⊎_elim (λ lt. get_or-replicate n v Ready Ready lt)
    (λ past. get_or_past (replicate n Ready) v Ready (let e = length-replicate n Ready in omega (arith, e))) (cases_lt v n)

pub waiting_none : (gates : List AndGate) (n : ℕ) → AreWaiting gates 0 (replicate n Ready)
waiting_none gates n =
    record {
      waiting = λ v at is. absurd (let e = all_ready n v in cc);
      none_reached = λ v. ap is_reached (all_ready n v);
      all = λ at gate lt is. absurd (omega arith);
      few = let e = sum_by-replicate (λ (s : Standing). cond (is_waiting s) 1 0) n Ready in omega (arith, e);
    }

-- one more gate waits
pub waiting_more : (gates : List AndGate) (n : ℕ) (tab : List Standing) (gate : AndGate) → AreWaiting gates n tab
    → slice_get gates n ≡ Some gate → gate_var gate < length tab
    → AreWaiting gates (n + 1) (set tab (gate_var gate) (Waiting n))
waiting_more gates n tab gate w is_n within =
    let c : Standing → ℕ = λ s. cond (is_waiting s) 1 0 in
    let v : ℕ = gate_var gate in
    record {
      waiting = λ u at is.
          ⊎_elim (λ h. let same : n ≡ at = cc in record { gate = gate; is = rw (← same) is_n; var = sym h.0 })
          (λ h. w.waiting u at (sym h.1 ∙ is)) (set_cases tab v (Waiting n) u within);
      none_reached = λ u. ⊎_elim (λ h. ap is_reached h.1) (λ h. ap is_reached h.1
          ∙ w.none_reached u) (set_cases tab v (Waiting n) u within);
      all = λ at other lt is.
          ⊎_elim (λ h. ap is_waiting h.1)
          (λ h.
          let earlier : at ≢ n = λ e. h.0 (ap gate_var (same_Some other gate (sym is ∙ ap (slice_get gates) e ∙ is_n))) in
          ap is_waiting h.1 ∙ w.all at other (omega arith) is)
          (set_cases tab v (Waiting n) (gate_var other) within);
      few =
          let e = sum_by-set c tab v (Waiting n) Ready within in
          let f = w.few in
          omega (arith, e, f);
    }

-- a walk that begins
pub walk_starts : (gates : List AndGate) (walk : Walk) → AreGates (length walk.standings.items) gates
    → AreWaiting gates (length gates) walk.standings.items
    → walk.path.items ≡ [] → walk.order.items ≡ [] → HasRoom gates walk → IsWalk gates walk
walk_starts gates walk given w no_path no_order room =
    record {
      given = given;
      table = record {
        waiting = w.waiting;
        reached = λ v at is. absurd (false≢true (sym (w.none_reached v) ∙ ap is_reached is));
      };
      path = rw no_path (record {
        reached = λ i u is. absurd (cc);
        leads = λ i u x at_u at_x. absurd (cc);
        once = λ i j lt within. absurd (omega arith);
        all = λ v gone. absurd (false≢true (sym (w.none_reached v) ∙ gone));
      });
      order = rw no_order (record {
        all = λ at gate is ready.
            absurd (false≢true (sym (ap is_waiting ready) ∙ w.all at gate (slice_get_within gates at gate is) is));
        placed = λ at gate is. absurd (cc);
        apart = λ i j lt within. absurd (omega arith);
      });
      room = room;
    }
