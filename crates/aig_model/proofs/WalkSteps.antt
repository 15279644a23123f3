-- The three steps of the walk: a variable comes to the path, a gate leaves it for the order, the path ends.
use Rattle.std.proofs.Common.{◌≡◌, ◌≢◌, ℕ, ◌+◌, ◌-◌, ◌<◌, true, false, List, [], ◌∷◌, ◌++◌, length, get_or, count_by, Some, slice_get, ◌⊎◌, inl, inr, ⊎_elim, refl, sym, ap, ◌∙◌, arith}
use Rattle.std.proofs.lemmas.List.{get_or-set_same, length-set, length_push}
use Rattle.std.proofs.lemmas.Option.{slice_get_within, slice_get_read, same_Some}
use Rattle.ja_base.specs.Literals.{variable}
use Rattle.aig_model.specs.declared.netlist.AndGate.{AndGate}
use Rattle.aig_model.specs.declared.order.Standing.{Standing}
use Rattle.aig_model.specs.declared.order.Standing.TheVariants.{Ready, Waiting, Reached}
use Rattle.aig_model.specs.declared.order.Walk.{Walk}
use Rattle.aig_model.specs.Netlist.{gate_var}
use Rattle.aig_model.specs.Order.{standing_of, is_waiting, is_reached, IsWalkPath, IsWalk, Defines, IsLastGate, IsUnready, Enters, Leaves, Ends, Steps, HasGate}
use Rattle.aig_model.proofs.Places.{get_last}
use Rattle.aig_model.proofs.WalkTable.{Follows, waiting_within, set_cases, enter_table, enter_order, enter_path, enter_count, leave_table, leave_order, leave_path, leave_count, end_path}

pub walk_enters : (gates : List AndGate) (old new : Walk) (v at : ℕ) → IsWalk gates old
    → Enters old new v at → standing_of old.standings.items v ≡ Waiting at
    → Follows gates old.path.items v → v < length old.standings.items → Steps gates old new
walk_enters gates old new v at walk e waits follows within =
    let tab : List Standing = old.standings.items in
    let count = enter_count tab v at within waits in
    let longer : length new.path.items ≡ length old.path.items + 1 = ap length e.path ∙ length_push old.path.items v in
    let fewer : count_by is_waiting new.standings.items + 1 ≡ count_by is_waiting tab = rw e.standings count in
    record {
      walk = record {
        given = rw (e.standings, length-set) walk.given;
        table = rw e.standings (enter_table gates tab v at within waits walk.table);
        path = rw (e.standings, e.path) (enter_path gates tab v at within waits old.path.items walk.path follows);
        order = rw (e.standings, e.order) (enter_order gates tab v at within waits old.order.items walk.order);
        room = record {
          path = rw e.path_room walk.room.path;
          order = rw e.order walk.room.order;
          all = rw e.order (let r = walk.room.all in omega (arith, longer, fewer, r));
        };
      };
      nearer = omega (arith, longer, fewer);
      met = λ u not. rw e.standings (⊎_elim (λ h. ap is_waiting h.1) (λ h. ap is_waiting h.1
          ∙ not) (set_cases tab v (Reached at) u within));
      table = rw (e.standings, length-set) refl;
    }

waits_not : (s : Standing) → is_reached s ≡ true → is_waiting s ≡ false
waits_not Ready r = refl
waits_not (Waiting at) r = absurd (cc)
waits_not (Reached at) r = refl

-- on the empty path
pub walk_begins : (gates : List AndGate) (old new : Walk) (v at : ℕ) → IsWalk gates old → old.path.items ≡ []
    → Enters old new v at → standing_of old.standings.items v ≡ Waiting at
    → Steps gates old new × (is_waiting (standing_of new.standings.items v) ≡ false)
walk_begins gates old new v at walk empty e waits =
    let within = waiting_within old.standings.items v at waits in (
      walk_enters gates old new v at walk e waits (λ i u last is. absurd (let none = ap length empty in omega arith)) within,
      rw e.standings (ap is_waiting (get_or-set_same old.standings.items v (Reached at) Ready within)),
    )

pub walk_leaves : (gates : List AndGate) (old new : Walk) (gate : AndGate) → IsWalk gates old → Leaves old new gate
    → HasGate gates gate
    → standing_of old.standings.items (variable gate.rhs0) ≡ Ready → standing_of old.standings.items (variable gate.rhs1) ≡ Ready
    → Steps gates old new
walk_leaves gates old new gate walk e has ready0 ready1 =
    let tab : List Standing = old.standings.items in
    let v : ℕ = gate_var gate in
    let within = (walk.given.within has.0 gate has.1).lhs in
    let on_path : IsWalkPath gates tab (new.path.items ++ v ∷ []) = rw e.path walk.path in
    let gone = on_path.reached (length new.path.items) v (get_last new.path.items v) in
    let count = leave_count tab v within (waits_not _ gone) in
    let shorter : length new.path.items + 1 ≡ length old.path.items = sym (length_push new.path.items v) ∙ ap length e.path in
    let longer : length new.order.items ≡ length old.order.items + 1 = ap length e.order ∙ length_push old.order.items gate in
    let same : count_by is_waiting new.standings.items ≡ count_by is_waiting tab = rw e.standings count in
    record {
      walk = record {
        given = rw (e.standings, length-set) walk.given;
        table = rw e.standings (leave_table gates tab gate has.0 within has.1 gone walk.table);
        path = rw e.standings (leave_path gates tab gate has.0 within has.1 gone new.path.items on_path);
        order = rw (e.standings, e.order)
            (leave_order gates tab gate has.0 within has.1 gone old.order.items walk.given.apart ready0 ready1 walk.order);
        room = record {
          path = rw e.path_room walk.room.path;
          order = rw e.order_room walk.room.order;
          all = let r = walk.room.all in omega (arith, shorter, longer, same, r);
        };
      };
      nearer = omega (arith, shorter, same);
      met = λ u not. rw e.standings (⊎_elim (λ h. ap is_waiting h.1) (λ h. ap is_waiting h.1
          ∙ not) (set_cases tab v Ready u within));
      table = rw (e.standings, length-set) refl;
    }

pub walk_ends : (gates : List AndGate) (old new : Walk) (w : ℕ) → IsWalk gates old → Ends old new → 0 < length old.path.items
    → Follows gates old.path.items w → is_reached (standing_of old.standings.items w) ≡ true → Steps gates old new
walk_ends gates old new w walk e some follows gone =
    let same : count_by is_waiting new.standings.items ≡ count_by is_waiting old.standings.items = rw e.standings refl in
    let empty : length new.path.items ≡ 0 = ap length e.path in
    record {
      walk = record {
        given = rw e.standings walk.given;
        table = rw e.standings walk.table;
        path = rw (e.standings, e.path) (end_path gates old.standings.items old.path.items w follows gone walk.path);
        order = rw (e.standings, e.order) walk.order;
        room = record {
          path = rw e.path_room walk.room.path;
          order = rw e.order walk.room.order;
          all = rw e.order (let r = walk.room.all in omega (arith, same, empty, r));
        };
      };
      nearer = omega (arith, same, empty);
      met = λ u not. rw e.standings not;
      table = rw e.standings refl;
    }

-- the gate that was read at the place of the path's last variable
pub last_gate_is : (gates : List AndGate) (path : List ℕ) (at v : ℕ) (gate : AndGate) → Defines gates at v
    → gate ≡ get_or gates at gate
    → slice_get path (length path - 1) ≡ Some v → IsLastGate gates path gate
last_gate_is gates path at v gate d read last =
    let is_at : slice_get gates at ≡ Some gate =
    slice_get_read gates (length gates) at gate refl (slice_get_within gates at d.gate d.is) read in
    let same : gate_var gate ≡ v = ap gate_var (same_Some gate d.gate (sym is_at ∙ d.is)) ∙ d.var in
    record { has = (at, is_at); last = last ∙ ap Some (sym same) }

pub reached_at : (s : Standing) → is_reached s ≡ true → (at : ℕ) × (s ≡ Reached at)
reached_at Ready r = absurd (cc)
reached_at (Waiting at) r = absurd (cc)
reached_at (Reached at) r = (at, refl)

-- the path's last gate leads to its right sides
follows_last : (gates : List AndGate) (path : List ℕ) (gate : AndGate) (tab : List Standing) (w : ℕ) → IsLastGate gates path gate
    → IsUnready tab gate w → Follows gates path w
follows_last gates path gate tab w last un at u e is =
    let same : at ≡ length path - 1 = omega (arith, e) in
    record {
      at = last.has.0;
      gate = gate;
      is = last.has.1;
      from = same_Some (gate_var gate) u (sym last.last ∙ ap (slice_get path) (sym same) ∙ is);
      to = un.right;
    }

standing_cases : (s : Standing) → s ≢ Ready → ((at : ℕ) × (s ≡ Waiting at)) ⊎ ((is_waiting s ≡ false) × (is_reached s ≡ true))
standing_cases Ready not = absurd (not refl)
standing_cases (Waiting at) not = inl (at, refl)
standing_cases (Reached at) not = inr (refl, refl)

pub walk_goes_on : (gates : List AndGate) (old new : Walk) (gate : AndGate) (w : ℕ) → IsWalk gates old → 0 < length old.path.items
    → IsLastGate gates old.path.items gate
    → IsUnready old.standings.items gate w → ((at : ℕ) → standing_of old.standings.items w ≡ Waiting at → Enters old new w at)
    → (is_waiting (standing_of old.standings.items w) ≡ false → Ends old new) → Steps gates old new
walk_goes_on gates old new gate w walk some last un waiting other =
    let follows = follows_last gates old.path.items gate old.standings.items w last un in
    ⊎_elim
    (λ h. walk_enters gates old new w h.0 walk (waiting h.0 h.1) h.1 follows (waiting_within old.standings.items w h.0 h.1))
    (λ h. walk_ends gates old new w walk (other h.0) some follows h.1)
    (standing_cases (standing_of old.standings.items w) un.not_ready)
