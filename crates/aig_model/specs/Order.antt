-- What an order of gates is, and what the walk that finds one keeps.
use Rattle.std.specs.Prelude.{◌≡◌, ◌≢◌, ℕ, ◌+◌, ◌-◌, ◌*◌, ◌<◌, ◌≤◌, ◌⊎◌, Bool, true, false, Some, List, [], ◌∷◌, ◌++◌, length, map, slice_get, slice_index_or, slice_set, count_by, vec_capacity}
use Rattle.ja_base.specs.Literals.{variable}
use Rattle.aig_model.specs.declared.netlist.AndGate.{AndGate}
use Rattle.aig_model.specs.declared.order.Standing.{Standing}
use Rattle.aig_model.specs.declared.order.Standing.TheVariants.{Ready, Waiting, Reached}
use Rattle.aig_model.specs.declared.order.Walk.{Walk}
use Rattle.aig_model.specs.Netlist.{gate_var, AreApart, IsBefore}
use Rattle.aig_model.specs.Refusals.{Leads}

-- the list has this gate
abbrev pub HasGate : List AndGate → AndGate → Type 0
HasGate gates gate = (at : ℕ) × (slice_get gates at ≡ Some gate)

-- the same gates, in an order in which right sides come first
pub record IsOrderOf (gates order : List AndGate) : Type 0 where
  pub from : (at : ℕ) (gate : AndGate) → slice_get order at ≡ Some gate → HasGate gates gate
  pub all : (at : ℕ) (gate : AndGate) → slice_get gates at ≡ Some gate → HasGate order gate
  pub apart : AreApart (map gate_var order)
  pub before0 : (at : ℕ) (gate : AndGate) → slice_get order at ≡ Some gate
      → IsBefore order at gate.rhs0
  pub before1 : (at : ℕ) (gate : AndGate) → slice_get order at ≡ Some gate
      → IsBefore order at gate.rhs1

-- a gate's variables are below this number
pub record IsWithin (n : ℕ) (gate : AndGate) : Type 0 where
  pub lhs : gate_var gate < n
  pub rhs0 : variable gate.rhs0 < n
  pub rhs1 : variable gate.rhs1 < n

-- the variables of all gates are below this number, and no variable has two gates
pub record AreGates (n : ℕ) (gates : List AndGate) : Type 0 where
  pub within : (at : ℕ) (gate : AndGate) → slice_get gates at ≡ Some gate → IsWithin n gate
  pub apart : AreApart (map gate_var gates)

-- what is known of a variable
abbrev pub standing_of : List Standing → ℕ → Standing
standing_of standings v = slice_index_or standings v Ready

abbrev pub is_waiting : Standing → Bool
is_waiting Ready = false
is_waiting (Waiting at) = true
is_waiting (Reached at) = false

abbrev pub is_reached : Standing → Bool
is_reached Ready = false
is_reached (Waiting at) = false
is_reached (Reached at) = true

-- the gate at this place defines the variable
pub record Defines (gates : List AndGate) (at v : ℕ) : Type 0 where
  pub gate : AndGate
  pub is : slice_get gates at ≡ Some gate
  pub var : gate_var gate ≡ v

-- the list has this number
abbrev pub Has : List ℕ → ℕ → Type 0
Has path v = (at : ℕ) × (slice_get path at ≡ Some v)

-- the variable leads to one that was reached before and is not on the path
pub record LeadsAway (gates : List AndGate) (standings : List Standing) (path : List ℕ)
    (v : ℕ) : Type 0 where
  pub to : ℕ
  pub leads : Leads gates v to
  pub reached : is_reached (standing_of standings to) ≡ true
  pub off : Has path to → ⊥

-- a gate at its place in the order: it is ready, and its right sides are and come first
pub record IsPlaced (gates : List AndGate) (standings : List Standing) (order : List AndGate)
    (at : ℕ) (gate : AndGate) : Type 0 where
  pub from : HasGate gates gate
  pub ready : standing_of standings (gate_var gate) ≡ Ready
  pub ready0 : standing_of standings (variable gate.rhs0) ≡ Ready
  pub ready1 : standing_of standings (variable gate.rhs1) ≡ Ready
  pub before0 : IsBefore order at gate.rhs0
  pub before1 : IsBefore order at gate.rhs1

-- the order so far holds the gates that are ready, each once
pub record IsPart (gates : List AndGate) (standings : List Standing)
    (order : List AndGate) : Type 0 where
  pub all : (at : ℕ) (gate : AndGate) → slice_get gates at ≡ Some gate
      → standing_of standings (gate_var gate) ≡ Ready → HasGate order gate
  pub placed : (at : ℕ) (gate : AndGate) → slice_get order at ≡ Some gate
      → IsPlaced gates standings order at gate
  pub apart : AreApart (map gate_var order)

-- The path leads from each variable to the next. A variable that was reached is on the path, or leads to one that was
-- reached and is not: a cycle can be reached from it.
pub record IsWalkPath (gates : List AndGate) (standings : List Standing)
    (path : List ℕ) : Type 0 where
  pub reached : (at v : ℕ) → slice_get path at ≡ Some v
      → is_reached (standing_of standings v) ≡ true
  pub leads : (at u v : ℕ) → slice_get path at ≡ Some u → slice_get path (at + 1) ≡ Some v
      → Leads gates u v
  pub once : AreApart path
  pub all : (v : ℕ) → is_reached (standing_of standings v) ≡ true
      → Has path v ⊎ LeadsAway gates standings path v

-- what the table says of a variable that is not ready
pub record IsTable (gates : List AndGate) (standings : List Standing) : Type 0 where
  pub waiting : (v at : ℕ) → standing_of standings v ≡ Waiting at → Defines gates at v
  pub reached : (v at : ℕ) → standing_of standings v ≡ Reached at → Defines gates at v

-- the first n gates wait, and no gate was reached
pub record AreWaiting (gates : List AndGate) (n : ℕ) (standings : List Standing) : Type 0 where
  pub waiting : (v at : ℕ) → standing_of standings v ≡ Waiting at → Defines gates at v
  pub none_reached : (v : ℕ) → is_reached (standing_of standings v) ≡ false
  pub all : (at : ℕ) (gate : AndGate) → at < n → slice_get gates at ≡ Some gate
      → is_waiting (standing_of standings (gate_var gate)) ≡ true
  pub few : count_by is_waiting standings ≤ n

-- there is room for each gate
pub record HasRoom (gates : List AndGate) (walk : Walk) : Type 0 where
  pub path : length gates ≤ vec_capacity walk.path
  pub order : length gates ≤ vec_capacity walk.order
  pub all : count_by is_waiting walk.standings.items + length walk.path.items
      + length walk.order.items ≤ length gates

pub record IsWalk (gates : List AndGate) (walk : Walk) : Type 0 where
  pub given : AreGates (length walk.standings.items) gates
  pub table : IsTable gates walk.standings.items
  pub path : IsWalkPath gates walk.standings.items walk.path.items
  pub order : IsPart gates walk.standings.items walk.order.items
  pub room : HasRoom gates walk

-- at most so many steps are left: each gate comes to the path, and leaves it
abbrev pub steps_left : Walk → ℕ
steps_left walk = 2 * count_by is_waiting walk.standings.items + length walk.path.items

-- what did not wait does not wait now
abbrev pub StaysMet : Walk → Walk → Type 0
StaysMet old new = (v : ℕ) → is_waiting (standing_of old.standings.items v) ≡ false
    → is_waiting (standing_of new.standings.items v) ≡ false

-- none of the first n gates waits
abbrev pub AreMet : List AndGate → ℕ → Walk → Type 0
AreMet gates n walk = (at : ℕ) (gate : AndGate) → at < n → slice_get gates at ≡ Some gate
    → is_waiting (standing_of walk.standings.items (gate_var gate)) ≡ false

-- a step of the walk: what it keeps, and that it comes nearer to the end
pub record Steps (gates : List AndGate) (old new : Walk) : Type 0 where
  pub walk : IsWalk gates new
  pub nearer : steps_left new < steps_left old
  pub met : StaysMet old new
  pub table : length new.standings.items ≡ length old.standings.items

-- a gate of the list, whose variable is the path's last
pub record IsLastGate (gates : List AndGate) (path : List ℕ) (gate : AndGate) : Type 0 where
  pub has : HasGate gates gate
  pub last : slice_get path (length path - 1) ≡ Some (gate_var gate)

pub record AreReady (standings : List Standing) (gate : AndGate) : Type 0 where
  pub ready0 : standing_of standings (variable gate.rhs0) ≡ Ready
  pub ready1 : standing_of standings (variable gate.rhs1) ≡ Ready

-- a right side of the gate is over this variable, which is not ready
pub record IsUnready (standings : List Standing) (gate : AndGate) (v : ℕ) : Type 0 where
  pub right : (variable gate.rhs0 ≡ v) ⊎ (variable gate.rhs1 ≡ v)
  pub not_ready : standing_of standings v ≢ Ready

-- a variable that waits for the gate at this place comes to the end of the path
pub record Enters (old new : Walk) (v at : ℕ) : Type 0 where
  pub standings : new.standings.items ≡ slice_set old.standings.items v (Reached at)
  pub path : new.path.items ≡ old.path.items ++ v ∷ []
  pub path_room : vec_capacity new.path ≡ vec_capacity old.path
  pub order : new.order ≡ old.order

-- the path's last variable is ready, and its gate is in the order
pub record Leaves (old new : Walk) (gate : AndGate) : Type 0 where
  pub standings : new.standings.items ≡ slice_set old.standings.items (gate_var gate) Ready
  pub path : new.path.items ++ gate_var gate ∷ [] ≡ old.path.items
  pub path_room : vec_capacity new.path ≡ vec_capacity old.path
  pub order : new.order.items ≡ old.order.items ++ gate ∷ []
  pub order_room : vec_capacity new.order ≡ vec_capacity old.order

-- the path ends; all that is on it stays reached
pub record Ends (old new : Walk) : Type 0 where
  pub standings : new.standings ≡ old.standings
  pub path : new.path.items ≡ []
  pub path_room : vec_capacity new.path ≡ vec_capacity old.path
  pub order : new.order ≡ old.order
