-- The lists of a file: literals in range list by list, and properties that are the bads or the outputs.
use Rattle.std.proofs.Common.{◌≡◌, ℕ, ◌<◌, ◌^◌, Bool, true, false, cond, eqb, List, [], ◌∷◌, ◌++◌, length, map, Result, Ok, Err, refl, sym, ap, subst, ◌∙◌, arith}
use Rattle.std.specs.List.{AllByRecursion}
use Rattle.std.proofs.lemmas.Bool.Decides.{nat_tests}
use Rattle.ja_text.specs.Reading.{◌>>=◌}
use Rattle.aig_model.specs.declared.netlist.Latch.{Latch}
use Rattle.aig_model.specs.declared.netlist.AndGate.{AndGate}
use Rattle.aig_model.specs.declared.netlist.Parts.{Parts}
use Rattle.aig_model.specs.Netlist.{IsNew}
use Rattle.aig_model.specs.Refusals.{uses, AreInRange}
use Rattle.aiger_lines.specs.Lines.{IsUsed}
use Rattle.aiger_lines.proofs.ListLemmas.{all_join, all_front, all_back, all_at, all_from_at, all_weaker, all_with, all_mapped, all_unmapped}

-- what was read first, where nothing failed
pub bind_then : {A B F P : Type 0} (r : Result A F) (f : A → Result B F) (y : B) → (r >>= f) ≡ Ok y
    → ((x : A) → r ≡ Ok x → f x ≡ Ok y → P) → P
bind_then (Ok x) f y e k = k x refl e
bind_then (Err d) f y e k = absurd cc

-- ---- literals in range

-- a latch's literals are in range
pub record IsLatchInRange (vars : ℕ) (k : Latch) : Type 0 where
  pub lit : IsNew vars k.lit
  pub next : IsUsed vars k.next

-- a gate's literals are in range
pub record IsGateInRange (vars : ℕ) (g : AndGate) : Type 0 where
  pub lhs : IsNew vars g.lhs
  pub rhs0 : IsUsed vars g.rhs0
  pub rhs1 : IsUsed vars g.rhs1

-- the same of each list
pub record AreListsInRange (vars : ℕ) (p : Parts) : Type 0 where
  pub inputs : AllByRecursion (IsNew vars) p.inputs
  pub latches : AllByRecursion (IsLatchInRange vars) p.latches
  pub outputs : AllByRecursion (IsUsed vars) p.outputs
  pub bads : AllByRecursion (IsUsed vars) p.bads
  pub constraints : AllByRecursion (IsUsed vars) p.constraints
  pub gates : AllByRecursion (IsGateInRange vars) p.gates

uses_used : (vars : ℕ) (p : Parts) → AreListsInRange vars p → AllByRecursion (IsUsed vars) (uses p)
uses_used vars p r =
    let U = IsUsed vars in
    let N = map (λ (k : Latch). k.next) p.latches in
    let R0 = map (λ (g : AndGate). g.rhs0) p.gates in
    let R1 = map (λ (g : AndGate). g.rhs1) p.gates in
    all_join U (N ++ p.outputs ++ p.bads ++ p.constraints ++ R0) R1
    (all_join U (N ++ p.outputs ++ p.bads ++ p.constraints) R0
    (all_join U (N ++ p.outputs ++ p.bads) p.constraints
    (all_join U (N ++ p.outputs) p.bads
    (all_join U N p.outputs
    (all_mapped (λ (k : Latch). k.next) (IsLatchInRange vars) U (λ k range. range.next) p.latches r.latches) r.outputs)
    r.bads)
    r.constraints)
    (all_mapped (λ (g : AndGate). g.rhs0) (IsGateInRange vars) U (λ g range. range.rhs0) p.gates r.gates))
    (all_mapped (λ (g : AndGate). g.rhs1) (IsGateInRange vars) U (λ g range. range.rhs1) p.gates r.gates)

own_range : (p : Parts) → p.vars < 2 ^ 31 → AreListsInRange p.vars p → AreInRange p
own_range p small r =
    let latches = all_weaker (IsLatchInRange p.vars) (λ (k : Latch). IsNew p.vars k.lit)
    (λ k range. range.lit) p.latches r.latches in
    let gates = all_weaker (IsGateInRange p.vars) (λ (g : AndGate). IsNew p.vars g.lhs) (λ g range. range.lhs) p.gates r.gates in
    record {
      small = small;
      inputs = λ k l e. all_at (IsNew p.vars) p.inputs r.inputs k l e;
      latches = λ k latch e. all_at (λ (x : Latch). IsNew p.vars x.lit) p.latches latches k latch e;
      gates = λ k gate e. all_at (λ (x : AndGate). IsNew p.vars x.lhs) p.gates gates k gate e;
      used = λ k l e. all_at (IsUsed p.vars) (uses p) (uses_used p.vars p r) k l e;
    }

pub range_of_lists : (vars : ℕ) (p : Parts) → p.vars ≡ vars → vars < 2 ^ 31 → AreListsInRange vars p → AreInRange p
range_of_lists vars p e small r = own_range p (subst (λ (k : ℕ). k < 2 ^ 31) (sym e) small)
    (subst (λ (k : ℕ). AreListsInRange k p) (sym e) r)

used_lists : (vars : ℕ) (p : Parts) → AllByRecursion (IsUsed vars) (uses p) → AllByRecursion (IsNew vars) p.inputs
    → AllByRecursion (λ (k : Latch). IsNew vars k.lit) p.latches → AllByRecursion (λ (g : AndGate). IsNew vars g.lhs) p.gates
    → AreListsInRange vars p
used_lists vars p used inputs latches gates =
    let U = IsUsed vars in
    let N = map (λ (k : Latch). k.next) p.latches in
    let R0 = map (λ (g : AndGate). g.rhs0) p.gates in
    let R1 = map (λ (g : AndGate). g.rhs1) p.gates in
    let five = all_front U (N ++ p.outputs ++ p.bads ++ p.constraints ++ R0) R1 used in
    let four = all_front U (N ++ p.outputs ++ p.bads ++ p.constraints) R0 five in
    let three = all_front U (N ++ p.outputs ++ p.bads) p.constraints four in
    let two = all_front U (N ++ p.outputs) p.bads three in
    let next = all_unmapped (λ (k : Latch). k.next) U p.latches (all_front U N p.outputs two) in
    let rhs0 = all_unmapped (λ (g : AndGate). g.rhs0) U p.gates
    (all_back U (N ++ p.outputs ++ p.bads ++ p.constraints) R0 five) in
    let rhs1 = all_unmapped (λ (g : AndGate). g.rhs1) U p.gates
    (all_back U (N ++ p.outputs ++ p.bads ++ p.constraints ++ R0) R1 used) in
    let lhs_rhs0 = all_with (λ (g : AndGate). IsNew vars g.lhs) (λ (g : AndGate). U g.rhs0)
    (λ (g : AndGate). IsNew vars g.lhs × U g.rhs0) (λ g a b. (a, b)) p.gates gates rhs0 in
    record {
      inputs = inputs;
      latches = all_with (λ (k : Latch). IsNew vars k.lit) (λ (k : Latch). U k.next) (IsLatchInRange vars)
          (λ k lit n. record { lit = lit; next = n }) p.latches latches next;
      outputs = all_back U N p.outputs two;
      bads = all_back U (N ++ p.outputs) p.bads three;
      constraints = all_back U (N ++ p.outputs ++ p.bads) p.constraints four;
      gates = all_with (λ (g : AndGate). IsNew vars g.lhs × U g.rhs0) (λ (g : AndGate). U g.rhs1) (IsGateInRange vars)
          (λ g a b. record { lhs = a.0; rhs0 = a.1; rhs1 = b }) p.gates lhs_rhs0 rhs1;
    }

pub lists_of_range : (vars : ℕ) (p : Parts) → p.vars ≡ vars → AreInRange p → AreListsInRange vars p
lists_of_range vars p e r =
    used_lists vars p
    (all_from_at (IsUsed vars) (uses p) (λ k l at. subst (λ (v : ℕ). IsUsed v l) e (r.used k l at)))
    (all_from_at (IsNew vars) p.inputs (λ k l at. subst (λ (v : ℕ). IsNew v l) e (r.inputs k l at)))
    (all_from_at (λ (k : Latch). IsNew vars k.lit) p.latches (λ k l at. subst (λ (v : ℕ). IsNew v l.lit) e (r.latches k l at)))
    (all_from_at (λ (g : AndGate). IsNew vars g.lhs) p.gates (λ k l at. subst (λ (v : ℕ). IsNew v l.lhs) e (r.gates k l at)))

-- ---- properties

chosen_used : (vars : ℕ) (b : Bool) (outputs bads : List ℕ) → AllByRecursion (IsUsed vars) outputs
    → AllByRecursion (IsUsed vars) bads → AllByRecursion (IsUsed vars) (cond b outputs bads)
chosen_used vars true outputs bads g h = g
chosen_used vars false outputs bads g h = h

pub properties_used : (vars n : ℕ) (properties outputs bads : List ℕ) → properties ≡ cond (eqb n 0) outputs bads
    → AllByRecursion (IsUsed vars) outputs → AllByRecursion (IsUsed vars) bads → AllByRecursion (IsUsed vars) properties
properties_used vars n properties outputs bads e g h = subst (λ (k : List ℕ). AllByRecursion (IsUsed vars) k) (sym e)
    (chosen_used vars (eqb n 0) outputs bads g h)

no_items : (xs : List ℕ) (P : ℕ → Type 0) → length xs ≡ 0 → AllByRecursion P xs
no_items [] P e = tt
no_items (x ∷ xs) P e = absurd (omega arith)

bads_chosen : (n vars : ℕ) (b : Bool) (properties outputs bads : List ℕ) → b ≡ eqb n 0 → length bads ≡ n
    → properties ≡ cond b outputs bads → AllByRecursion (IsUsed vars) properties → AllByRecursion (IsUsed vars) bads
bads_chosen n vars true properties outputs bads b len e range = no_items bads (IsUsed vars) (grind (arith, nat_tests))
bads_chosen n vars false properties outputs bads b len e range = subst (λ (k : List ℕ). AllByRecursion (IsUsed vars) k) e range

-- the bads of the file are the properties, or there are none
pub bads_used : (vars n : ℕ) (properties outputs bads : List ℕ) → properties ≡ cond (eqb n 0) outputs bads → length bads ≡ n
    → AllByRecursion (IsUsed vars) properties → AllByRecursion (IsUsed vars) bads
bads_used vars n properties outputs bads e len range = bads_chosen n vars (eqb n 0) properties outputs bads refl len e range

pub same_lists : (p : Parts) (vars : ℕ) (bads : List ℕ) → p.vars ≡ vars → p.bads ≡ bads
    → record p { vars = vars; bads = bads } ≡ p
same_lists p vars bads e f = sym
    (ap (λ (k : ℕ). record p { vars = k }) e ∙ ap (λ (k : List ℕ). record p { vars = vars; bads = k }) f)
