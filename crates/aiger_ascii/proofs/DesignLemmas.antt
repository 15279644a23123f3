-- Lists that were read make a design, or they are refused.
use Rattle.std.proofs.Common.{◌≡◌, ℕ, ◌+◌, ◌<◌, ◌≤◌, true, false, eqb, Option, Some, None, map, ◌⊎◌, inl, inr, ⊎_elim, refl, subst, arith}
use Rattle.std.specs.List.{Contains, list_any}
use Rattle.std.proofs.lemmas.Bool.{cases_Bool, cases_lt, both_ways}
use Rattle.ja_base.specs.Literals.{variable}
use Rattle.aig_model.specs.declared.netlist.AndGate.{AndGate}
use Rattle.aig_model.specs.declared.netlist.Parts.{Parts}
use Rattle.aig_model.specs.declared.build.BuildRefusal.TheVariants.{Undefined, Cycle}
use Rattle.aig_model.specs.Netlist.{definitions}
use Rattle.aig_model.specs.Refusals.{netlist_of, uses, AreInRange, IsUndefined, Leads, ReachesCycle, AreOnce, AreDefined, MakesDesign}
use Rattle.aig_model.proofs.Places.{get_map, map_cases}
use Rattle.aig_model.proofs.Uses.{Has-from_Contains, used_within, rhs0_used, rhs1_used, gates_within}
use Rattle.aig_model.specs.Least.{IsLeastOf}
use Rattle.aiger_lines.specs.declared.refusal.ReadRefusal.{ReadRefusal}
use Rattle.aiger_lines.specs.declared.refusal.ReadRefusal.TheVariants as refusal
use Rattle.aiger_ascii.specs.FirstRefusal.{IsBuildRefusal}
use Rattle.aiger_ascii.proofs.DecideLemmas.{Decided, decided_member, least_or_none}
use Rattle.aiger_ascii.proofs.CycleLemmas.{cycle_or_none, cycle_within}

-- ---- variables that are used and not defined

undefined_by : (p : Parts) (v : ℕ) → Decided (Contains (map variable (uses p)) v) → (0 < v) ⊎ (v ≤ 0)
    → (list_any (λ u. eqb u v) (definitions (netlist_of p)) ≡ true)
    ⊎ (list_any (λ u. eqb u v) (definitions (netlist_of p)) ≡ false)
    → Decided (IsUndefined p v)
undefined_by p v (inr unused) _ _ = inr (λ u. unused u.used)
undefined_by p v (inl used) (inr constant) _ = inr (λ u. let above = u.above in omega arith)
undefined_by p v (inl used) (inl above) (inl defined) = inr (λ u. both_ways _ u.undefined defined)
undefined_by p v (inl used) (inl above) (inr undefined) = inl (record { used = used; above = above; undefined = undefined })

undefined_or_not : (p : Parts) (v : ℕ) → Decided (IsUndefined p v)
undefined_or_not p v =
    undefined_by p v (decided_member (map variable (uses p)) v) (cases_lt 0 v)
    (cases_Bool (list_any (λ u. eqb u v) (definitions (netlist_of p))))

undefined_within : (p : Parts) → AreInRange p → (v : ℕ) → IsUndefined p v → v < p.vars + 1
undefined_within p range v u =
    let has = Has-from_Contains (map variable (uses p)) v u.used in
    let m = map_cases variable (uses p) has.0 v has.1 in
    subst (λ k. k < p.vars + 1) m.2 (used_within p range m.0 (has.0, m.1))

-- ---- the variables of gates and of their right sides

right0_within : (p : Parts) → AreInRange p → (u w : ℕ) (l : Leads p.gates u w) → variable l.gate.rhs0 < p.vars + 1
right0_within p range u w l =
    used_within p range l.gate.rhs0 (rhs0_used p l.gate.rhs0
    (l.at, get_map (λ (g : AndGate). g.rhs0) p.gates l.at l.gate l.is))

right1_within : (p : Parts) → AreInRange p → (u w : ℕ) (l : Leads p.gates u w) → variable l.gate.rhs1 < p.vars + 1
right1_within p range u w l =
    used_within p range l.gate.rhs1 (rhs1_used p l.gate.rhs1
    (l.at, get_map (λ (g : AndGate). g.rhs1) p.gates l.at l.gate l.is))

leads_within : (p : Parts) → AreInRange p → (u w : ℕ) → Leads p.gates u w → (u < p.vars + 1) × (w < p.vars + 1)
leads_within p range u w l =
    let B = λ (k : ℕ). k < p.vars + 1 in
    let lit = get_map (λ (g : AndGate). g.lhs) p.gates l.at l.gate l.is in (
      subst B l.from (gates_within p (p.vars + 1) range refl l.at l.gate.lhs lit),
      ⊎_elim (λ e. subst B e (right0_within p range u w l)) (λ e. subst B e (right1_within p range u w l)) l.to,
    )

-- ---- a design or a refusal

-- the lists make a design, or they are refused
abbrev pub MakesOrIsRefused : Parts → Type 0
MakesOrIsRefused p = MakesDesign p ⊎ ((r : ReadRefusal) × IsBuildRefusal p r)

by_cycles : (p : Parts) (o : Option ℕ) → AreOnce p → AreDefined p → IsLeastOf (ReachesCycle p.gates) o → MakesOrIsRefused p
by_cycles p None once defined acyclic = inl (record { once = once; defined = defined; acyclic = acyclic })
by_cycles p (Some v) once defined least = inr (refusal.Cycle v, (Cycle v, (once, defined, least), refl))

by_uses : (p : Parts) (o : Option ℕ) → AreInRange p → AreOnce p → IsLeastOf (IsUndefined p) o → MakesOrIsRefused p
by_uses p None range once defined =
    let n = p.vars + 1 in
    let within = leads_within p range in
    let least = least_or_none (ReachesCycle p.gates) (cycle_or_none p.gates n within) n (cycle_within p.gates n within) in
    by_cycles p least.0 once defined least.1
by_uses p (Some v) range once least = inr (refusal.Undefined v, (Undefined v, (once, least), refl))

pub makes_or_is_refused : (p : Parts) → AreInRange p → AreOnce p → MakesOrIsRefused p
makes_or_is_refused p range once =
    let least = least_or_none (IsUndefined p) (undefined_or_not p) (p.vars + 1) (undefined_within p range) in
    by_uses p least.0 range once least.1
