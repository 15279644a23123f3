-- Whether gates lead from a variable to a cycle: each path from it ends in time, or one is so long that it meets itself.
use Rattle.std.proofs.Common.{◌≡◌, ℕ, zero, suc, ◌<◌, List, [], ◌∷◌, length, get_or, Some, slice_get, ◌⊎◌, inl, inr, ⊎_elim, refl, ap, subst, arith}
use Rattle.std.proofs.lemmas.Bool.{cases_lt, cases_eq}
use Rattle.ja_base.specs.Literals.{variable}
use Rattle.ja_base.specs.Replay.{IsLeast}
use Rattle.aig_model.specs.declared.netlist.AndGate.{AndGate}
use Rattle.aig_model.specs.Netlist.{gate_var}
use Rattle.aig_model.specs.Refusals.{Leads, IsPath, ReachesCycle}
use Rattle.aig_model.proofs.Cycles.{meets_from_long, no_cycle}
use Rattle.aiger_ascii.proofs.DecideLemmas.{Decided, HasLeastBelow, least_below, least_of, least_is}

-- ---- the gates of a variable, one after the other

-- the gate is the variable's, and has a right side over the other one
abbrev IsStep : AndGate → ℕ → ℕ → Type 0
IsStep g u w = (gate_var g ≡ u) × ((variable g.rhs0 ≡ w) ⊎ (variable g.rhs1 ≡ w))

leads_first : (g : AndGate) (gates : List AndGate) (u w : ℕ) → IsStep g u w → Leads (g ∷ gates) u w
leads_first g gates u w step = record { at = 0; gate = g; is = refl; from = step.0; to = step.1 }

leads_later : (g : AndGate) (gates : List AndGate) (u w : ℕ) → Leads gates u w → Leads (g ∷ gates) u w
leads_later g gates u w l = record { at = suc l.at; gate = l.gate; is = l.is; from = l.from; to = l.to }

place_cases : (g : AndGate) (gates : List AndGate) (u w at : ℕ) (gate : AndGate) → slice_get (g ∷ gates) at ≡ Some gate
    → IsStep gate u w → IsStep g u w ⊎ Leads gates u w
place_cases g gates u w zero gate is step = let same : gate ≡ g = cc in inl (subst (λ (k : AndGate). IsStep k u w) same step)
place_cases g gates u w (suc at) gate is step = inr (record { at = at; gate = gate; is = is; from = step.0; to = step.1 })

leads_cases : (g : AndGate) (gates : List AndGate) (u w : ℕ) → Leads (g ∷ gates) u w → IsStep g u w ⊎ Leads gates u w
leads_cases g gates u w l = place_cases g gates u w l.at l.gate l.is (l.from, l.to)

module _ (Q R : ℕ → Type 0) (u : ℕ) where
  -- all that the variable leads to is of the one kind, or something is of the other
  abbrev EachOrOne : List AndGate → Type 0
  EachOrOne gates = ((w : ℕ) → Leads gates u w → Q w) ⊎ ((w : ℕ) × Leads gates u w × R w)

  -- the sides of a gate of another variable do not count
  pass_over : (g : AndGate) (gates : List AndGate) → (gate_var g ≡ u → ⊥) → EachOrOne gates → EachOrOne (g ∷ gates)
  pass_over g gates other (inl each) = inl (λ w l. ⊎_elim (λ step. absurd (other step.0)) (each w) (leads_cases g gates u w l))
  pass_over g gates other (inr one) = inr (one.0, leads_later g gates u one.0 one.1, one.2)

  take_in : (g : AndGate) (gates : List AndGate) → gate_var g ≡ u → Q (variable g.rhs0) ⊎ R (variable g.rhs0)
      → Q (variable g.rhs1) ⊎ R (variable g.rhs1) → EachOrOne gates → EachOrOne (g ∷ gates)
  take_in g gates here (inr r) _ _ = inr (variable g.rhs0, leads_first g gates u (variable g.rhs0) (here, inl refl), r)
  take_in g gates here (inl q0) (inr r) _ = inr (variable g.rhs1, leads_first g gates u (variable g.rhs1) (here, inr refl), r)
  take_in g gates here (inl q0) (inl q1) (inr one) = inr (one.0, leads_later g gates u one.0 one.1, one.2)
  take_in g gates here (inl q0) (inl q1) (inl each) = inl (λ w l.
      ⊎_elim (λ step. ⊎_elim (λ e. subst Q e q0) (λ e. subst Q e q1) step.1) (each w) (leads_cases g gates u w l))

  each_or_one : (gates : List AndGate) → ((w : ℕ) → Q w ⊎ R w) → EachOrOne gates
  each_or_one [] kind = inl (λ w l. absurd (let none = l.is in cc))
  each_or_one (g ∷ gates) kind =
      ⊎_elim (λ here. take_in g gates here (kind (variable g.rhs0)) (kind (variable g.rhs1)) (each_or_one gates kind))
      (λ other. pass_over g gates other (each_or_one gates kind)) (cases_eq (gate_var g) u)

module _ (gates : List AndGate) where
  -- ---- paths that end, and paths of a given length

  -- each path of gates from the variable has fewer steps than this
  abbrev EndsWithin : ℕ → ℕ → Type 0
  EndsWithin zero v = ⊥
  EndsWithin (suc k) v = (w : ℕ) → Leads gates v w → EndsWithin k w

  -- a path of gates from the variable has so many steps
  record HasPath (v k : ℕ) : Type 0 where
    path : List ℕ
    is_path : IsPath gates (v ∷ path)
    long : length path ≡ k

  longer : (v w k : ℕ) → Leads gates v w → HasPath w k → HasPath v (suc k)
  longer v w k l p = record { path = w ∷ p.path; is_path = (l, p.is_path); long = ap suc p.long }

  ends_or_goes_on : (k v : ℕ) → EndsWithin k v ⊎ HasPath v k
  ends_or_goes_on zero v = inr (record { path = []; is_path = tt; long = refl })
  ends_or_goes_on (suc k) v =
      ⊎_elim (λ each. inl each) (λ one. inr (longer v one.0 k one.1 one.2))
      (each_or_one (EndsWithin k) (λ w. HasPath w k) v gates (λ w. ends_or_goes_on k w))

  never_both : (k v : ℕ) (path : List ℕ) → EndsWithin k v → IsPath gates (v ∷ path) → length path ≡ k → ⊥
  never_both zero v path ends is long = ends
  never_both (suc k) v [] ends is long = omega arith
  never_both (suc k) v (w ∷ path) ends is long = never_both k w path (ends w is.0) is.1 (omega arith)

  decided_end : (v k : ℕ) → Decided (EndsWithin k v)
  decided_end v k = ⊎_elim inl (λ p. inr (λ ends. never_both k v p.path ends p.is_path p.long)) (ends_or_goes_on k v)

  -- ---- where paths end there is no cycle: the least bound on their steps falls along them

  least_end : (n v : ℕ) → HasLeastBelow (λ k. EndsWithin k v) n
  least_end n v = least_below (λ k. EndsWithin k v) (decided_end v) n

  abbrev steps_from : ℕ → ℕ → ℕ
  steps_from n v = least_of (λ k. EndsWithin k v) n (least_end n v)

  -- paths from the variable end within fewer than n steps
  record EndsBelow (n v : ℕ) : Type 0 where
    steps : ℕ
    few : steps < n
    ends : EndsWithin steps v

  lesser : (u w a b : ℕ) → IsLeast (λ k. EndsWithin k u) a → IsLeast (λ k. EndsWithin k w) b → Leads gates u w → b < a
  lesser u w zero b here there l = absurd here.0
  lesser u w (suc a) b here there l =
      ⊎_elim (λ lt. absurd (there.1 a lt (here.0 w l))) (λ le. omega arith) (cases_lt a b)

  ends_after : (n u w k : ℕ) → k < n → EndsWithin k u → Leads gates u w → EndsBelow n w
  ends_after n u w zero few ends l = absurd ends
  ends_after n u w (suc k) few ends l = record { steps = k; few = omega arith; ends = ends w l }

  falls : (n u w : ℕ) → EndsBelow n u → Leads gates u w → EndsBelow n w × (steps_from n w < steps_from n u)
  falls n u w here l =
      let there = ends_after n u w here.steps here.few here.ends l in
      let a = least_is (λ k. EndsWithin k u) n here.steps (least_end n u) here.few here.ends in
      let b = least_is (λ k. EndsWithin k w) n there.steps (least_end n w) there.few there.ends in
      (there, lesser u w (steps_from n u) (steps_from n w) a b l)

  no_cycle_at_end : (v k : ℕ) → EndsWithin k v → ReachesCycle gates v → ⊥
  no_cycle_at_end v k ends =
      no_cycle gates (EndsBelow (suc k)) (steps_from (suc k)) (falls (suc k)) v (record {
        steps = k;
        few = omega arith;
        ends = ends;
      })

  -- ---- a path longer than there are variables meets itself

  module _ (n : ℕ) (within : (u w : ℕ) → Leads gates u w → (u < n) × (w < n)) where
    rights_within : (u : ℕ) (path : List ℕ) → IsPath gates (u ∷ path) → (j : ℕ) → j < length path → get_or path j 0 < n
    rights_within u [] is j lt = absurd (omega arith)
    rights_within u (w ∷ path) is zero lt = (within u w is.0).1
    rights_within u (w ∷ path) is (suc j) lt = rights_within w path is.1 j (omega arith)

    cycle_on_long : (v : ℕ) → HasPath v (suc n) → ReachesCycle gates v
    cycle_on_long v p =
        let m = meets_from_long p.path n (omega (arith, p.long)) (rights_within v p.path p.is_path) in
        record {
          path = p.path;
          is_path = p.is_path;
          one = suc m.one;
          other = suc m.other;
          apart = omega (arith, m.apart);
          within = omega (arith, m.within);
          meets = m.meets;
        }

    pub cycle_or_none : (v : ℕ) → Decided (ReachesCycle gates v)
    cycle_or_none v =
        ⊎_elim (λ ends. inr (no_cycle_at_end v (suc n) ends)) (λ p. inl (cycle_on_long v p)) (ends_or_goes_on (suc n) v)

    begins_within : (v : ℕ) (path : List ℕ) (one other : ℕ) → IsPath gates (v ∷ path) → one < other
        → other < length (v ∷ path) → v < n
    begins_within v [] one other is apart inside = absurd (omega arith)
    begins_within v (w ∷ path) one other is apart inside = (within v w is.0).0

    -- only a gate's variable leads to a cycle
    pub cycle_within : (v : ℕ) → ReachesCycle gates v → v < n
    cycle_within v c = begins_within v c.path c.one c.other c.is_path c.apart c.within
