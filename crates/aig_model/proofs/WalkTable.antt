-- One change of a variable's standing, and what it leaves of the table, the path and the order.
use Rattle.std.proofs.Common.{◌≡◌, ◌≢◌, ℕ, ◌+◌, ◌<◌, true, false, cond, List, [], ◌∷◌, ◌++◌, length, get_or, set, map, count_by, Some, slice_get, ◌⊎◌, inl, inr, ⊎_elim, refl, sym, ap, ◌∙◌, subst, arith}
use Rattle.std.proofs.lemmas.List.{get_or_past, get_or-set_same, get_or-set_other, map_push}
use Rattle.std.proofs.lemmas.List.Sums.{sum_by-set}
use Rattle.std.proofs.lemmas.Option.{slice_get_within, slice_get-get_or}
use Rattle.std.proofs.lemmas.Bool.{cases_eq, cases_lt, false≢true}
use Rattle.ja_base.specs.Literals.{variable}
use Rattle.aig_model.specs.declared.netlist.AndGate.{AndGate}
use Rattle.aig_model.specs.declared.order.Standing.{Standing}
use Rattle.aig_model.specs.declared.order.Standing.TheVariants.{Ready, Waiting, Reached}
use Rattle.aig_model.specs.Netlist.{gate_var, AreApart, IsBefore}
use Rattle.aig_model.specs.Refusals.{Leads}
use Rattle.aig_model.specs.Order.{standing_of, is_waiting, is_reached, Has, LeadsAway, IsPlaced, IsPart, IsWalkPath, IsTable}
use Rattle.aig_model.proofs.Places.{get_left, get_last, push_cases, push_within, map_cases, get_map, one_place, AreApart-push, AreApart-front, last_is_new}

-- the standing of u, after that of v became s
abbrev pub SetCases : List Standing → ℕ → Standing → ℕ → Type 0
SetCases tab v s u = ((u ≡ v) × (standing_of (set tab v s) u ≡ s)) ⊎ ((u ≢ v) × (standing_of (set tab v s) u ≡ standing_of tab u))

pub set_cases : (tab : List Standing) (v : ℕ) (s : Standing) (u : ℕ) → v < length tab → SetCases tab v s u
set_cases tab v s u within =
    ⊎_elim (λ e. inl (e, rw e (get_or-set_same tab v s Ready within))) (λ ne. inr (ne, get_or-set_other tab v u s Ready ne))
    (cases_eq u v)

-- standings that differ are those of two variables
pub not_same : (tab : List Standing) (u v : ℕ) → standing_of tab u ≢ standing_of tab v → u ≢ v
not_same tab u v ne e = ne (ap (standing_of tab) e)

pub stays : (tab : List Standing) (v : ℕ) (s : Standing) (u : ℕ) → u ≢ v → standing_of (set tab v s) u ≡ standing_of tab u
stays tab v s u ne = get_or-set_other tab v u s Ready ne

-- what was reached is found among what is reached now
reached_stays : (tab : List Standing) (v : ℕ) (s : Standing) (u : ℕ) → u ≢ v → is_reached (standing_of tab u) ≡ true
    → is_reached (standing_of (set tab v s) u) ≡ true
reached_stays tab v s u ne r = ap is_reached (stays tab v s u ne) ∙ r

reached_before : (tab : List Standing) (v : ℕ) (s : Standing) (u : ℕ) → u ≢ v → is_reached (standing_of (set tab v s) u) ≡ true
    → is_reached (standing_of tab u) ≡ true
reached_before tab v s u ne r = sym (ap is_reached (stays tab v s u ne)) ∙ r

not_waiting : (s : Standing) (at : ℕ) → is_reached s ≡ true → s ≡ Waiting at → ⊥
not_waiting s at r w = false≢true (sym (ap is_reached w) ∙ r)

not_ready : (s : Standing) → is_reached s ≡ true → s ≡ Ready → ⊥
not_ready s r w = false≢true (sym (ap is_reached w) ∙ r)

-- past the table each variable is ready
pub reached_within : (tab : List Standing) (v : ℕ) → is_reached (standing_of tab v) ≡ true → v < length tab
reached_within tab v r = ⊎_elim (λ lt. lt) (λ past. absurd (false≢true (sym (ap is_reached (get_or_past tab v Ready past)) ∙ r)))
    (cases_lt v (length tab))

pub waiting_within : (tab : List Standing) (v at : ℕ) → standing_of tab v ≡ Waiting at → v < length tab
waiting_within tab v at w =
    ⊎_elim (λ lt. lt) (λ past. absurd (let e = get_or_past tab v Ready past in cc)) (cases_lt v (length tab))

-- each gate of the path's last variable leads to v
abbrev pub Follows : List AndGate → List ℕ → ℕ → Type 0
Follows gates path v = (at u : ℕ) → at + 1 ≡ length path → slice_get path at ≡ Some u → Leads gates u v

module _ (gates : List AndGate) (tab : List Standing) (v at : ℕ) (within : v < length tab)
    (waits : standing_of tab v ≡ Waiting at) where
  -- a variable that is not v, since v waits
  ready_other : (u : ℕ) → standing_of tab u ≡ Ready → u ≢ v
  ready_other u ready e = absurd (let same = ap (standing_of tab) e in cc)

  reached_other : (u : ℕ) → is_reached (standing_of tab u) ≡ true → u ≢ v
  reached_other u r e = not_waiting (standing_of tab u) at r (ap (standing_of tab) e ∙ waits)

  ready_kept : (u : ℕ) → standing_of tab u ≡ Ready → standing_of (set tab v (Reached at)) u ≡ Ready
  ready_kept u ready = stays tab v (Reached at) u (ready_other u ready) ∙ ready

  pub enter_table : IsTable gates tab → IsTable gates (set tab v (Reached at))
  enter_table table =
      record {
        waiting = λ u k is. ⊎_elim (λ h. absurd (cc)) (λ h. table.waiting u k (sym h.1 ∙ is))
            (set_cases tab v (Reached at) u within);
        reached = λ u k is.
            ⊎_elim
            (λ h.
            let same : at ≡ k = cc in
            let old = table.waiting v at waits in
            record { gate = old.gate; is = rw (← same) old.is; var = old.var ∙ sym h.0 })
            (λ h. table.reached u k (sym h.1 ∙ is)) (set_cases tab v (Reached at) u within);
      }

  pub enter_order : (order : List AndGate) → IsPart gates tab order → IsPart gates (set tab v (Reached at)) order
  enter_order order part =
      record {
        all = λ k gate is ready.
            ⊎_elim (λ h. absurd (cc)) (λ h. part.all k gate is (sym h.1 ∙ ready))
            (set_cases tab v (Reached at) (gate_var gate) within);
        placed = λ j gate is.
            let p = part.placed j gate is in
            record {
              from = p.from;
              ready = ready_kept (gate_var gate) p.ready;
              ready0 = ready_kept (variable gate.rhs0) p.ready0;
              ready1 = ready_kept (variable gate.rhs1) p.ready1;
              before0 = p.before0;
              before1 = p.before1;
            };
        apart = part.apart;
      }

  -- what is on the path is reached, so v is new there
  new_there : (path : List ℕ) → IsWalkPath gates tab path → Has path v → ⊥
  new_there path walk has = reached_other v (walk.reached has.0 v has.1) refl

  pub enter_path : (path : List ℕ) → IsWalkPath gates tab path → Follows gates path v
      → IsWalkPath gates (set tab v (Reached at)) (path ++ v ∷ [])
  enter_path path walk follows =
      record {
        reached = λ i u is.
            ⊎_elim (λ old. let r = walk.reached i u old in reached_stays tab v (Reached at) u (reached_other u r) r)
            (λ last. ap is_reached (ap (standing_of (set tab v (Reached at))) (sym last.1)
            ∙ get_or-set_same tab v (Reached at) Ready within)) (push_cases path v i u is);
        leads = λ i u w at_u at_w.
            ⊎_elim
            (λ old_w.
            let within_w = slice_get_within path (i + 1) w old_w in
            walk.leads i u w (push_within path v i u (omega arith) at_u) old_w)
            (λ last. subst (Leads gates u) last.1 (follows i u last.0 (push_within path v i u (omega (arith, last.0)) at_u)))
            (push_cases path v (i + 1) w at_w);
        once = AreApart-push path v walk.once (new_there path walk);
        all = λ u r.
            ⊎_elim (λ h. inl (length path, get_last path v ∙ ap Some (sym h.0)))
            (λ h.
            ⊎_elim (λ has. inl (has.0, get_left path (v ∷ []) has.0 u has.1))
            (λ away. inr (record {
              to = away.to;
              leads = away.leads;
              reached = reached_stays tab v (Reached at) away.to (reached_other away.to away.reached) away.reached;
              off = λ has. ⊎_elim (λ old. away.off (has.0, old)) (λ last. reached_other away.to away.reached (sym last.1))
                  (push_cases path v has.0 away.to has.1);
            }))
            (walk.all u (sym (ap is_reached h.1) ∙ r)))
            (set_cases tab v (Reached at) u within);
      }

module _ (gates : List AndGate) (tab : List Standing) (gate : AndGate) (at : ℕ) (within : gate_var gate < length tab)
    (is_at : slice_get gates at ≡ Some gate)
    (gone : is_reached (standing_of tab (gate_var gate)) ≡ true) where
  -- a variable that is ready is not the gate's, which was reached
  ready_apart : (u : ℕ) → standing_of tab u ≡ Ready → u ≢ gate_var gate
  ready_apart u ready e = not_ready (standing_of tab (gate_var gate)) gone (ap (standing_of tab) (sym e) ∙ ready)

  ready_more : (u : ℕ) → standing_of tab u ≡ Ready → standing_of (set tab (gate_var gate) Ready) u ≡ Ready
  ready_more u ready = stays tab (gate_var gate) Ready u (ready_apart u ready) ∙ ready

  pub leave_table : IsTable gates tab → IsTable gates (set tab (gate_var gate) Ready)
  leave_table table =
      record {
        waiting = λ u k is. ⊎_elim (λ h. absurd (cc)) (λ h. table.waiting u k (sym h.1 ∙ is))
            (set_cases tab (gate_var gate) Ready u within);
        reached = λ u k is. ⊎_elim (λ h. absurd (cc)) (λ h. table.reached u k (sym h.1 ∙ is))
            (set_cases tab (gate_var gate) Ready u within);
      }

  pub leave_path : (path : List ℕ) → IsWalkPath gates tab (path ++ gate_var gate ∷ [])
      → IsWalkPath gates (set tab (gate_var gate) Ready) path
  leave_path path walk =
      let v : ℕ = gate_var gate in
      let whole : List ℕ = path ++ v ∷ [] in
      let off : Has path v → ⊥ = last_is_new path v walk.once in
      record {
        reached = λ i u is.
            reached_stays tab v Ready u (λ e. off (i, is ∙ ap Some e)) (walk.reached i u (get_left path (v ∷ []) i u is));
        leads = λ i u w at_u at_w. walk.leads i u w (get_left path (v ∷ []) i u at_u) (get_left path (v ∷ []) (i + 1) w at_w);
        once = AreApart-front path (v ∷ []) walk.once;
        all = λ u r.
            ⊎_elim (λ h. absurd (false≢true (sym (ap is_reached h.1) ∙ r)))
            (λ h.
            ⊎_elim
            (λ has. ⊎_elim (λ old. inl (has.0, old)) (λ last. absurd (h.0 (sym last.1))) (push_cases path v has.0 u has.1))
            (λ away. inr (record {
              to = away.to;
              leads = away.leads;
              reached = reached_stays tab v Ready away.to (λ e. away.off (length path, get_last path v ∙ ap Some (sym e)))
                  away.reached;
              off = λ has. away.off (has.0, get_left path (v ∷ []) has.0 away.to has.1);
            }))
            (walk.all u (sym (ap is_reached h.1) ∙ r)))
            (set_cases tab v Ready u within);
      }

  -- a gate of the same variable is the same gate
  one_gate : AreApart (map gate_var gates) → (k : ℕ) (other : AndGate) → slice_get gates k ≡ Some other
      → gate_var other ≡ gate_var gate → other ≡ gate
  one_gate apart k other is e =
      let same : k ≡ at = one_place (map gate_var gates) k at (gate_var other) (gate_var gate) apart
      (get_map gate_var gates k other is) (get_map gate_var gates at gate is_at) e in
      let moved : slice_get gates at ≡ Some other = rw (← same) is in
      cc

  -- what is ready comes before the gate
  before_more : (order : List AndGate) (j l : ℕ) → standing_of tab (variable l) ≡ Ready → IsBefore order j l
      → IsBefore (order ++ gate ∷ []) j l
  before_more order j l ready before k later le is =
      ⊎_elim (λ old. before k later le old)
      (λ last. subst (λ (g : AndGate). variable l ≢ gate_var g) last.1 (ready_apart (variable l) ready))
      (push_cases order gate k later is)

  none_after : (order : List AndGate) (l : ℕ) → IsBefore order (length order) l
  none_after order l k later le is = absurd (let w = slice_get_within order k later is in omega arith)

  placed_more : (order : List AndGate) (j : ℕ) (other : AndGate) → IsPlaced gates tab order j other
      → IsPlaced gates (set tab (gate_var gate) Ready) (order ++ gate ∷ []) j other
  placed_more order j other p =
      record {
        from = p.from;
        ready = ready_more (gate_var other) p.ready;
        ready0 = ready_more (variable other.rhs0) p.ready0;
        ready1 = ready_more (variable other.rhs1) p.ready1;
        before0 = before_more order j other.rhs0 p.ready0 p.before0;
        before1 = before_more order j other.rhs1 p.ready1 p.before1;
      }

  pub leave_order : (order : List AndGate) → AreApart (map gate_var gates) → standing_of tab (variable gate.rhs0) ≡ Ready
      → standing_of tab (variable gate.rhs1) ≡ Ready
      → IsPart gates tab order → IsPart gates (set tab (gate_var gate) Ready) (order ++ gate ∷ [])
  leave_order order apart ready0 ready1 part =
      let v : ℕ = gate_var gate in
      record {
        all = λ k other is ready.
            ⊎_elim (λ h. (length order, get_last order gate ∙ ap Some (sym (one_gate apart k other is h.0))))
            (λ h. let old = part.all k other is (sym h.1 ∙ ready) in (old.0, get_left order (gate ∷ []) old.0 other old.1))
            (set_cases tab v Ready (gate_var other) within);
        placed = λ j other is.
            ⊎_elim (λ old. placed_more order j other (part.placed j other old))
            (λ last. rw (last.0, ← last.1) (record {
              from = (at, is_at);
              ready = get_or-set_same tab v Ready Ready within;
              ready0 = ready_more (variable gate.rhs0) ready0;
              ready1 = ready_more (variable gate.rhs1) ready1;
              before0 = before_more order (length order) gate.rhs0 ready0 (none_after order gate.rhs0);
              before1 = before_more order (length order) gate.rhs1 ready1 (none_after order gate.rhs1);
            }))
            (push_cases order gate j other is);
        apart = rw map_push (AreApart-push (map gate_var order) v part.apart (λ has.
            let old = map_cases gate_var order has.0 v has.1 in
            ready_apart (gate_var old.0) (part.placed has.0 old.0 old.1).ready old.2));
      }

-- the path ends before a variable that was reached: a cycle can be reached from all of it
pub end_path : (gates : List AndGate) (tab : List Standing) (path : List ℕ) (w : ℕ) → Follows gates path w
    → is_reached (standing_of tab w) ≡ true
    → IsWalkPath gates tab path → IsWalkPath gates tab []
end_path gates tab path w follows gone walk =
    record {
      reached = λ i u is. absurd (cc);
      leads = λ i u x at_u at_x. absurd (cc);
      once = λ i j lt within. absurd (omega arith);
      all = λ u r. inr (⊎_elim (on_path u) (λ away. record {
        to = away.to;
        leads = away.leads;
        reached = away.reached;
        off = λ has. absurd (cc);
      }) (walk.all u r));
    }
  where
    on_path : (u : ℕ) → Has path u → LeadsAway gates tab [] u
    on_path u has =
        ⊎_elim
        (λ last. record { to = w; leads = follows has.0 u last has.1; reached = gone; off = λ h. absurd (cc) })
        (λ more.
        let lies = slice_get_within path has.0 u has.1 in
        let next = slice_get-get_or path (has.0 + 1) 0 (omega arith) in
        let x : ℕ = get_or path (has.0 + 1) 0 in
        record {
          to = x;
          leads = walk.leads has.0 u x has.1 next;
          reached = walk.reached (has.0 + 1) x next;
          off = λ h. absurd (cc);
        })
        (cases_eq (has.0 + 1) (length path))

-- one less waits
pub enter_count : (tab : List Standing) (v at : ℕ) → v < length tab → standing_of tab v ≡ Waiting at
    → count_by is_waiting (set tab v (Reached at)) + 1 ≡ count_by is_waiting tab
enter_count tab v at within waits =
    let c : Standing → ℕ = λ s. cond (is_waiting s) 1 0 in
    let e = sum_by-set c tab v (Reached at) Ready within in
    let w : c (standing_of tab v) ≡ 1 = ap c waits in
    omega (arith, e, w)

pub leave_count : (tab : List Standing) (v : ℕ) → v < length tab → is_waiting (standing_of tab v) ≡ false
    → count_by is_waiting (set tab v Ready) ≡ count_by is_waiting tab
leave_count tab v within not_waits =
    let c : Standing → ℕ = λ s. cond (is_waiting s) 1 0 in
    let e = sum_by-set c tab v Ready Ready within in
    let w : c (standing_of tab v) ≡ 0 = ap (λ b. cond b 1 0) not_waits in
    omega (arith, e, w)
