-- What a refuted question says of each step, and what a row that meets it is.
use Rattle.std.proofs.Common.{◌≡◌, ℕ, suc, zero, ◌+◌, ◌-◌, ◌≤◌, ◌<◌, Bool, true, false, List, [], ◌∷◌, ◌++◌, length, map, get_or, nat_le, refl, sym, ap, subst, ◌∙◌, arith}
use Rattle.std.specs.List.{list_any, range_with_len, All}
use Rattle.std.specs.Prelude.{Option, Some, None, Contains}
use Rattle.std.proofs.lemmas.Bool.Decides.{nat_tests}
use Rattle.std.proofs.lemmas.List.{length-append, get_or_append_left, get_or-append-add}
use Rattle.std.proofs.lemmas.Option.{slice_get-get_or}
use Rattle.std.proofs.lemmas.List.Elements.{All-append, All-contains, All-push, All-map, All-from_recursion}
use Rattle.std.proofs.lemmas.List.FromFn.{length-map-range_with_len, get_or-map-range_with_len, length-range_with_len, get_or-range_with_len}
use Rattle.ja_base.specs.Literals.{bit, variable, negated, value, SatisfiedBy, AllSatisfiedBy}
use Rattle.ja_base.specs.Circuit as plain
use Rattle.ja_base.specs.Circuit.{bad_literal}
use Rattle.ja_base.specs.Valuation.{IsValuation, latch_row, next_state, MeetsConstraints}
use Rattle.ja_base.specs.Invariants.{latch_value, MeetsClauses}
use Rattle.ja_base.proofs.JoinLemmas.{first_is_part, second_is_part}
use Rattle.aig_model.specs.Netlist.{Netlist, IsSound, circuit}
use Rattle.aig_model.specs.Task.{VerificationTask}
use Rattle.sat_plain.specs.Probed.{Closes, IsFront}
use Rattle.ja_project.specs.CodedClauses.{coded_clauses, held_literals, negated_next, next_literal}
use Rattle.ja_project.specs.Meaning.{IsLegalStep}
use Rattle.ja_project.specs.Latches.{is_foreign}
use Rattle.ja_project.proofs.BelowLemmas.{clauses_are_below, lit_is_below}
use Rattle.ja_project.proofs.HeldLemmas.{held_means_assumptions, held_is_below}
use Rattle.ja_project.proofs.StepLemmas.{clauses_mean_steps}
use Rattle.ja_project.proofs.ValueLemmas.{obliged, later_false}
use Rattle.aig_eval.specs.Rows.{IsClear}
use Rattle.inv_cert.proofs.InductionLemmas.{All-part}
use Rattle.ic3_frames.specs.Levels.{Entry, Levels}
use Rattle.ic3_frames.specs.Soundness.{Meets, IsIn}
use Rattle.ic3_frames.proofs.GainLemmas.{meets_more}
use Rattle.ic3_query.specs.Questions.{IsStep, IsBefore, IsKeptAt, IsPartFor, IsBlockedBy, IsKnownBlockedBy, IsBadRow, IsGoodFrom, IsRoom, IsAnswered}
use Rattle.ic3_query.specs.Serving.{Serves}
use Rattle.ic3_query.specs.Switches.{switch_var, switch, IsOn, IsExactly}
use Rattle.ic3_query.specs.Under.{switches, step_literals, bad_literals}
use Rattle.ic3_query.proofs.RowLemmas.{AreSame, value_positive, value_same, all_same, lits_same, same_latches, same_nexts, all_of_part, met_in_row, met_by_latches}
use Rattle.ic3_query.proofs.CoreLemmas.{core_holds, whole_part, All-unmap}
use Rattle.ic3_query.proofs.ServeLemmas.{first_part, last_part}

-- ---- the switches of a question

-- the bits of the switches from level 0 to the top, on from level k
abbrev switch_bits : ℕ → ℕ → List Bool
switch_bits k top = map (nat_le k) (range_with_len 0 (top + 1))

-- the row with exactly the switches of the level
abbrev switched : List Bool → ℕ → ℕ → List Bool
switched v k top = v ++ switch_bits k top

switched_length : (v : List Bool) (k top : ℕ) → length (switched v k top) ≡ length v + (top + 1)
switched_length v k top =
    length-append v (switch_bits k top) ∙ ap (λ (m : ℕ). length v + m) (length-map-range_with_len (nat_le k) 0 (top + 1))

switched_bit : (n : Netlist) (v : List Bool) (k top j : ℕ) → length v ≡ n.vars + 1 → j ≤ top
    → bit (switched v k top) (switch_var n j) ≡ nat_le k j
switched_bit n v k top j width within =
    ap (λ (m : ℕ). bit (switched v k top) (m + j)) (sym width)
    ∙ get_or-append-add v (switch_bits k top) j false
    ∙ get_or-map-range_with_len (nat_le k) 0 (top + 1) j j false (omega (arith, within)) (omega arith)

switched_exactly : (n : Netlist) (v : List Bool) (k top : ℕ) → length v ≡ n.vars + 1 → IsExactly n top k (switched v k top)
switched_exactly n v k top width j within = switched_bit n v k top j width within

up_is_on : (k j : ℕ) → k ≤ j → nat_le k j ≡ true
up_is_on k j up = grind (arith, nat_tests)

switches_on : (n : Netlist) (v : List Bool) (k top : ℕ) → length v ≡ n.vars + 1
    → All (λ l. value (switched v k top) l ≡ true) (switches n k top)
switches_on n v k top width =
    All-map (λ l. value (switched v k top) l ≡ true) (switch n) (range_with_len k (top + 1 - k)) (λ i d within.
    let short : i < top + 1 - k = omega (arith, within, length-range_with_len k (top + 1 - k)) in
    let j : ℕ = get_or (range_with_len k (top + 1 - k)) i d in
    let is : j ≡ k + i = get_or-range_with_len k (top + 1 - k) i d short in
    value_positive (switched v k top) (switch_var n j)
    ∙ switched_bit n v k top j width (omega (arith, is, short)) ∙ up_is_on k j (omega (arith, is)))

-- a row in which the switches of a question are on
on_from_switches : (n : Netlist) (row : List Bool) (k top : ℕ) → All (λ l. value row l ≡ true) (switches n k top)
    → IsOn n top k row
on_from_switches n row k top h j up within =
    let short : j - k < top + 1 - k = omega (arith, up, within) in
    let is : get_or (switches n k top) (j - k) 0 ≡ switch n j =
    get_or-map-range_with_len (switch n) k (top + 1 - k) (j - k) j 0 short (omega (arith, up)) in
    sym (value_positive row (switch_var n j)) ∙ ap (value row) (sym is)
    ∙ h (j - k) 0 (omega (arith, short, length-map-range_with_len (switch n) k (top + 1 - k)))

-- ---- a step as a row of the solver

bad_is_below : (t : VerificationTask) → IsSound t.design → (p : ℕ) → p < length t.design.bads
    → variable (bad_literal (circuit t.design) p) < t.design.vars + 1
bad_is_below t sound p within =
    lit_is_below t.design.vars (bad_literal (circuit t.design) p)
    (sound.bads p (bad_literal (circuit t.design) p) (slice_get-get_or t.design.bads p 0 within)).within

switched_same : (n : Netlist) (v : List Bool) (k top : ℕ) → length v ≡ n.vars + 1 → AreSame (n.vars + 1) (switched v k top) v
switched_same n v k top width u low = get_or_append_left v (switch_bits k top) false u (omega (arith, low, width))

module _ (t : VerificationTask) (known : List (List ℕ)) (f : Levels) (count : ℕ) (clauses : List (List ℕ))
    (sound : IsSound t.design)
    (expected : length t.expected ≡ length t.design.bads) (serves : Serves t.design known f count clauses) (k : ℕ) where
  -- a step from the level, with the switches of the level
  record IsStepFrom (s x v : List Bool) : Type 0 where
    now : IsValuation (circuit t.design) s x v
    constrained : MeetsConstraints (circuit t.design) v
    known_met : MeetsClauses (circuit t.design) s known
    there : IsIn (circuit t.design) f.kept k s

  abbrev row_of : List Bool → List Bool
  row_of v = switched v k f.top

  same_row : (s x v : List Bool) → IsStepFrom s x v → AreSame (t.design.vars + 1) (row_of v) v
  same_row s x v h = switched_same t.design v k f.top h.now.width

  from_state : (s x v : List Bool) → IsStepFrom s x v → latch_row (circuit t.design) (row_of v) ≡ s
  from_state s x v h = same_latches t.design sound (row_of v) v (same_row s x v h) ∙ h.now.latches

  fits_step : (s x v : List Bool) → IsStepFrom s x v → AllSatisfiedBy (value (row_of v)) clauses
  fits_step s x v h =
      let c : plain.Circuit = circuit t.design in
      let legal = (clauses_mean_steps t.design sound v h.now.width).1 (s, x, h.now, h.constrained) in
      let state = sym (from_state s x v h) in
      let P : List Bool → Type 0 = λ state. MeetsClauses c state known in
      let Q : List Bool → Type 0 = λ state. IsIn c f.kept k state in
      serves.fits (row_of v) (record {
        coded = all_same (t.design.vars + 1) (row_of v) v (coded_clauses t.design) (same_row s x v h)
            (clauses_are_below t.design sound) legal;
        known_met = subst P state h.known_met;
      }) k (subst Q state h.there) (switched_exactly t.design v k f.top h.now.width)

  row_length : (s x v : List Bool) → IsStepFrom s x v → length (row_of v) ≡ count
  row_length s x v h = omega (arith, switched_length v k f.top, h.now.width, serves.width)

  -- ---- no step

  pub part_where_closed : (clause core part : List ℕ) → is_foreign (circuit t.design) clause ≡ false
      → Closes count (clauses ++ clause ∷ []) (step_literals t k f.top clause) core
      → IsPartFor t.design core clause part → IsKeptAt t known f k part
  part_where_closed clause core part own closes is s x v now known_met there meets constrained held =
      by_case (list_any (latch_value (circuit t.design).latches (next_state (circuit t.design) v)) part) refl
    where
      c : plain.Circuit
      c = circuit t.design

      h : IsStepFrom s x v
      h = record { now = now; constrained = constrained; known_met = known_met; there = there }

      P : ℕ → Type 0
      P l = value (row_of v) l ≡ true

      zero_bit : bit (row_of v) 0 ≡ false
      zero_bit = same_row s x v h 0 (omega arith) ∙ now.constant

      of_held : All P (held_literals t)
      of_held =
          lits_same (t.design.vars + 1) (row_of v) v (held_literals t) (same_row s x v h) (held_is_below t sound)
          ((held_means_assumptions t expected v).1 held)

      of_later : list_any (latch_value c.latches (next_state c v)) part ≡ false → All P (negated_next t.design part)
      of_later e =
          All-from_recursion P (negated_next t.design part) (obliged t.design (row_of v) part zero_bit
          (ap (λ (state : List Bool). list_any (latch_value c.latches state) part)
          (same_nexts t.design sound (row_of v) v (same_row s x v h)) ∙ e))

      of_part : list_any (latch_value c.latches (next_state c v)) part ≡ false → (l : ℕ) → Contains part l
          → P (negated (next_literal t.design.latches l))
      of_part e l there =
          All-contains (λ m. P (negated (next_literal t.design.latches m))) part l
          (All-unmap P (λ m. negated (next_literal t.design.latches m)) part (of_later e)) there

      extra_met : list_any (value (row_of v)) clause ≡ true
      extra_met =
          let Q : List Bool → Type 0 = λ state. Meets c state clause in
          met_in_row c (row_of v) clause own (subst Q (sym (from_state s x v h))
          (meets_more (latch_value c.latches s) part clause is.within meets))

      by_case : (b : Bool) → list_any (latch_value c.latches (next_state c v)) part ≡ b → b ≡ true
      by_case true e = refl
      by_case false e =
          absurd (closes.refuted (row_of v) (record {
            width = row_length s x v h;
            clauses_hold = All-push (SatisfiedBy (value (row_of v))) clauses clause (fits_step s x v h) extra_met;
            under_holds = core_holds P t.design (switches t.design k f.top ++ held_literals t) core clause part closes.part is
                (All-append P (switches t.design k f.top) (held_literals t) (switches_on t.design v k f.top now.width) of_held)
                (of_part e);
          }))

  pub blocked_where_closed : (clause core : List ℕ) → is_foreign (circuit t.design) clause ≡ false
      → Closes count (clauses ++ clause ∷ []) (step_literals t k f.top clause) core → IsBlockedBy t known f k clause core
  blocked_where_closed clause core own closes = record {
    kept = part_where_closed clause core clause own closes (whole_part t.design core clause);
    parts = λ part is. part_where_closed clause core part own closes is;
  }

  pub good_where_closed : (p : ℕ) (core : List ℕ) → p < length t.design.bads
      → Closes count clauses (bad_literals t k f.top p) core → IsGoodFrom t known f k p
  good_where_closed p core within closes s x v now known_met there constrained = by_case (value v bad) refl
    where
      bad : ℕ
      bad = bad_literal (circuit t.design) p

      h : IsStepFrom s x v
      h = record { now = now; constrained = constrained; known_met = known_met; there = there }

      P : ℕ → Type 0
      P l = value (row_of v) l ≡ true

      by_case : (b : Bool) → value v bad ≡ b → b ≡ false
      by_case false e = refl
      by_case true e =
          absurd (closes.refuted (row_of v) (record {
            width = row_length s x v h;
            clauses_hold = fits_step s x v h;
            under_holds = all_of_part P core (bad_literals t k f.top p) closes.part
                (All-push P (switches t.design k f.top) bad (switches_on t.design v k f.top now.width)
                (value_same (t.design.vars + 1) (row_of v) v bad (same_row s x v h) (bad_is_below t sound p within) ∙ e));
          }))

  -- ---- a step that was found

  -- a row that meets the solver's clauses, and one with its bits
  module _ (whole row : List Bool) (all : AllSatisfiedBy (value whole) clauses) (width : length row ≡ t.design.vars + 1)
      (same : AreSame (t.design.vars + 1) row whole) where
    legal : IsLegalStep t.design row
    legal =
        (clauses_mean_steps t.design sound row width).0
        (all_same (t.design.vars + 1) row whole (coded_clauses t.design) same (clauses_are_below t.design sound)
        (serves.holds.step whole all).coded)

    found_now : IsStep (circuit t.design) row
    found_now =
        let now = legal.2 in
        record {
          width = now.width;
          constant = now.constant;
          latches = refl;
          inputs = refl;
          gates = now.gates;
          rest = now.rest;
        }

    found_state : latch_row (circuit t.design) whole ≡ latch_row (circuit t.design) row
    found_state = sym (same_latches t.design sound row whole same)

    found_known : MeetsClauses (circuit t.design) (latch_row (circuit t.design) row) known
    found_known =
        let P : List Bool → Type 0 = λ state. MeetsClauses (circuit t.design) state known in
        subst P found_state (serves.holds.step whole all).known_met

    found_level : All (λ l. value whole l ≡ true) (switches t.design k f.top)
        → IsIn (circuit t.design) f.kept k (latch_row (circuit t.design) row)
    found_level on =
        let P : List Bool → Type 0 = λ state. IsIn (circuit t.design) f.kept k state in
        subst P found_state (serves.holds.level whole all k (on_from_switches t.design whole k f.top on))

  front_same : (many : List (List ℕ)) (under : List ℕ) (row : List Bool) (front : IsFront count many under row)
      → length row ≡ t.design.vars + 1 → AreSame (t.design.vars + 1) row front.whole
  front_same many under row front width u low = front.same u (omega (arith, low, width)) (omega (arith, low, serves.width))

  all_part : (P : ℕ → Type 0) (a b : List ℕ) → All P (a ++ b) → All P a × All P b
  all_part P a b h = (All-part P (a ++ b) a h (first_is_part a b), All-part P (a ++ b) b h (second_is_part a b))

  pub found_is_before : (clause : List ℕ) (row : List Bool) → is_foreign (circuit t.design) clause ≡ false
      → IsFront count (clauses ++ clause ∷ []) (step_literals t k f.top clause) row → length row ≡ t.design.vars + 1
      → IsBefore t known f k clause row
  found_is_before clause row own front width =
      let c : plain.Circuit = circuit t.design in
      let whole : List Bool = front.whole in
      let P : ℕ → Type 0 = λ l. value whole l ≡ true in
      let same = front_same (clauses ++ clause ∷ []) (step_literals t k f.top clause) row front width in
      let all = first_part whole clauses (clause ∷ []) front.meets.clauses_hold in
      let parts = all_part P (switches t.design k f.top ++ held_literals t)
      (negated_next t.design clause) front.meets.under_holds in
      let low = all_part P (switches t.design k f.top) (held_literals t) parts.0 in
      let back : AreSame (t.design.vars + 1) whole row = λ u below. sym (same u below) in
      let now = found_now whole row all width same in
      let zero_bit : bit whole 0 ≡ false = back 0 (omega arith) ∙ now.constant in
      let Q : List Bool → Type 0 = λ state. Meets c state clause in
      record {
        now = now;
        constrained = (legal whole row all width same).3;
        held = (held_means_assumptions t expected row).0
            (lits_same (t.design.vars + 1) row whole (held_literals t) same (held_is_below t sound) low.1);
        known_met = found_known whole row all width same;
        level = found_level whole row all width same low.0;
        outside = subst Q (found_state whole row all width same)
            (met_by_latches c whole clause own (last_part whole clauses clause front.meets.clauses_hold));
        later = ap (λ (state : List Bool). list_any (latch_value c.latches state) clause)
            (same_nexts t.design sound row whole same)
            ∙ later_false t.design whole clause zero_bit parts.1;
      }

  pub found_is_bad : (p : ℕ) (row : List Bool) → p < length t.design.bads
      → IsFront count clauses (bad_literals t k f.top p) row → length row ≡ t.design.vars + 1
      → IsBadRow t known f k p row
  found_is_bad p row within front width =
      let whole : List Bool = front.whole in
      let P : ℕ → Type 0 = λ l. value whole l ≡ true in
      let bad : ℕ = bad_literal (circuit t.design) p in
      let same = front_same clauses (bad_literals t k f.top p) row front width in
      let all = front.meets.clauses_hold in
      let parts = all_part P (switches t.design k f.top) (bad ∷ []) front.meets.under_holds in
      record {
        now = found_now whole row all width same;
        constrained = (legal whole row all width same).3;
        known_met = found_known whole row all width same;
        level = found_level whole row all width same parts.0;
        bad = value_same (t.design.vars + 1) row whole bad same (bad_is_below t sound p within) ∙ parts.1 0 0 (omega arith);
      }

  -- ---- the same by what a question answered

  closes_of : (many : List (List ℕ)) (under core : List ℕ) (among : Option (List ℕ)) (row : List Bool) (answer : Option (List ℕ))
      → IsAnswered count many under among row answer → answer ≡ Some core → Closes count many under core
  closes_of many under core among row answer h e =
      let P : Option (List ℕ) → Type 0 = IsAnswered count many under among row in
      subst P e h

  front_of : (many : List (List ℕ)) (under : List ℕ) (row : List Bool) (answer : Option (List ℕ))
      → IsAnswered count many under None row answer → answer ≡ None → IsFront count many under row
  front_of many under row answer h e =
      let P : Option (List ℕ) → Type 0 = IsAnswered count many under None row in
      subst P e h

  pub step_refuted : (clause under core : List ℕ) (among : Option (List ℕ)) (row : List Bool) (answer : Option (List ℕ))
      → is_foreign (circuit t.design) clause ≡ false → under ≡ step_literals t k f.top clause
      → IsAnswered count (clauses ++ clause ∷ []) under among row answer → answer ≡ Some core → IsBlockedBy t known f k clause core
  step_refuted clause under core among row answer own is h e =
      let P : List ℕ → Type 0 = λ lits. Closes count (clauses ++ clause ∷ []) lits core in
      blocked_where_closed clause core own (subst P is (closes_of (clauses ++ clause ∷ []) under core among row answer h e))

  pub step_found : (clause under : List ℕ) (row : List Bool) (answer : Option (List ℕ))
      → is_foreign (circuit t.design) clause ≡ false
      → under ≡ step_literals t k f.top clause → IsAnswered count (clauses ++ clause ∷ []) under None row answer → answer ≡ None
      → length row ≡ t.design.vars + 1 → IsBefore t known f k clause row
  step_found clause under row answer own is h e width =
      let P : List ℕ → Type 0 = λ lits. IsFront count (clauses ++ clause ∷ []) lits row in
      found_is_before clause row own (subst P is (front_of (clauses ++ clause ∷ []) under row answer h e)) width

  pub bad_refuted : (p : ℕ) (under core : List ℕ) (among : Option (List ℕ)) (row : List Bool) (answer : Option (List ℕ))
      → p < length t.design.bads → under ≡ bad_literals t k f.top p → IsAnswered count clauses under among row answer
      → answer ≡ Some core → IsGoodFrom t known f k p
  bad_refuted p under core among row answer within is h e =
      let P : List ℕ → Type 0 = λ lits. Closes count clauses lits core in
      good_where_closed p core within (subst P is (closes_of clauses under core among row answer h e))

  pub bad_found : (p : ℕ) (under : List ℕ) (row : List Bool) (answer : Option (List ℕ)) → p < length t.design.bads
      → under ≡ bad_literals t k f.top p → IsAnswered count clauses under None row answer → answer ≡ None
      → length row ≡ t.design.vars + 1 → IsBadRow t known f k p row
  bad_found p under row answer within is h e width =
      let P : List ℕ → Type 0 = λ lits. IsFront count clauses lits row in
      found_is_bad p row within (subst P is (front_of clauses under row answer h e)) width

-- ---- the room

-- the row that was found takes the place of the values
pub room_swapped : (n : Netlist) (row values new_row new_values : List Bool) → IsClear (circuit n) values
    → IsStep (circuit n) new_values
    → new_row ≡ values → new_values ≡ row → IsRoom n new_row new_values
room_swapped n row values new_row new_values clear now e g =
    let P : List Bool → Type 0 = λ r. IsRoom n r new_values in
    subst P (sym e) (record { wide = clear.width; clear = record { width = now.width; rest = now.rest } })

-- ---- above the top

-- a number that no level exceeds
total : List Entry → ℕ
total [] = 0
total (e ∷ es) = e.level + total es

level_is_within : (kept : List Entry) (k : ℕ) (d : Entry) → k < length kept → (get_or kept k d).level ≤ total kept
unfolding total
level_is_within [] k d within = absurd (omega (arith, within))
level_is_within (e ∷ es) zero d within = omega arith
level_is_within (e ∷ es) (suc k) d within = let later = level_is_within es k d (omega (arith, within)) in omega (arith, later)

-- no clause stands there
none_above : (c : plain.Circuit) (kept : List Entry) (top : ℕ) (s : List Bool) → IsIn c kept (suc (top + total kept)) s
none_above c kept top s i d within up = absurd (omega (arith, level_is_within kept i d within, up))

no_switches : (n : Netlist) (k top : ℕ) → top + 1 ≤ k → switches n k top ≡ []
no_switches n k top up =
    let none : top + 1 - k ≡ 0 = omega (arith, up) in
    ap (λ (m : ℕ). map (switch n) (range_with_len k m)) none

same_above : (t : VerificationTask) (top j k : ℕ) (clause : List ℕ) → top + 1 ≤ j → top + 1 ≤ k
    → step_literals t j top clause ≡ step_literals t k top clause
same_above t top j k clause low high =
    ap (λ (l : List ℕ). l ++ held_literals t ++ negated_next t.design clause)
    (no_switches t.design j top low ∙ sym (no_switches t.design k top high))

-- a refuted question above the top speaks of what is known alone
pub known_refuted : (t : VerificationTask) (known : List (List ℕ)) (f : Levels) (count : ℕ) (clauses : List (List ℕ))
    → IsSound t.design
    → length t.expected ≡ length t.design.bads → Serves t.design known f count clauses → (k : ℕ) (clause under core : List ℕ)
    (among : Option (List ℕ)) (row : List Bool) (answer : Option (List ℕ)) → is_foreign (circuit t.design) clause ≡ false
    → under ≡ step_literals t k f.top clause → IsAnswered count (clauses ++ clause ∷ []) under among row answer
    → answer ≡ Some core
    → k ≡ f.top + 1 → IsKnownBlockedBy t known clause core
known_refuted t known f count clauses sound expected serves k clause under core among row answer own is h e high =
    let j : ℕ = suc (f.top + total f.kept) in
    let literals = is ∙ same_above t f.top k j clause (omega (arith, high)) (omega arith) in
    let blocked = step_refuted t known f count clauses sound expected serves j clause under core among row answer own literals h e in
    record {
      kept = λ s x v now met there. blocked.kept s x v now met (none_above (circuit t.design) f.kept f.top s) there;
      parts = λ part in_part s x v now met there.
          blocked.parts part in_part s x v now met (none_above (circuit t.design) f.kept f.top s) there;
    }

pub known_before : (t : VerificationTask) (known : List (List ℕ)) (f : Levels) (k : ℕ) (clause : List ℕ) (values : List Bool)
    → IsBefore t known f k clause values → k ≡ f.top + 1 → IsBefore t known f (f.top + 1) clause values
known_before t known f k clause values h high = let P : ℕ → Type 0 = λ j. IsBefore t known f j clause values in subst P high h
