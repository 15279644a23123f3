-- Lines that define are read as they are spelled, and what is spelled so is read so.
use Rattle.std.proofs.Common.{◌≡◌, ℕ, ◌*◌, ◌%◌, ◌≤◌, Bool, true, false, eqb, leb, List, [], ◌∷◌, ◌++◌, length, map, set, Result, Ok, refl, sym, ap, subst, ◌∙◌, ◌⊎◌, inl, inr, append_assoc, arith}
use Rattle.std.specs.Prelude.{◌&&◌}
use Rattle.std.specs.List.{AllByRecursion}
use Rattle.std.proofs.lemmas.Bool.Decides.{nat_tests}
use Rattle.ja_base.specs.Literals.{bit, variable}
use Rattle.ja_text.specs.Rows.{IsRow}
use Rattle.ja_text.specs.Reading.{◌>>=◌}
use Rattle.ja_text.specs.Repeated.{repeated, Chain}
use Rattle.ja_text.proofs.ReadingLemmas.{bind_ok, guard_ok, guard_held, ok_is}
use Rattle.ja_text.proofs.RepeatedLemmas.{repeated_takes, repeated_again}
use Rattle.aig_model.specs.declared.netlist.Reset.{Reset}
use Rattle.aig_model.specs.declared.netlist.Reset.TheVariants.{Zero, One, Free}
use Rattle.aig_model.specs.declared.netlist.Latch.{Latch}
use Rattle.aig_model.specs.declared.netlist.AndGate.{AndGate}
use Rattle.aig_model.specs.Netlist.{IsNew}
use Rattle.aiger_lines.specs.declared.refusal.ReadRefusal.{ReadRefusal}
use Rattle.aiger_lines.specs.declared.refusal.ReadRefusal.TheVariants as refusal
use Rattle.aiger_lines.specs.Lines.{AreLines, IsLiteralLine, TakesItem, TakesItems, reset_number, HasReset}
use Rattle.aiger_lines.specs.Reading.{place, numbers_at, one_number, used_at, reset_at}
use Rattle.aiger_lines.proofs.SectionLemmas.{items_from_chain, numbers_take, numbers_again, one_takes, used_takes, used_again, reset_takes, reset_again}
use Rattle.aiger_lines.proofs.PartsLemmas.{IsLatchInRange, IsGateInRange}
use Rattle.aiger_ascii.specs.Grammar.{IsLatchLine, IsGateLine}
use Rattle.aiger_ascii.specs.Reading.{State, new_at, define_at, defining_at, input_from, latch_numbers, latch_from, gate_numbers, gate_from}
use Rattle.aiger_ascii.proofs.DefineLemmas.{marked, AreFresh}

-- ---- any line that defines

-- the line of an item was read, and its variable was not defined before
pub record Defines {X : Type 0} (IsLine : List ℕ → X → Type 0) (InRange : X → Type 0) (literal_of : X → ℕ) (s : State) (x : X)
    (t : State) : Type 0 where
  pub item : TakesItem IsLine InRange s.rest x t.rest
  pub fresh : bit s.seen (variable (literal_of x)) ≡ false
  pub seen : t.seen ≡ set s.seen (variable (literal_of x)) true

-- what the numbers of a line say, against the form of the line
pub record IsForm {X : Type 0} (item_from : ℕ → List ℕ → Result X ReadRefusal) (IsLine : List ℕ → X → Type 0)
    (InRange : X → Type 0) : Type 0 where
  pub takes : (at : ℕ) (ns line : List ℕ) (x : X) → item_from at ns ≡ Ok x → IsRow line ns → IsLine line x × InRange x
  pub again : (at : ℕ) (line : List ℕ) (x : X) → IsLine line x → InRange x → (ns : List ℕ) × IsRow line ns × (length ns ≤ 9)
      × (item_from at ns ≡ Ok x)

module _ {X : Type 0} (item_from : ℕ → List ℕ → Result X ReadRefusal) (IsLine : List ℕ → X → Type 0) (InRange : X → Type 0)
    (literal_of : X → ℕ) (size : ℕ) where
  item_takes : IsForm item_from IsLine InRange → (s : State) (x : X) (t : State)
      → defining_at item_from literal_of size s ≡ Ok (x, t) → Defines IsLine InRange literal_of s x t
  item_takes form s x t e =
      let at = place size s.rest in
      let a = bind_ok (numbers_at size s.rest)
      (λ row. item_from at row.0 >>= λ item. define_at at s.seen (literal_of item) >>= λ seen. Ok
      (item, record { seen = seen; rest = row.1 })) (x, t) e in
      let b = bind_ok (item_from at a.0.0)
      (λ item. define_at at s.seen (literal_of item) >>= λ seen. Ok (item, record { seen = seen; rest = a.0.1 }))
      (x, t) a.2 in
      let c = bind_ok (define_at at s.seen (literal_of b.0)) (λ seen. Ok (b.0, record { seen = seen; rest = a.0.1 }))
      (x, t) b.2 in
      let row = numbers_take size s.rest a.0.0 a.0.1 a.1 in
      let item = form.takes at a.0.0 row.row.text b.0 b.1 row.row.form in
      let fresh = guard_ok (bit s.seen (variable (literal_of b.0))) (refusal.Twice at)
      (set s.seen (variable (literal_of b.0)) true) c.0 c.1 in
      let state : State = record { seen = c.0; rest = a.0.1 } in
      let taken : Defines IsLine InRange literal_of s b.0 state = record {
        item = record { line = row.row.text; parts = row.row.parts; form = item.0; range = item.1 };
        fresh = fresh.0;
        seen = sym fresh.1;
      } in
      subst (λ (p : X × State). Defines IsLine InRange literal_of s p.0 p.1) (ok_is (b.0, state) (x, t) c.2) taken

  item_again : IsForm item_from IsLine InRange → (s : State) (x : X) (t : State) → Defines IsLine InRange literal_of s x t
      → defining_at item_from literal_of size s ≡ Ok (x, t)
  item_again form s x t h =
      let at = place size s.rest in
      let f = form.again at h.item.line x h.item.form h.item.range in
      let read : numbers_at size s.rest ≡ Ok (f.0, t.rest) = ap (numbers_at size) h.item.parts
      ∙ numbers_again size h.item.line f.0 t.rest f.1 f.2 in
      rw (read, f.3, h.fresh) (ap (λ (k : List Bool). Ok (x, record { seen = k; rest = t.rest })) (sym h.seen))

  seen_from_chain : (s : State) (xs : List X) (t : State) → Chain (Defines IsLine InRange literal_of) s xs t
      → AreFresh s.seen (map (λ x. variable (literal_of x)) xs) × (t.seen ≡ marked s.seen (map (λ x. variable (literal_of x)) xs))
  seen_from_chain s [] t h = (tt, ap (λ (k : State). k.seen) (sym h))
  seen_from_chain s (x ∷ xs) t h =
      let vs = map (λ (k : X). variable (literal_of k)) xs in
      let others = seen_from_chain h.0 xs t h.2 in (
        (h.1.fresh, subst (λ (k : List Bool). AreFresh k vs) h.1.seen others.0),
        others.1
            ∙ ap (λ (k : List Bool). marked k vs) h.1.seen,
      )

  pub section_takes : IsForm item_from IsLine InRange → (n : ℕ) (s : State) (xs : List X) (t : State)
      → repeated (defining_at item_from literal_of size) n s ≡ Ok (xs, t)
      → TakesItems IsLine InRange s.rest xs t.rest × AreFresh s.seen (map (λ x. variable (literal_of x)) xs)
      × (t.seen ≡ marked s.seen (map (λ x. variable (literal_of x)) xs)) × (length xs ≡ n)
  section_takes form n s xs t e =
      let P = Defines IsLine InRange literal_of in
      let chain = repeated_takes (defining_at item_from literal_of size) P (λ _. Unit {0})
      (λ u x v i read. (item_takes form u x v read, tt)) n s xs t tt e in
      let seen = seen_from_chain s xs t chain.0 in
      (items_from_chain IsLine InRange P (λ (u : State). u.rest) (λ u x v h. h.item) s xs t chain.0, seen.0, seen.1, chain.2)

  section_chain : (seen : List Bool) (text : List ℕ) (xs : List X) (rest : List ℕ) → AreLines IsLine text xs
      → AllByRecursion InRange xs → AreFresh seen (map (λ x. variable (literal_of x)) xs)
      → Chain (Defines IsLine InRange literal_of) (record { seen = seen; rest = text ++ rest }) xs
      (record { seen = marked seen (map (λ x. variable (literal_of x)) xs); rest = rest })
  section_chain seen text [] rest lines range fresh = ap (λ (k : List ℕ). record { seen = seen; rest = k ++ rest }) lines
  section_chain seen text (x ∷ xs) rest lines range fresh = (
    record { seen = set seen (variable (literal_of x)) true; rest = lines.1 ++ rest },
    record {
      item = record {
        line = lines.0;
        parts = ap (λ (k : List ℕ). k ++ rest) lines.3
            ∙ append_assoc lines.0 lines.1 rest;
        form = lines.2;
        range = range.0;
      };
      fresh = fresh.0;
      seen = refl;
    },
    section_chain (set seen (variable (literal_of x)) true) lines.1 xs rest lines.4 range.1 fresh.1,
  )

  pub section_again : IsForm item_from IsLine InRange → (seen : List Bool) (text : List ℕ) (xs : List X) (rest : List ℕ)
      → AreLines IsLine text xs → AllByRecursion InRange xs → AreFresh seen (map (λ x. variable (literal_of x)) xs)
      → repeated (defining_at item_from literal_of size) (length xs) (record { seen = seen; rest = text ++ rest }) ≡ Ok
      (xs, record { seen = marked seen (map (λ x. variable (literal_of x)) xs); rest = rest })
  section_again form seen text xs rest lines range fresh =
      repeated_again (defining_at item_from literal_of size) (Defines IsLine InRange literal_of) (item_again form)
      (record { seen = seen; rest = text ++ rest }) xs
      (record { seen = marked seen (map (λ x. variable (literal_of x)) xs); rest = rest })
      (section_chain seen text xs rest lines range fresh)

-- ---- inputs

both_hold : (a b : Bool) → (a && b) ≡ true → (a ≡ true) × (b ≡ true)
both_hold true b h = (refl, h)
both_hold false b h = absurd cc

new_tests : (vars n : ℕ) → (eqb (n % 2) 0 && leb 2 n && leb n (2 * vars)) ≡ true → IsNew vars n
new_tests vars n h =
    let two = both_hold (eqb (n % 2) 0 && leb 2 n) (leb n (2 * vars)) h in
    let one = both_hold (eqb (n % 2) 0) (leb 2 n) two.0 in
    record {
      even = grind (arith, nat_tests, one.0);
      above = grind (arith, nat_tests, one.1);
      within = grind
          (arith, nat_tests, two.1);
    }

new_held : (vars n : ℕ) → IsNew vars n → (eqb (n % 2) 0 && leb 2 n && leb n (2 * vars)) ≡ true
new_held vars n h =
    let even : eqb (n % 2) 0 ≡ true = rw h.even refl in
    let above : leb 2 n ≡ true = grind (arith, nat_tests, h.above) in
    let within : leb n (2 * vars) ≡ true = grind (arith, nat_tests, h.within) in
    rw (even, above, within) refl

new_takes : (vars at n l : ℕ) → new_at vars at n ≡ Ok l → IsNew vars l × (n ≡ l)
new_takes vars at n l e =
    let held = guard_held (eqb (n % 2) 0 && leb 2 n && leb n (2 * vars)) (refusal.Range at) n l e in
    (subst (λ (k : ℕ). IsNew vars k) held.1 (new_tests vars n held.0), held.1)

new_again : (vars at l : ℕ) → IsNew vars l → new_at vars at l ≡ Ok l
new_again vars at l h = rw (new_held vars l h) refl

pub input_form : (vars : ℕ) → IsForm (input_from vars) IsLiteralLine (IsNew vars)
input_form vars = record {
  takes = λ at ns line l e row.
      let a = bind_ok (one_number at ns) (new_at vars at) l e in
      let n = new_takes vars at a.0 l a.2 in
      (subst (λ (k : List ℕ). IsRow line k) (one_takes at ns a.0 a.1 ∙ ap (λ (k : ℕ). k ∷ []) n.1) row, n.0);
  again = λ at line l row new. (l ∷ [], row, omega arith, new_again vars at l new);
}

-- ---- latches

-- the numbers of a latch line: a third one, or 0 in its place
Spelled : List ℕ → ℕ × ℕ × ℕ → Type 0
Spelled ns n = (ns ≡ n.0 ∷ n.1 ∷ n.2 ∷ []) ⊎ ((ns ≡ n.0 ∷ n.1 ∷ []) × (n.2 ≡ 0))

latch_numbers_take : (at : ℕ) (ns : List ℕ) (n : ℕ × ℕ × ℕ) → latch_numbers at ns ≡ Ok n → Spelled ns n
unfolding Spelled
latch_numbers_take at [] n e = absurd cc
latch_numbers_take at (a ∷ []) n e = absurd cc
latch_numbers_take at (a ∷ b ∷ []) n e = let same = ok_is (a, b, 0) n e in inr
    (ap (λ (k : ℕ × ℕ × ℕ). k.0 ∷ k.1 ∷ []) same, ap (λ (k : ℕ × ℕ × ℕ). k.2) (sym same))
latch_numbers_take at (a ∷ b ∷ c ∷ []) n e = let same = ok_is (a, b, c) n e in inl
    (ap (λ (k : ℕ × ℕ × ℕ). k.0 ∷ k.1 ∷ k.2 ∷ []) same)
latch_numbers_take at (a ∷ b ∷ c ∷ d ∷ ns) n e = absurd cc

reset_zero : (l : ℕ) (r : Reset) → 2 ≤ l → 0 ≡ reset_number l r → r ≡ Zero
reset_zero l Zero h e = refl
reset_zero l One h e = absurd (omega arith)
reset_zero l Free h e = absurd (omega arith)

latch_line : (vars : ℕ) (line ns : List ℕ) (n : ℕ × ℕ × ℕ) (lit next : ℕ) (reset : Reset) → IsNew vars lit → n.0 ≡ lit
    → n.1 ≡ next → n.2 ≡ reset_number lit reset → Spelled ns n → IsRow line ns
    → HasReset line (lit ∷ next ∷ []) lit reset
unfolding Spelled
latch_line vars line ns n lit next reset new e0 e1 e2 (inl h) row =
    let same : ns ≡ lit ∷ next ∷ reset_number lit reset ∷ [] = cc in
    inl (subst (λ (k : List ℕ). IsRow line k) same row)
latch_line vars line ns n lit next reset new e0 e1 e2 (inr h) row =
    let two : ns ≡ n.0 ∷ n.1 ∷ [] = h.0 in
    let same : ns ≡ lit ∷ next ∷ [] = cc in
    inr (subst (λ (k : List ℕ). IsRow line k) same row, reset_zero lit reset new.above (sym h.1 ∙ e2))

latch_takes : (vars at : ℕ) (ns line : List ℕ) (k : Latch) → latch_from vars at ns ≡ Ok k → IsRow line ns → IsLatchLine line k
    × IsLatchInRange vars k
unfolding latch_from
latch_takes vars at ns line k e row =
    let a = bind_ok (latch_numbers at ns)
    (λ n. new_at vars at n.0 >>= λ lit. used_at vars at n.1 >>= λ next. reset_at lit at n.2 >>= λ reset. Ok
    (record { lit = lit; next = next; reset = reset })) k e in
    let b = bind_ok (new_at vars at a.0.0)
    (λ lit. used_at vars at a.0.1 >>= λ next. reset_at lit at a.0.2 >>= λ reset. Ok
    (record { lit = lit; next = next; reset = reset })) k a.2 in
    let c = bind_ok (used_at vars at a.0.1)
    (λ next. reset_at b.0 at a.0.2 >>= λ reset. Ok (record { lit = b.0; next = next; reset = reset })) k b.2 in
    let d = bind_ok (reset_at b.0 at a.0.2) (λ reset. Ok (record { lit = b.0; next = c.0; reset = reset })) k c.2 in
    let lit = new_takes vars at a.0.0 b.0 b.1 in
    let next = used_takes vars at a.0.1 c.0 c.1 in
    let reset = reset_takes b.0 at a.0.2 d.0 d.1 in
    let latch : Latch = record { lit = b.0; next = c.0; reset = d.0 } in
    let form : IsLatchLine line latch = latch_line vars line ns a.0 b.0 c.0 d.0 lit.0 lit.1 next.1 reset
    (latch_numbers_take at ns a.0 a.1) row in
    let range : IsLatchInRange vars latch = record { lit = lit.0; next = next.0 } in
    subst (λ (l : Latch). IsLatchLine line l × IsLatchInRange vars l) (ok_is latch k d.2) (form, range)

latch_again : (vars at : ℕ) (line : List ℕ) (k : Latch) → IsLatchLine line k → IsLatchInRange vars k → (ns : List ℕ)
    × IsRow line ns × (length ns ≤ 9) × (latch_from vars at ns ≡ Ok k)
unfolding latch_from
latch_again vars at line k (inl row) range = (
  k.lit ∷ k.next ∷ reset_number k.lit k.reset ∷ [],
  row,
  omega arith,
  rw (
    new_again vars at k.lit range.lit,
    used_again vars at k.next range.next,
    reset_again k.lit at k.reset range.lit.above,
  ) refl,
)
latch_again vars at line k (inr row) range = (
  k.lit ∷ k.next ∷ [],
  row.0,
  omega arith,
  rw (new_again vars at k.lit range.lit, used_again vars at k.next range.next)
      (ap (λ (r : Reset). Ok (record { lit = k.lit; next = k.next; reset = r })) (sym row.1)),
)

pub latch_form : (vars : ℕ) → IsForm (latch_from vars) IsLatchLine (IsLatchInRange vars)
latch_form vars = record { takes = latch_takes vars; again = latch_again vars }

-- ---- gates

gate_numbers_take : (at : ℕ) (ns : List ℕ) (n : ℕ × ℕ × ℕ) → gate_numbers at ns ≡ Ok n → ns ≡ n.0 ∷ n.1 ∷ n.2 ∷ []
gate_numbers_take at [] n e = absurd cc
gate_numbers_take at (a ∷ []) n e = absurd cc
gate_numbers_take at (a ∷ b ∷ []) n e = absurd cc
gate_numbers_take at (a ∷ b ∷ c ∷ []) n e = ap (λ (k : ℕ × ℕ × ℕ). k.0 ∷ k.1 ∷ k.2 ∷ []) (ok_is (a, b, c) n e)
gate_numbers_take at (a ∷ b ∷ c ∷ d ∷ ns) n e = absurd cc

gate_takes : (vars at : ℕ) (ns line : List ℕ) (g : AndGate) → gate_from vars at ns ≡ Ok g → IsRow line ns → IsGateLine line g
    × IsGateInRange vars g
unfolding gate_from
gate_takes vars at ns line g e row =
    let a = bind_ok (gate_numbers at ns)
    (λ n. new_at vars at n.0 >>= λ lhs. used_at vars at n.1 >>= λ rhs0. used_at vars at n.2 >>= λ rhs1. Ok
    (record { lhs = lhs; rhs0 = rhs0; rhs1 = rhs1 })) g e in
    let b = bind_ok (new_at vars at a.0.0)
    (λ lhs. used_at vars at a.0.1 >>= λ rhs0. used_at vars at a.0.2 >>= λ rhs1. Ok
    (record { lhs = lhs; rhs0 = rhs0; rhs1 = rhs1 })) g a.2 in
    let c = bind_ok (used_at vars at a.0.1)
    (λ rhs0. used_at vars at a.0.2 >>= λ rhs1. Ok (record { lhs = b.0; rhs0 = rhs0; rhs1 = rhs1 })) g b.2 in
    let d = bind_ok (used_at vars at a.0.2) (λ rhs1. Ok (record { lhs = b.0; rhs0 = c.0; rhs1 = rhs1 })) g c.2 in
    let lhs = new_takes vars at a.0.0 b.0 b.1 in
    let rhs0 = used_takes vars at a.0.1 c.0 c.1 in
    let rhs1 = used_takes vars at a.0.2 d.0 d.1 in
    let gate : AndGate = record { lhs = b.0; rhs0 = c.0; rhs1 = d.0 } in
    let e0 : a.0.0 ≡ b.0 = lhs.1 in
    let e1 : a.0.1 ≡ c.0 = rhs0.1 in
    let e2 : a.0.2 ≡ d.0 = rhs1.1 in
    let three : ns ≡ a.0.0 ∷ a.0.1 ∷ a.0.2 ∷ [] = gate_numbers_take at ns a.0 a.1 in
    let same : ns ≡ b.0 ∷ c.0 ∷ d.0 ∷ [] = cc (three, e0, e1, e2) in
    let form : IsGateLine line gate = subst (λ (k : List ℕ). IsRow line k) same row in
    let range : IsGateInRange vars gate = record { lhs = lhs.0; rhs0 = rhs0.0; rhs1 = rhs1.0 } in
    subst (λ (l : AndGate). IsGateLine line l × IsGateInRange vars l) (ok_is gate g d.2) (form, range)

gate_again : (vars at : ℕ) (line : List ℕ) (g : AndGate) → IsGateLine line g → IsGateInRange vars g → (ns : List ℕ)
    × IsRow line ns × (length ns ≤ 9) × (gate_from vars at ns ≡ Ok g)
unfolding gate_from
gate_again vars at line g row range = (
  g.lhs ∷ g.rhs0 ∷ g.rhs1 ∷ [],
  row,
  omega arith,
  rw (new_again vars at g.lhs range.lhs, used_again vars at g.rhs0 range.rhs0, used_again vars at g.rhs1 range.rhs1) refl,
)

pub gate_form : (vars : ℕ) → IsForm (gate_from vars) IsGateLine (IsGateInRange vars)
gate_form vars = record { takes = gate_takes vars; again = gate_again vars }
