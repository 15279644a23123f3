-- Latch lines are read as they are spelled, and what is spelled so is read so.
use Rattle.std.proofs.Common.{◌≡◌, ℕ, ◌+◌, ◌≤◌, List, [], ◌∷◌, length, Result, Ok, refl, sym, ap, subst, ◌∙◌, ◌⊎◌, inl, inr, arith}
use Rattle.ja_text.specs.Rows.{IsRow}
use Rattle.ja_text.specs.Reading.{◌>>=◌}
use Rattle.ja_text.proofs.ReadingLemmas.{ok_is}
use Rattle.aig_model.specs.declared.netlist.Reset.{Reset}
use Rattle.aig_model.specs.declared.netlist.Reset.TheVariants.{Zero}
use Rattle.aig_model.specs.declared.netlist.Latch.{Latch}
use Rattle.aiger_lines.specs.declared.refusal.ReadRefusal.{ReadRefusal}
use Rattle.aiger_lines.specs.Lines.{IsUsed, reset_number}
use Rattle.aiger_lines.specs.Reading.{place, numbers_at, used_at, reset_at}
use Rattle.aiger_lines.proofs.SectionLemmas.{numbers_take, numbers_again, used_takes, used_again, reset_takes, reset_again}
use Rattle.aiger_lines.proofs.PartsLemmas.{bind_then}
use Rattle.aiger_binary.specs.Grammar.{IsLatchLine}
use Rattle.aiger_binary.specs.Reading.{State, latch_numbers, latch_from, latch_at}
use Rattle.aiger_binary.proofs.ItemLemmas.{Defines, IsStep}

-- a latch's next literal is in range
abbrev pub HasNextInRange : ℕ → Latch → Type 0
HasNextInRange vars k = IsUsed vars k.next

-- the numbers of a latch line: a second one, or 0 in its place
Spelled : List ℕ → ℕ × ℕ → Type 0
Spelled ns n = (ns ≡ n.0 ∷ n.1 ∷ []) ⊎ ((ns ≡ n.0 ∷ []) × (n.1 ≡ 0))

latch_numbers_take : (at : ℕ) (ns : List ℕ) (n : ℕ × ℕ) → latch_numbers at ns ≡ Ok n → Spelled ns n
unfolding Spelled
latch_numbers_take at [] n e = absurd cc
latch_numbers_take at (a ∷ []) n e = let same = ok_is (a, 0) n e in inr
    (ap (λ (k : ℕ × ℕ). k.0 ∷ []) same, ap (λ (k : ℕ × ℕ). k.1) (sym same))
latch_numbers_take at (a ∷ b ∷ []) n e = inl (ap (λ (k : ℕ × ℕ). k.0 ∷ k.1 ∷ []) (ok_is (a, b) n e))
latch_numbers_take at (a ∷ b ∷ c ∷ ns) n e = absurd cc

-- where the number of a reset is 0, that is the reset
zero_reset : (lit : ℕ) (r : Reset) → 2 ≤ lit → reset_number lit r ≡ 0 → r ≡ Zero
zero_reset lit r above e = ok_is {F = ReadRefusal} r Zero (sym (reset_again lit 0 r above) ∙ ap (reset_at lit 0) e)

latch_line : (line ns : List ℕ) (n : ℕ × ℕ) (lit : ℕ) (reset : Reset) → 2 ≤ lit → n.1 ≡ reset_number lit reset → Spelled ns n
    → IsRow line ns → IsLatchLine line (record { lit = lit; next = n.0; reset = reset })
unfolding Spelled
latch_line line ns n lit reset above e (inl h) row =
    let same : ns ≡ n.0 ∷ reset_number lit reset ∷ [] = h ∙ ap (λ (k : ℕ). n.0 ∷ k ∷ []) e in
    inl (subst (λ (k : List ℕ). IsRow line k) same row)
latch_line line ns n lit reset above e (inr h) row =
    inr (subst (λ (k : List ℕ). IsRow line k) h.0 row, zero_reset lit reset above (sym e ∙ h.1))

latch_from_takes : (vars lit at : ℕ) (ns line : List ℕ) (k : Latch) → 2 ≤ lit → latch_from vars lit at ns ≡ Ok k → IsRow line ns
    → IsLatchLine line k × HasNextInRange vars k × (k.lit ≡ lit)
unfolding latch_from
latch_from_takes vars lit at ns line k above e row =
    let Three : ℕ → Reset → Result Latch ReadRefusal = λ next reset. Ok (record { lit = lit; next = next; reset = reset }) in
    let Two : ℕ × ℕ → ℕ → Result Latch ReadRefusal = λ n next. reset_at lit at n.1 >>= Three next in
    let One : ℕ × ℕ → Result Latch ReadRefusal = λ n. used_at vars at n.0 >>= Two n in
    bind_then (latch_numbers at ns) One k e (λ n numbers e1.
    bind_then (used_at vars at n.0) (Two n) k e1 (λ next used e2.
    bind_then (reset_at lit at n.1) (Three next) k e2 (λ reset is e3.
    let range = used_takes vars at n.0 next used in
    let line_is = latch_line line ns n lit reset above (reset_takes lit at n.1 reset is)
    (latch_numbers_take at ns n numbers) row in
    let Form = λ (m : ℕ). IsLatchLine line (record { lit = lit; next = m; reset = reset }) in
    subst (λ (l : Latch). IsLatchLine line l × HasNextInRange vars l × (l.lit ≡ lit))
    (ok_is (record { lit = lit; next = next; reset = reset }) k e3) (subst Form range.1 line_is, range.0, refl))))

latch_takes : (vars size : ℕ) (s : State) (k : Latch) (t : State) → 2 ≤ s.lit → latch_at vars size s ≡ Ok (k, t)
    → Defines IsLatchLine (HasNextInRange vars) (λ x. x.lit) s k t
unfolding latch_at
latch_takes vars size s k t above e =
    let at = place size s.rest in
    let Two : List ℕ × List ℕ → Latch
    → Result (Latch × State) ReadRefusal = λ row latch. Ok (latch, record { lit = s.lit + 2; rest = row.1 }) in
    let One : List ℕ × List ℕ → Result (Latch × State) ReadRefusal = λ row. latch_from vars s.lit at row.0 >>= Two row in
    let P = λ (p : Latch × State). Defines IsLatchLine (HasNextInRange vars) (λ x. x.lit) s p.0 p.1 in
    bind_then (numbers_at size s.rest) One (k, t) e (λ row numbers e1.
    bind_then (latch_from vars s.lit at row.0) (Two row) (k, t) e1 (λ latch from e2.
    let line = numbers_take size s.rest row.0 row.1 numbers in
    let taken = latch_from_takes vars s.lit at row.0 line.row.text latch above from line.row.form in
    let whole : P (latch, record { lit = s.lit + 2; rest = row.1 }) = record {
      item = record { line = line.row.text; parts = line.row.parts; form = taken.0; range = taken.1 };
      above = above;
      lit = taken.2;
      next = refl;
    } in
    subst P (ok_is (latch, record { lit = s.lit + 2; rest = row.1 }) (k, t) e2) whole))

latch_from_again : (vars at : ℕ) (line : List ℕ) (k : Latch) → 2 ≤ k.lit → IsLatchLine line k → HasNextInRange vars k
    → (ns : List ℕ) × IsRow line ns × (length ns ≤ 9) × (latch_from vars k.lit at ns ≡ Ok k)
unfolding latch_from
latch_from_again vars at line k above (inl row) range = (
  k.next ∷ reset_number k.lit k.reset ∷ [],
  row,
  omega arith,
  rw (used_again vars at k.next range, reset_again k.lit at k.reset above) refl,
)
latch_from_again vars at line k above (inr row) range = (
  k.next ∷ [],
  row.0,
  omega arith,
  rw (used_again vars at k.next range)
      (ap (λ (r : Reset). Ok (record { lit = k.lit; next = k.next; reset = r })) (sym row.1)),
)

latch_read : (vars size : ℕ) (s : State) (k : Latch) (t : State) (ns : List ℕ) → numbers_at size s.rest ≡ Ok (ns, t.rest)
    → latch_from vars s.lit (place size s.rest) ns ≡ Ok k → t.lit ≡ s.lit + 2 → latch_at vars size s ≡ Ok (k, t)
unfolding latch_at
latch_read vars size s k t ns read from next = rw (read, from)
    (ap (λ (l : ℕ). Ok (k, record { lit = l; rest = t.rest })) (sym next))

latch_again : (vars size : ℕ) (s : State) (k : Latch) (t : State) → Defines IsLatchLine (HasNextInRange vars) (λ x. x.lit) s k t
    → latch_at vars size s ≡ Ok (k, t)
latch_again vars size s k t h =
    let at = place size s.rest in
    let above : 2 ≤ k.lit = omega (arith, h.above, h.lit) in
    let from = latch_from_again vars at h.item.line k above h.item.form h.item.range in
    let read : numbers_at size s.rest ≡ Ok (from.0, t.rest) = ap (numbers_at size) h.item.parts
    ∙ numbers_again size h.item.line from.0 t.rest from.1 from.2 in
    latch_read vars size s k t from.0 read (subst (λ (l : ℕ). latch_from vars l at from.0 ≡ Ok k) h.lit from.3) h.next

pub latch_step : (vars size : ℕ) → IsStep (latch_at vars size) IsLatchLine (HasNextInRange vars) (λ k. k.lit)
latch_step vars size = record { takes = latch_takes vars size; again = latch_again vars size }
