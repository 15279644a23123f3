-- Gates are read as they are spelled, and what is spelled so is read so.
use Rattle.std.proofs.Common.{◌≡◌, ℕ, ◌+◌, ◌-◌, ◌*◌, ◌≤◌, Bool, true, false, cond, leb, List, [], ◌∷◌, ◌++◌, length, Result, Ok, Err, refl, sym, ap, subst, ◌∙◌, append_assoc, arith}
use Rattle.std.specs.Prelude.{◌&&◌}
use Rattle.std.specs.List.{AllByRecursion}
use Rattle.std.proofs.lemmas.Bool.Decides.{nat_tests}
use Rattle.ja_text.specs.Forms.{BeginsWith}
use Rattle.ja_text.specs.Reading.{◌>>=◌}
use Rattle.ja_text.specs.Repeated.{repeated}
use Rattle.ja_text.proofs.ReadingLemmas.{guard_held, ok_is}
use Rattle.aig_model.specs.declared.netlist.AndGate.{AndGate}
use Rattle.aiger_lines.specs.declared.refusal.ReadRefusal.{ReadRefusal}
use Rattle.aiger_lines.specs.declared.refusal.ReadRefusal.TheVariants as refusal
use Rattle.aiger_lines.specs.Lines.{AreLines, TakesItem}
use Rattle.aiger_lines.specs.Reading.{place}
use Rattle.aiger_lines.proofs.PartsLemmas.{bind_then}
use Rattle.aiger_binary.specs.Delta.{IsDelta}
use Rattle.aiger_binary.specs.Grammar.{IsGateText}
use Rattle.aiger_binary.specs.Reading.{State, delta_at, right_at, gate_at}
use Rattle.aiger_binary.proofs.DeltaLemmas.{delta_takes, delta_again}
use Rattle.aiger_binary.proofs.OrderLemmas.{AreCounted, IsAbove}
use Rattle.aiger_binary.proofs.ItemLemmas.{Defines, IsStep, section_again}

-- nothing more is asked of a gate
abbrev pub AnyGate : AndGate → Type 0
AnyGate g = Unit {0}

both_hold : (a b : Bool) → (a && b) ≡ true → (a ≡ true) × (b ≡ true)
both_hold true b h = (refl, h)
both_hold false b h = absurd cc

is_at_most : (m n : ℕ) → leb m n ≡ true → m ≤ n
is_at_most m n h = grind (arith, nat_tests)

tests_at_most : (m n : ℕ) → m ≤ n → leb m n ≡ true
tests_at_most m n h = grind (arith, nat_tests)

-- a delta was read, and the literal below
record TakesRight (least above : ℕ) (bytes : List ℕ) (l : ℕ) (rest : List ℕ) : Type 0 where
  delta : ℕ
  spelled : BeginsWith (λ text. IsDelta text delta) bytes rest
  most : least ≤ delta
  above_is : above ≡ l + delta

right_takes : (least size above : ℕ) (bytes : List ℕ) (l : ℕ) (rest : List ℕ) → right_at least size above bytes ≡ Ok (l, rest)
    → TakesRight least above bytes l rest
unfolding right_at
right_takes least size above bytes l rest e =
    let Below : ℕ × List ℕ
    → Result (ℕ × List ℕ) ReadRefusal = λ d. cond (leb least d.0 && leb d.0 above) (Ok (above - d.0, d.1))
    (Err (refusal.Order (place size bytes))) in
    bind_then (delta_at size bytes) Below (l, rest) e (λ d read e1.
    let held = guard_held (leb least d.0 && leb d.0 above) (refusal.Order (place size bytes)) (above - d.0, d.1) (l, rest) e1 in
    let tests = both_hold (leb least d.0) (leb d.0 above) held.0 in
    let below : d.0 ≤ above = is_at_most d.0 above tests.1 in
    let taken : TakesRight least above bytes (above - d.0) d.1 = record {
      delta = d.0;
      spelled = delta_takes size bytes d.0 d.1 read;
      most = is_at_most least d.0 tests.0;
      above_is = omega arith;
    } in
    subst (λ (p : ℕ × List ℕ). TakesRight least above bytes p.0 p.1) held.1 taken)

right_again : (least size above : ℕ) (text : List ℕ) (delta l : ℕ) (rest : List ℕ) → IsDelta text delta → least ≤ delta
    → above ≡ l + delta → right_at least size above (text ++ rest) ≡ Ok (l, rest)
unfolding right_at
right_again least size above text delta l rest spelled most e =
    let below : delta ≤ above = omega arith in
    let left : above - delta ≡ l = omega arith in
    rw (delta_again size text delta rest spelled, tests_at_most least delta most, tests_at_most delta above below)
    (ap (λ (k : ℕ). Ok (k, rest)) left)

gate_text : (lhs rhs0 rhs1 : ℕ) (bytes after rest : List ℕ) → TakesRight 1 lhs bytes rhs0 after
    → TakesRight 0 rhs0 after rhs1 rest → TakesItem IsGateText AnyGate bytes (record { lhs = lhs; rhs0 = rhs0; rhs1 = rhs1 }) rest
gate_text lhs rhs0 rhs1 bytes after rest first second = record {
  line = first.spelled.text ++ second.spelled.text;
  parts = first.spelled.parts ∙ ap (λ (k : List ℕ). first.spelled.text ++ k) second.spelled.parts
      ∙ sym (append_assoc first.spelled.text second.spelled.text rest);
  form = record {
    first = first.spelled.text;
    second = second.spelled.text;
    delta0 = first.delta;
    delta1 = second.delta;
    text_is = refl;
    spelled0 = first.spelled.form;
    spelled1 = second.spelled.form;
    lhs_is = first.above_is;
    rhs0_is = second.above_is;
    below = omega (arith, first.above_is, first.most);
  };
  range = tt;
}

gate_takes : (size : ℕ) (s : State) (g : AndGate) (t : State) → 2 ≤ s.lit → gate_at size s ≡ Ok (g, t)
    → Defines IsGateText AnyGate (λ x. x.lhs) s g t
unfolding gate_at
gate_takes size s g t above e =
    let Two : ℕ × List ℕ → ℕ × List ℕ
    → Result (AndGate × State) ReadRefusal = λ rhs0 rhs1. Ok
    (record { lhs = s.lit; rhs0 = rhs0.0; rhs1 = rhs1.0 }, record { lit = s.lit + 2; rest = rhs1.1 }) in
    let One : ℕ × List ℕ → Result (AndGate × State) ReadRefusal = λ rhs0. right_at 0 size rhs0.0 rhs0.1 >>= Two rhs0 in
    let P = λ (p : AndGate × State). Defines IsGateText AnyGate (λ x. x.lhs) s p.0 p.1 in
    bind_then (right_at 1 size s.lit s.rest) One (g, t) e (λ rhs0 first e1.
    bind_then (right_at 0 size rhs0.0 rhs0.1) (Two rhs0) (g, t) e1 (λ rhs1 second e2.
    let whole : P (record { lhs = s.lit; rhs0 = rhs0.0; rhs1 = rhs1.0 }, record { lit = s.lit + 2; rest = rhs1.1 }) = record {
      item = gate_text s.lit rhs0.0 rhs1.0 s.rest rhs0.1 rhs1.1 (right_takes 1 size s.lit s.rest rhs0.0 rhs0.1 first)
          (right_takes 0 size rhs0.0 rhs0.1 rhs1.0 rhs1.1 second);
      above = above;
      lit = refl;
      next = refl;
    } in
    subst P (ok_is (record { lhs = s.lit; rhs0 = rhs0.0; rhs1 = rhs1.0 }, record { lit = s.lit + 2; rest = rhs1.1 })
    (g, t) e2) whole))

gate_again : (size : ℕ) (s : State) (g : AndGate) (t : State) → Defines IsGateText AnyGate (λ x. x.lhs) s g t
    → gate_at size s ≡ Ok (g, t)
unfolding gate_at
gate_again size s g t h =
    let f = h.item.form in
    let parts : s.rest ≡ f.first ++ (f.second ++ t.rest) = h.item.parts ∙ ap (λ (k : List ℕ). k ++ t.rest) f.text_is
    ∙ append_assoc f.first f.second t.rest in
    let some : 1 ≤ f.delta0 = omega (arith, f.lhs_is, f.below) in
    let read0 : right_at 1 size s.lit s.rest ≡ Ok (g.rhs0, f.second ++ t.rest) = ap (right_at 1 size s.lit) parts
    ∙ right_again 1 size s.lit f.first f.delta0 g.rhs0 (f.second ++ t.rest) f.spelled0 some (sym h.lit ∙ f.lhs_is) in
    let read1 : right_at 0 size g.rhs0 (f.second ++ t.rest) ≡ Ok
    (g.rhs1, t.rest) = right_again 0 size g.rhs0 f.second f.delta1 g.rhs1 t.rest f.spelled1 (omega arith) f.rhs0_is in
    let same : ◌≡◌ {A = AndGate × State}
    (record { lhs = s.lit; rhs0 = g.rhs0; rhs1 = g.rhs1 }, record { lit = s.lit + 2; rest = t.rest }) (g, t) = rw (← h.lit)
    (ap (λ (l : ℕ). (g, record { lit = l; rest = t.rest })) (ap (λ (l : ℕ). l + 2) h.lit ∙ sym h.next)) in
    rw (read0, read1) (ap (λ (p : AndGate × State). Ok p) same)

pub gate_step : (size : ℕ) → IsStep (gate_at size) IsGateText AnyGate (λ g. g.lhs)
gate_step size = record { takes = gate_takes size; again = gate_again size }

any_gates : (gs : List AndGate) → AllByRecursion AnyGate gs
any_gates [] = tt
any_gates (g ∷ gs) = (tt, any_gates gs)

-- gates from their texts
pub gates_above : (text : List ℕ) (gs : List AndGate) (l : ℕ) → AreLines IsGateText text gs → AreCounted (λ g. g.lhs) (2 * l) gs
    → AllByRecursion IsAbove gs
gates_above text [] l lines counted = tt
gates_above text (g ∷ gs) l lines counted =
    let f = lines.2 in
    let next : 2 * l + 2 ≡ 2 * (l + 1) = omega arith in (
      record { rhs0 = omega (arith, f.below, counted.0); rhs1 = omega (arith, f.below, f.rhs0_is, counted.0) },
      gates_above lines.1 gs (l + 1) lines.4 (subst (λ (k : ℕ). AreCounted (λ (x : AndGate). x.lhs) k gs) next counted.1),
    )

pub gates_again : (size l : ℕ) (text : List ℕ) (gs : List AndGate) (rest : List ℕ) → 2 ≤ l → AreLines IsGateText text gs
    → AreCounted (λ g. g.lhs) l gs
    → (next : ℕ) × (repeated (gate_at size) (length gs) (record { lit = l; rest = text ++ rest }) ≡ Ok
    (gs, record { lit = next; rest = rest }))
gates_again size l text gs rest above lines counted = section_again (gate_at size) IsGateText AnyGate (λ g. g.lhs)
    (gate_step size) l text gs rest above lines (any_gates gs) counted
